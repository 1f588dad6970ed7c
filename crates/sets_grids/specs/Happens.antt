-- Happens-before as five relations between rows, each a grid; and what it is made from. Assumes nothing.
use Rattle.std.specs.Prelude.{Bool, List, ℕ, suc}
use Rattle.finite.specs.Logic.{◌and◌, ◌or◌}
use Rattle.finite.specs.Below.{any_below}
use Rattle.model.specs.Synchronizes.{synchronizes}
use Rattle.model.specs.Limits.{CLASS_SETS}
use Rattle.model.specs.Moment.{itself, program_order}
use Rattle.model.specs.Happens.{inter_thread, happens}
use Rattle.model.specs.Availability.{availability_moment, visibility_moment}
use Rattle.model.specs.Table.{Table}
use Rattle.work_area.specs.Regions.{SYNC}
use Rattle.sets_of_rows.specs.declared.Set.{Set}
use Rattle.sets_grids.specs.Regions.{HAPPENS, AVAILABLE_AT, AVAILABLE_VISIBLE, AVAILABLE_AVAILABLE, VISIBLE_VISIBLE, DEPENDS}
use Rattle.sets_grids.specs.Grid.{Grid}
use Rattle.sets_grids.specs.Given.{Given}
use Rattle.sets_grids.specs.Concerns.{Told}

-- ---- definitions

-- between rows; from the availability operation of a to a row, a visibility and an availability operation; between visibility operations
unfoldable pub happens_rows : Table → ℕ → ℕ → Bool
happens_rows t x y = happens t (itself x) (itself y)

unfoldable pub available_rows : Table → ℕ → ℕ → Bool
available_rows t a y = happens t (availability_moment t a) (itself y)

unfoldable pub available_visibles : Table → ℕ → ℕ → Bool
available_visibles t a v = happens t (availability_moment t a) (visibility_moment t v)

unfoldable pub availables : Table → ℕ → ℕ → Bool
availables t a c = happens t (availability_moment t a) (availability_moment t c)

unfoldable pub visibles : Table → ℕ → ℕ → Bool
visibles t w v = happens t (visibility_moment t w) (visibility_moment t v)

pub record Happening (t : Table) (n : ℕ) (w : List ℕ) : Type 0 where
  pub rows : Grid HAPPENS n (happens_rows t) w
  pub available_rows_lem : Grid AVAILABLE_AT n (available_rows t) w
  pub available_visibles_lem : Grid AVAILABLE_VISIBLE n (available_visibles t) w
  pub availables : Grid AVAILABLE_AVAILABLE n (availables t) w
  pub visibles : Grid VISIBLE_VISIBLE n (visibles t) w

-- the same of part of happens-before: program order, and inter-thread order for the class sets that pass `done`, class set k + 1 by k
unfoldable pub done_by : Table → (ℕ → Bool) → ℕ → ℕ → ℕ → Bool
done_by t done m k c = done c and inter_thread t (suc c) m k

unfoldable pub order_by : Table → (ℕ → Bool) → ℕ → ℕ → Bool
order_by t done m k = program_order t m k or any_below CLASS_SETS (done_by t done m k)

pub record HappensBy (t : Table) (done : ℕ → Bool) (n : ℕ) (w : List ℕ) : Type 0 where
  pub rows : Grid HAPPENS n (λ x y. order_by t done (itself x) (itself y)) w
  pub available_rows_lem : Grid AVAILABLE_AT n (λ a y. order_by t done (availability_moment t a) (itself y)) w
  pub available_visibles_lem : Grid AVAILABLE_VISIBLE n (λ a v. order_by t done (availability_moment t a) (visibility_moment t v)) w
  pub availables : Grid AVAILABLE_AVAILABLE n (λ a c. order_by t done (availability_moment t a) (availability_moment t c)) w
  pub visibles : Grid VISIBLE_VISIBLE n (λ v u. order_by t done (visibility_moment t v) (visibility_moment t u)) w

-- what they are made from
pub record Leading (t : Table) (n : ℕ) (ends : Set) (s w : List ℕ) : Type 0 where
  pub given : Given t n s w
  pub told : Told t n ends
  pub syncs : Grid SYNC n (synchronizes t) w
  pub depends : Grid DEPENDS n t.depends w
