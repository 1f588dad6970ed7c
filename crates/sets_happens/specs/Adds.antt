-- What inter-thread order for one class set adds to happens-before, from the sets of its nodes. Assumes nothing.
use Rattle.std.specs.Prelude.{Bool, false, List, ℕ}
use Rattle.model.specs.Moment.{itself}
use Rattle.model.specs.Happens.{inter_thread}
use Rattle.model.specs.Availability.{availability_moment, visibility_moment}
use Rattle.model.specs.Table.{Table}
use Rattle.bits.specs.Within.{Within}
use Rattle.model_closing.specs.Nodes.{node}
use Rattle.model_closing.specs.Sets.{reached_at, reached_available, reached_visible}
use Rattle.sets_of_rows.specs.declared.Set.{Set}
use Rattle.sets_of_rows.specs.Member.{in_set}
use Rattle.sets_grids.specs.declared.Concerned.{Concerned}
use Rattle.sets_grids.specs.Regions.{HAPPENS, HAPPENS_END, AVAILABLE_AT, AVAILABLE_VISIBLE, AVAILABLE_AVAILABLE, VISIBLE_VISIBLE, REACH_AT, REACH_VISIBLE, REACH_AVAILABLE}
use Rattle.sets_grids.specs.Grid.{GridOn, AddedGrid}
use Rattle.sets_grids.specs.Given.{Given}
use Rattle.sets_grids.specs.Concerns.{Told, Concerns}
use Rattle.sets_grids.specs.Happens.{HappensBy}

-- ---- definitions

-- what is asked: the class set c, and what is reached from its nodes
pub record Reached (t : Table) (n c : ℕ) (ends : Set) (k : Concerned) (s w : List ℕ) : Type 0 where
  pub given : Given t n s w
  pub told : Told t n ends
  pub concerns : Concerns t n c ends k
  pub at : GridOn (node t (in_set ends) c) REACH_AT n (reached_at t c) w
  pub visible : GridOn (node t (in_set ends) c) REACH_VISIBLE n (reached_visible t c) w
  pub available : GridOn (node t (in_set ends) c) REACH_AVAILABLE n (reached_available t c) w

-- program order
unfoldable pub none : ℕ → Bool
none c = false

pub record MadeProgram (t : Table) (n : ℕ) (w u : List ℕ) : Type 0 where
  pub order : HappensBy t none n u
  pub frame : Within HAPPENS HAPPENS_END w u

-- from rows; from availability operations; from visibility operations
abbrev pub AddsAt : Table → ℕ → ℕ → List ℕ → List ℕ → Type 0
AddsAt t n c w u = AddedGrid HAPPENS AVAILABLE_AT HAPPENS n (λ x y. inter_thread t c (itself x) (itself y)) w u

pub record AddsAvailable (t : Table) (n c : ℕ) (w u : List ℕ) : Type 0 where
  pub rows : AddedGrid AVAILABLE_AT VISIBLE_VISIBLE AVAILABLE_AT n (λ a y. inter_thread t c (availability_moment t a) (itself y)) w u
  pub visibles : AddedGrid AVAILABLE_AT VISIBLE_VISIBLE AVAILABLE_VISIBLE n (λ a v. inter_thread t c (availability_moment t a) (visibility_moment t v)) w u
  pub availables : AddedGrid AVAILABLE_AT VISIBLE_VISIBLE AVAILABLE_AVAILABLE n (λ a b. inter_thread t c (availability_moment t a) (availability_moment t b)) w u

abbrev pub AddsVisible : Table → ℕ → ℕ → List ℕ → List ℕ → Type 0
AddsVisible t n c w u = AddedGrid VISIBLE_VISIBLE HAPPENS_END VISIBLE_VISIBLE n (λ v z. inter_thread t c (visibility_moment t v) (visibility_moment t z)) w u
