-- The sets of rows that an engine keeps for each node of a class set, in a table without dependencies: the rows it leads to, the rows
-- whose availability moments, whose visibility moments. For any number of rows. Assumes nothing.
use Rattle.std.specs.Prelude.{◌≡◌, Bool, ℕ, ◌<◌, ltb}
use Rattle.std.proofs.Common.{ap}
use Rattle.finite.specs.Logic.{◌and◌}
use Rattle.finite.specs.Below.{least, least_cong}
use Rattle.model.specs.Table.{Table}
use Rattle.model.specs.Moment.{itself, program_order}
use Rattle.model.specs.Availability.{availability_moment, visibility_moment}
use Rattle.model.specs.Happens.{inter_thread}
use Rattle.model_closing.specs.Order.{later_row, order_at_at}
use Rattle.model_closing.specs.Nodes.{releaser, passes_behind, first_behind, first_release}

-- ---- definitions

-- the three sets of row h: rows reached, rows whose availability moments are, rows whose visibility moments are
unfoldable pub reached_at : Table → ℕ → ℕ → ℕ → Bool
reached_at t s h j = inter_thread t s (itself h) (itself j)

unfoldable pub reached_available : Table → ℕ → ℕ → ℕ → Bool
reached_available t s h a = inter_thread t s (itself h) (availability_moment t a)

unfoldable pub reached_visible : Table → ℕ → ℕ → ℕ → Bool
reached_visible t s h v = inter_thread t s (itself h) (visibility_moment t v)

-- the next row of h's agent that passes; as many as there are rows where none does
unfoldable pub passes_later : Table → (ℕ → Bool) → ℕ → ℕ → Bool
passes_later t p h j = p j and later_row t h j

unfoldable pub next_release : Table → ℕ → ℕ → ℕ
next_release t s h = least t.rows (passes_later t (releaser t s) h)

-- what row h gets of the row n, where there is one
unfoldable pub of_next : Table → (ℕ → ℕ → Bool) → ℕ → ℕ → Bool
of_next t got n c = ltb n t.rows and got n c

-- ---- laws: the next rows

first_next : (t : Table) (p : ℕ → Bool) (h : ℕ) → h < t.rows → first_behind t p (itself h) ≡ least t.rows (passes_later t p h)
unfolding first_behind passes_behind passes_later
first_next t p h l =
    least_cong (λ j. p j and program_order t (itself h) (itself j)) (λ j. p j and later_row t h j) t.rows
    (λ j o. ap (λ (b : Bool). p j and b) (order_at_at t h j l o))

pub next_release_lem : (t : Table) (s h : ℕ) → h < t.rows → first_release t s (itself h) ≡ next_release t s h
unfolding first_release next_release
next_release_lem t s h l = first_next t (releaser t s) h l
