-- What is asked of happens-before, from the sets of rows that nodes have got: between rows, from availability moments to rows, to
-- visibility moments and to availability moments, and from visibility moments to visibility moments. Each is program order or, for some
-- class set, what the first release row behind the source has got. For any table and any number of rows. Assumes nothing.
use Rattle.std.specs.Prelude.{Bool, ℕ}
use Rattle.std.proofs.Math.Bool.{cond}
use Rattle.std.proofs.Math.Dec.{eqb, ltb}
use Rattle.finite.specs.Logic.{◌and◌, ◌or◌}
use Rattle.finite.specs.Below.{least}
use Rattle.model.specs.Row.{plain}
use Rattle.model.specs.Table.{Table}
use Rattle.model.specs.Moment.{itself}
use Rattle.model.specs.Happens.{inter_thread}
use Rattle.model_closing.specs.Order.{later_row, from_row}
use Rattle.model_closing.specs.Nodes.{releaser, node}
use Rattle.model_closing.specs.Direct.{takes_part, available_for, visible_for}
use Rattle.model_closing.specs.Sets.{reached_at, reached_available, reached_visible, next_release, of_next}

-- ---- definitions

-- what a row leads to: from its own moment to any moment
abbrev pub leads : Table → ℕ → ℕ → ℕ → Bool
leads t s x m = inter_thread t s (itself x) m

-- y is row r, where there is one, or r has got it
unfoldable pub next_or_of : Table → (ℕ → ℕ → Bool) → ℕ → ℕ → Bool
next_or_of t got r y = ltb r t.rows and (eqb r y or got r y)

-- the first release row behind row a's availability operation: a barrier's and an atomic's own row comes after it
unfoldable pub releases_from : Table → ℕ → ℕ → ℕ → Bool
releases_from t s a j = releaser t s j and cond (plain (t.row a)) (later_row t a j) (from_row t a j)

unfoldable pub release_from : Table → ℕ → ℕ → ℕ
release_from t s a = least t.rows (releases_from t s a)

-- what a source leads to for s, where `got` says it of nodes: row x to rows; row a's availability operation to rows, and to moments of another
-- sort; row w's visibility operation to moments of another sort
unfoldable pub from_rows_of : Table → (ℕ → Bool) → ℕ → (ℕ → ℕ → Bool) → ℕ → ℕ → Bool
from_rows_of t ends s got x y = cond (node t ends s x) (got x y) (takes_part t s x and next_or_of t got (next_release t s x) y)

unfoldable pub from_available_at : Table → ℕ → (ℕ → ℕ → Bool) → ℕ → ℕ → Bool
from_available_at t s got a y = available_for t s a and next_or_of t got (release_from t s a) y

unfoldable pub from_available : Table → ℕ → (ℕ → ℕ → Bool) → ℕ → ℕ → Bool
from_available t s got a c = available_for t s a and of_next t got (release_from t s a) c

unfoldable pub from_visible : Table → ℕ → (ℕ → ℕ → Bool) → ℕ → ℕ → Bool
from_visible t s got w v = visible_for t s w and of_next t got (next_release t s w) v

-- inter-thread order for s between what is asked
unfoldable pub asked_at : Table → (ℕ → Bool) → ℕ → ℕ → ℕ → Bool
asked_at t ends s x y = from_rows_of t ends s (reached_at t s) x y

unfoldable pub asked_available_at : Table → ℕ → ℕ → ℕ → Bool
asked_available_at t s a y = from_available_at t s (reached_at t s) a y

unfoldable pub asked_available_visible : Table → ℕ → ℕ → ℕ → Bool
asked_available_visible t s a v = from_available t s (reached_visible t s) a v

unfoldable pub asked_availables : Table → ℕ → ℕ → ℕ → Bool
asked_availables t s a c = from_available t s (reached_available t s) a c

unfoldable pub asked_visibles : Table → ℕ → ℕ → ℕ → Bool
asked_visibles t s w v = from_visible t s (reached_visible t s) w v
