-- What a row's start alone tells of two rows. Assumes nothing.
use Rattle.std.specs.Prelude.{◌≡◌, ℕ, false, List, ◌≢◌}
use Rattle.std.proofs.Common.{ne_eqb}
use Rattle.finite.specs.Logic.{and_false_left, and_false_right}
use Rattle.model.specs.declared.Row.{Row}
use Rattle.model.specs.Scope.{same_location, mutual_rows}

-- M3: two rows with different starts are not mutually-ordered
pub starts_apart : (p : List (List ℕ)) (r q : Row) → (r.start ≢ q.start) → mutual_rows p r q ≡ false
unfolding mutual_rows same_location
starts_apart p r q h = and_false_left _ _ (and_false_right _ _ (and_false_left _ _ (and_false_left _ _ (ne_eqb r.start q.start h))))
