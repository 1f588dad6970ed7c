-- Two rows have an edge where one of the four holds, whichever has the lowest number. Assumes nothing.
use Rattle.std.specs.Prelude.{◌≡◌, refl, Bool, true, false, not, cond, ℕ, eqb}
use Rattle.finite.specs.Logic.{◌or◌}
use Rattle.model.specs.Table.{Table}
use Rattle.model.specs.Scope.{follows}
use Rattle.model.specs.Edge.{before_some, reads_from, from_reads, edge_number, edge}

numbered : (a b c d : Bool) → not (eqb (cond a 1 (cond b 2 (cond c 3 (cond d 4 0)))) 0) ≡ (a or b or c or d)
unfolding ◌or◌
numbered true b c d = refl
numbered false true c d = refl
numbered false false true d = refl
numbered false false false true = refl
numbered false false false false = refl

pub edge_any : (t : Table) (source : ℕ → ℕ) (x y : ℕ)
    → edge t source x y ≡ (before_some t x y or follows t x y or reads_from t source x y or from_reads t source x y)
unfolding edge edge_number
edge_any t source x y = numbered (before_some t x y) (follows t x y) (reads_from t source x y) (from_reads t source x y)
