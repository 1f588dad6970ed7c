use Rattle.run_rows.specs.Forms.{mutual_off, mutual_on}
use Rattle.finite.specs.Logic.{◌and◌}
use mathlib.Core.Path.{ap}
use mathlib.Core.Bool.{not}
use Rattle.run_rows.proofs.sequences.mutual_at.Goals as goal

pub returns-then-not-i-j : goal.returns-then-not-i-j
unfolding ◌and◌
returns-then-not-i-j c =
    mutual_off _ _ _ _ _ _ _ _ _ _ _ c.row-r.ensures c.row-q.ensures c.is_atomic.ensures c.is_atomic-2.ensures c.same_location.ensures (ap not c.if-not-i-j.true)

pub returns : goal.returns
unfolding ◌and◌
returns c =
    mutual_on _ _ _ _ _ _ _ _ _ _ _ c.row-r.ensures c.row-q.ensures c.is_atomic.ensures c.is_atomic-2.ensures c.same_location.ensures _ (ap not c.if-not-i-j.false)
    c.together.ensures
