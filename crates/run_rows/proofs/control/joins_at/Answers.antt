use Rattle.run_rows.specs.Forms.{joins_off, joins_on}
use Rattle.finite.specs.Logic.{◌and◌}
use mathlib.Core.Path.{ap}
use mathlib.Core.Bool.{not}
use Rattle.run_rows.proofs.control.joins_at.Goals as goal

pub returns-then-not-c-d : goal.returns-then-not-c-d
unfolding ◌and◌
returns-then-not-c-d c = joins_off _ _ _ _ _ _ _ _ _ c.row-r.ensures c.row-q.ensures c.same_instance.ensures (ap not c.if-not-c-d.true)

pub returns : goal.returns
unfolding ◌and◌
returns c =
    joins_on _ _ _ _ _ _ _ _ _ _ c.row-r.ensures c.row-q.ensures
    c.same_instance.ensures (ap not c.if-not-c-d.false) c.shares.ensures
