use Rattle.finite.specs.Logic.{◌and◌, ◌or◌}
use Rattle.door_admit.proofs.Laws.{kind_plain, kind_other}
use Rattle.door_admit.proofs.row_faults.kind_fits.Goals as goal

pub returns-then-is_plain : goal.returns-then-is_plain
unfolding ◌and◌ ◌or◌
returns-then-is_plain c =
    rw (kind_plain _ _ _ c.is_plain.ensures c.if-is_plain.true) cc

pub returns : goal.returns
unfolding ◌and◌ ◌or◌
returns c =
    rw (kind_other _ _ _ c.is_plain.ensures c.if-is_plain.false) cc
