-- `is_direct` meets its contract: the direct cases on the rows that were read. Assumes nothing.
use Rattle.finite.specs.Logic.{◌and◌, ◌or◌}
use Rattle.ask_accepts.specs.Judging.{direct_told}
use Rattle.ask_accepts.proofs.is_direct.Goals as goal

pub returns : goal.returns
unfolding ◌and◌ ◌or◌
returns c =
    direct_told _ _ _ _ _ _ _ _ _ _ _ _ _ _ c.row-r.ensures c.row-q.ensures
    c.is_synced-b.ensures c.is_ordered-o.ensures c.is_case.ensures
    c.is_system.ensures
