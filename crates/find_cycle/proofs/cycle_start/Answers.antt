use Rattle.find_cycle.proofs.Closing.{start_looping, start_law}
use borrow.Author.Rules.{rules}
use Rattle.find_cycle.proofs.cycle_start.Goals as goal

pub first_looping-requires : goal.first_looping-requires
first_looping-requires c =
    (search rules, search rules, start_looping _ _ _ _ c.requires.0 c.clear.ensures c.mark_rows.ensures)

pub returns : goal.returns
returns c =
    start_law _ _ _ _ c.requires.0 c.clear.ensures c.mark_rows.ensures _ c.first_looping.ensures
