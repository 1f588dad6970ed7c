use Rattle.sets_of_table.specs.Ask.{after_rows}
use Rattle.sets_of_table.proofs.ask.after.Goals as goal

pub returns : goal.returns
returns c =
    let pre = c.requires in
    after_rows pre.1 _ _ _ _ c.of_agent.ensures c.above.ensures c.bitand.ensures
