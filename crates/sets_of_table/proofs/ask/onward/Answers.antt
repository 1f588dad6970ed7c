use Rattle.sets_of_table.specs.Ask.{onward_rows}
use Rattle.sets_of_table.proofs.ask.onward.Goals as goal

pub returns : goal.returns
returns c =
    let pre = c.requires in
    onward_rows pre.1 _ _ _ _ c.of_agent.ensures c.below.ensures c.sub.ensures
