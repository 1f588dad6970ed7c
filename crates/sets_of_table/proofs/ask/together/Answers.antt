use Rattle.sets_of_table.specs.Ask.{together_rows}
use Rattle.sets_of_table.proofs.ask.together.Goals as goal

pub returns : goal.returns
returns c =
    let pre = c.requires in
    together_rows pre.1 _ _ _ _ c.reach.ensures c.hears.ensures c.bitand.ensures
