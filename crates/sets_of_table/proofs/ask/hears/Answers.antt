use Rattle.sets_of_table.specs.Ask.{agent_low, hears_rows}
use native.Mathlib.Omega.{arith}
use Rattle.model.specs.Table.{decode}
use Rattle.sets_of_table.proofs.ask.hears.Goals as goal

pub get-requires : goal.get-requires
unfolding decode
get-requires c =
    let pre = c.requires in
    let a = agent_low pre.1 _ pre.0 in
    let e = c.agent.ensures in
    let r = pre.1.space in
    omega arith

pub returns : goal.returns
unfolding decode
returns c = hears_rows c.requires.1 _ _ _ c.requires.0 c.agent.ensures c.get.ensures
