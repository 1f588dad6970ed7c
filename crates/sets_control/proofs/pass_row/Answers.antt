use Rattle.model.specs.Table.{decode}
use Rattle.sets_grids.specs.Given.{given_few}
use Rattle.sets_of_table.specs.Ask.{agent_low}
use Rattle.sets_control.specs.Passed.{pass_turn}
use native.Mathlib.Omega.{arith}
use Rattle.sets_control.proofs.pass_row.Goals as goal

pub agent-agent-requires : goal.agent-agent-requires
agent-agent-requires c = let a = given_few c.requires.1 in omega (arith, c.requires.0)

pub passes_to-own-requires : goal.passes_to-own-requires
passes_to-own-requires c = (c.requires.0, c.requires.1.opened)

pub join-requires : goal.join-requires
unfolding decode
join-requires c =
    let a = agent_low c.requires.1.opened _ c.requires.0 in let e = c.agent-agent.ensures in let b = c.requires.2.room in omega arith

pub get-all-requires : goal.get-all-requires
unfolding decode
get-all-requires c =
    let a = agent_low c.requires.1.opened _ c.requires.0 in let e = c.agent-agent.ensures in let b = c.requires.2.room in let d = c.join.ensures.frame.len in omega arith

pub rows-requires : goal.rows-requires
rows-requires c =
    let a = c.requires.1.opened.space in omega arith

pub has-barrier-requires : goal.has-barrier-requires
has-barrier-requires c =
    let a = given_few c.requires.1 in omega (arith, c.requires.0)

pub put-requires : goal.put-requires
put-requires c =
    let a = given_few c.requires.1 in let b = c.requires.1.room in omega (arith, c.requires.0)

pub shape_of-passing : goal.shape_of-passing
shape_of-passing c =
    c.join.ensures.frame.len

pub shape_of-w : goal.shape_of-w
shape_of-w c = c.put.ensures.frame.len

pub returns : goal.returns
unfolding decode
returns c =
    pass_turn c.requires.1.opened _ _ _ _ _ _ _ c.requires.0 c.agent-agent.ensures c.requires.2 c.passes_to-own.ensures c.join.ensures c.get-all.ensures c.rows.ensures c.has-barrier.ensures c.only_if.ensures c.put.ensures
