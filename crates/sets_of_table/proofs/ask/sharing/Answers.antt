use Rattle.sets_of_table.specs.Ask.{agent_low, sharing_rows}
use native.Mathlib.Omega.{arith}
use Rattle.model.specs.Table.{decode}
use Rattle.sets_of_table.proofs.ask.sharing.Goals as goal

pub overflow_mul-agent : goal.overflow_mul-agent
unfolding decode
overflow_mul-agent c =
    let pre = c.requires in
    let a = agent_low pre.2 _ pre.0 in
    let e = c.agent.ensures in
    omega arith

pub overflow_add-agent : goal.overflow_add-agent
unfolding decode
overflow_add-agent c =
    let pre = c.requires in
    let a = agent_low pre.2 _ pre.0 in
    let e = c.agent.ensures in
    omega arith

pub get-requires : goal.get-requires
unfolding decode
get-requires c =
    let pre = c.requires in
    let a = agent_low pre.2 _ pre.0 in
    let e = c.agent.ensures in
    let q = pre.1 in
    let r = pre.2.space in
    omega arith

pub returns : goal.returns
unfolding decode
returns c =
    let pre = c.requires in
    sharing_rows pre.2 _ _ _ _ pre.0 pre.1 c.agent.ensures c.get.ensures
