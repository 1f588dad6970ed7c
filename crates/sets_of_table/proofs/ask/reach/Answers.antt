use Rattle.sets_of_table.specs.Ask.{scope_low}
use native.Mathlib.Omega.{arith}
use Rattle.model.specs.Table.{decode}
use Rattle.sets_of_table.proofs.ask.reach.Goals as goal

pub sharing-requires : goal.sharing-requires
unfolding decode
sharing-requires c =
    let pre = c.requires in
    let a = scope_low pre.1 _ pre.0 in
    let e = c.scope.ensures in
    (pre.0, omega arith, pre.1)

pub returns : goal.returns
unfolding decode
returns c =
    let f = c.sharing.ensures in
    rw c.scope.ensures at f
