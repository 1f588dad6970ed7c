use mathlib.Core.Path.{refl}
use native.Mathlib.Omega.{arith}
use Rattle.model.specs.Table.{decode}
use Rattle.sets_grids.specs.Given.{given_few}
use Rattle.ask_fill.specs.Parts.{unfilled, all_filled}
use Rattle.ask_fill.proofs.by_sets.choose_sources.Goals as goal

pub choose-list-requires : goal.choose-list-requires
choose-list-requires c =
    let pre = c.requires in (pre.1, pre.2)

pub returns-then-not-is_filled : goal.returns-then-not-is_filled
unfolding decode
returns-then-not-is_filled c =
    let told = c.is_filled.ensures in
    unfilled _ _ _ _ _ refl c.choose-list.ensures told.0 _ _ _ c.if-not-is_filled.true told.1

pub returns : goal.returns
unfolding decode
returns c =
    let pre = c.requires in
    let told = c.is_filled.ensures in
    let few = given_few pre.2.given in
    let room = pre.0 in
    all_filled _ _ _ _ _ refl c.choose-list.ensures told.0 _ _ _ _ c.if-not-is_filled.false (omega arith) c.write_sources.ensures told.1
