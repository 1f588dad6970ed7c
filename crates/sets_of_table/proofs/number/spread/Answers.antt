use mathlib.Core.Path.{refl, sym, ◌∙◌}
use native.Mathlib.Omega.{arith}
use Rattle.sets_of_rows.specs.Walk.{walk_less, walk_in}
use Rattle.sets_of_rows.specs.Filling.{fill_begin, fill_turn, fill_end}
use Rattle.sets_of_table.specs.Placed.{of_number_is}
use borrow.Author.Rules.{rules}
use Rattle.sets_of_table.proofs.number.spread.Goals as goal

pub loop-i-init : goal.loop-i-init
loop-i-init c = rw c.into_iter-i-iterator.ensures.into_iter_gives ((refl, fill_begin _ _ _ _ (search rules) c.clear.ensures))

pub get-requires : goal.get-requires
get-requires c =
    let low = c.in-Some.ensures.steps.0 in
    let small = c.requires.2.each _ (walk_in c.loop-i.invariant.1.walk low) in
    omega (arith, small, c.requires.1)

pub loop-i-preserved : goal.loop-i-preserved
loop-i-preserved c =
    let inv = c.loop-i.invariant in
    let put = c.put.ensures in
    (put.frame.len ∙ inv.0, fill_turn _ _ _ _ inv.1 c.in-Some.ensures.steps.0 c.in-Some.ensures.steps.1 (of_number_is _ _ _ _ _ refl c.get.ensures) put)

pub returns : goal.returns
returns c =
    fill_end _ _ _ _ c.clear.ensures c.in-None.ensures.steps.0 c.loop-i.invariant.1
