use mathlib.Core.Path.{refl, ◌∙◌}
use Rattle.sets_of_rows.specs.Walk.{walk_in}
use Rattle.sets_grids.specs.Filling.{member_in}
use Rattle.sets_grids.specs.Given.{fitting_few}
use Rattle.sets_races.specs.Sums.{tally_begin, tally_turn, tally_end, tally_fits, row_sum, one_fits}
use Rattle.sets_races.specs.Pair.{open_conflict}
use Rattle.sets_races.specs.Search.{ordered_out, counted_on, counted_off}
use native.Mathlib.Omega.{arith}
use Rattle.sets_races.proofs.count_ordered.Goals as goal

pub loop-j-init : goal.loop-j-init
loop-j-init c = rw c.into_iter-j-iterator.ensures.into_iter_gives (tally_begin _ _ (ordered_out _ _ _ c.requires.1))

pub unordered-requires : goal.unordered-requires
unordered-requires c =
    let few = fitting_few c.requires.2.fitting in let m = member_in _ c.requires.1 (walk_in c.loop-j.invariant.0 c.in-Some.ensures.steps.0) in (record { first = c.requires.0; second = m.0 }, open_conflict _ _ _ m.1, c.requires.2)

pub overflow_add-count : goal.overflow_add-count
overflow_add-count c =
    let f = tally_fits 1 _ c.loop-j.invariant.1 c.in-Some.ensures.steps.0 (one_fits _ _) in let a = f.0 in let b = f.1 in omega arith

pub loop-j-preserved-then-unordered-eq0 : goal.loop-j-preserved-then-unordered-eq0
loop-j-preserved-then-unordered-eq0 c =
    let few = fitting_few c.requires.2.fitting in let m = member_in _ c.requires.1 (walk_in c.loop-j.invariant.0 c.in-Some.ensures.steps.0) in
    tally_turn _ _ (ordered_out _ _ _ c.requires.1) c.loop-j.invariant c.in-Some.ensures.steps.0 c.in-Some.ensures.steps.1
    (counted_on _ _ _ _ c.loop-j.count _ m.0 m.1 c.unordered.ensures c.if-unordered-eq0.true refl)

pub loop-j-preserved : goal.loop-j-preserved
loop-j-preserved c =
    let few = fitting_few c.requires.2.fitting in let m = member_in _ c.requires.1 (walk_in c.loop-j.invariant.0 c.in-Some.ensures.steps.0) in
    tally_turn _ _ (ordered_out _ _ _ c.requires.1) c.loop-j.invariant c.in-Some.ensures.steps.0 c.in-Some.ensures.steps.1
    (counted_off _ _ _ _ c.loop-j.count _ m.0 m.1 c.unordered.ensures c.if-unordered-eq0.false refl)

pub returns : goal.returns
returns c = tally_end _ _ (ordered_out _ _ _ c.requires.1) _ _ c.in-None.ensures.steps.0 c.loop-j.invariant.1 ∙ row_sum _ _ _ (fitting_few c.requires.2.fitting)
