use mathlib.Core.Path.{refl, sym, ◌∙◌}
use native.Mathlib.Omega.{arith}
use Rattle.sets_of_rows.specs.Walk.{walk_less}
use Rattle.sets_of_table.specs.Number.{number_begin, number_turn, number_end, number_few, step_keys, step_loc}
use Rattle.sets_of_table.proofs.number.number.Goals as goal

pub loop-i-init : goal.loop-i-init
loop-i-init c = rw c.into_iter-i-iterator.ensures.into_iter_gives ((refl, refl, number_begin _ _ _ _))

pub number_row-l-requires : goal.number_row-l-requires
number_row-l-requires c =
    let low = c.in-Some.ensures.steps.0 in
    let inv = c.loop-i.invariant in
    let pre = c.requires in
    record {
      row = low.bound;
      few = number_few inv.2.1 low;
      key = omega (arith, low.bound, inv.0, pre.0);
      number = omega (arith, low.bound, inv.1, pre.1);
    }

pub loop-i-preserved : goal.loop-i-preserved
loop-i-preserved c =
    let step = c.number_row-l.ensures in
    let inv = c.loop-i.invariant in
    let pre = c.requires in (
      step_keys step ∙ inv.0,
      step_loc step ∙ inv.1,
      number_turn _ inv.2 c.in-Some.ensures.steps.0 c.in-Some.ensures.steps.1 (omega (arith, inv.0, pre.0)) (omega (arith, inv.1, pre.1)) c.key-k.ensures step,
    )

pub returns : goal.returns
returns c = number_end _ _ c.in-None.ensures.steps.0 c.loop-i.invariant.2.1
