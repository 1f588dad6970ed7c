use mathlib.Core.Path.{◌≡◌, sym, ◌∙◌}
use native.Mathlib.Numerals.{add-one}
use native.Mathlib.Omega.{arith}
use Rattle.finite.specs.Logic.{◌or◌}
use Rattle.finite.specs.Below.{any_none, any_more, any_in}
use Rattle.model.specs.Happens.{ROW_CASES}
use Rattle.run_rows.specs.Cases.{nth_case_rows}
use Rattle.flags_order.specs.Cases.{step_rows, step_off}
use borrow.Author.Rules.{rules}
use mathlib.Core.Path.{ap}
use mathlib.Core.Bool.{not}
use Rattle.flags_order.proofs.steps.is_step.Goals as goal

pub returns-then-not-h-g : goal.returns-then-not-h-g
unfolding ◌or◌
returns-then-not-h-g c = step_off _ _ _ _ _ _ _ _ _ c.holding_of-h.ensures c.holding_of-g.ensures (ap not c.if-not-h-g.true)

pub loop-k-init : goal.loop-k-init
loop-k-init c = (search rules, any_none _)

pub returns-then-is_case : goal.returns-then-is_case
unfolding step_rows nth_case_rows
returns-then-is_case c = sym (any_in _ _ _ c.loop-k-test.true (rw add-one at (sym c.is_case.ensures ∙ c.if-is_case.true)))

pub loop-k-preserved : goal.loop-k-preserved
unfolding nth_case_rows
loop-k-preserved c =
    (search rules, any_more _ _ c.loop-k.invariant.1 (rw add-one at (sym c.is_case.ensures ∙ c.if-is_case.false)))

pub returns : goal.returns
unfolding step_rows
returns c =
    let e : c.loop-k.k ≡ ROW_CASES = omega arith in
    sym (rw e at c.loop-k.invariant.1)
