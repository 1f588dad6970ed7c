use mathlib.Core.Path.{◌≡◌, sym, ◌∙◌}
use native.Mathlib.Omega.{arith}
use Rattle.finite.specs.Below.{any_none, any_more, any_in}
use borrow.Author.Rules.{rules}
use Rattle.run_rows.proofs.control.is_arrived.Goals as goal

pub loop-d-init : goal.loop-d-init
loop-d-init c = (search rules, any_none _)

pub returns-then-arrives_at : goal.returns-then-arrives_at
returns-then-arrives_at c = sym (any_in _ _ _ c.loop-d-test.true (sym c.arrives_at.ensures ∙ c.if-arrives_at.true))

pub loop-d-preserved : goal.loop-d-preserved
loop-d-preserved c = (search rules, any_more _ _ c.loop-d.invariant.1 (sym c.arrives_at.ensures ∙ c.if-arrives_at.false))

pub returns : goal.returns
returns c =
    let e : c.loop-d.d ≡ c.args.t.now.rows = omega arith in
    sym (rw e at c.loop-d.invariant.1)
