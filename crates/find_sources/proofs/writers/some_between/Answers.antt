use mathlib.Core.Path.{◌≡◌, sym, ◌∙◌}
use native.Mathlib.Omega.{arith}
use Rattle.finite.specs.Below.{any_none, any_in, any_more}
use borrow.Author.Rules.{rules}
use Rattle.find_sources.proofs.writers.some_between.Goals as goal

pub loop-z-init : goal.loop-z-init
loop-z-init c = (search rules, any_none _)

pub returns-then-between_at : goal.returns-then-between_at
returns-then-between_at c = sym (any_in _ _ _ c.loop-z-test.true (sym c.between_at.ensures ∙ c.if-between_at.true))

pub loop-z-preserved : goal.loop-z-preserved
loop-z-preserved c = (search rules, any_more _ _ c.loop-z.invariant.1 (sym c.between_at.ensures ∙ c.if-between_at.false))

pub returns : goal.returns
returns c =
    let e : c.loop-z.z ≡ c.args.t.now.rows = omega arith in
    sym (rw e at c.loop-z.invariant.1)
