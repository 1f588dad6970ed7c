use mathlib.Core.Path.{◌≡◌, sym, ◌∙◌}
use native.Mathlib.Omega.{arith}
use Rattle.finite.specs.Below.{any_none, any_in, any_more}
use Rattle.model.specs.Limits.{LONGEST}
use borrow.Author.Rules.{rules}
use Rattle.find_sources.proofs.writers.some_hidden.Goals as goal

pub loop-k-init : goal.loop-k-init
loop-k-init c = (search rules, any_none _)

pub returns-then-hides_at : goal.returns-then-hides_at
returns-then-hides_at c = sym (any_in _ _ _ c.loop-k-test.true (sym c.hides_at.ensures ∙ c.if-hides_at.true))

pub loop-k-preserved : goal.loop-k-preserved
loop-k-preserved c = (search rules, any_more _ _ c.loop-k.invariant.1 (sym c.hides_at.ensures ∙ c.if-hides_at.false))

pub returns : goal.returns
returns c =
    let e : c.loop-k.k ≡ LONGEST = omega arith in
    sym (rw e at c.loop-k.invariant.1)
