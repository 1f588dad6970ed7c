use mathlib.Core.Path.{◌≡◌, sym, ◌∙◌}
use native.Mathlib.Omega.{arith}
use Rattle.finite.specs.Below.{any_none, any_more, any_in}
use borrow.Author.Rules.{rules}
use Rattle.flags_location.proofs.chains.some_end.Goals as goal

pub loop-c-init : goal.loop-c-init
loop-c-init c = (search rules, any_none _)

pub returns-then-ends_with : goal.returns-then-ends_with
returns-then-ends_with c = sym (any_in _ _ _ c.loop-c-test.true (sym c.ends_with.ensures ∙ c.if-ends_with.true))

pub loop-c-preserved : goal.loop-c-preserved
loop-c-preserved c = (search rules, any_more _ _ c.loop-c.invariant.1 (sym c.ends_with.ensures ∙ c.if-ends_with.false))

pub returns : goal.returns
returns c =
    let e : c.loop-c.c ≡ c.args.t.now.rows = omega arith in
    sym (rw e at c.loop-c.invariant.1)
