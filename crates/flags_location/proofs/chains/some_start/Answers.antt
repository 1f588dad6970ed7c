use mathlib.Core.Path.{◌≡◌, sym, ◌∙◌}
use native.Mathlib.Omega.{arith}
use Rattle.finite.specs.Below.{any_none, any_more, any_in}
use borrow.Author.Rules.{rules}
use Rattle.flags_location.proofs.chains.some_start.Goals as goal

pub loop-j-init : goal.loop-j-init
loop-j-init c = (search rules, any_none _)

pub returns-then-starts_with : goal.returns-then-starts_with
returns-then-starts_with c = sym (any_in _ _ _ c.loop-j-test.true (sym c.starts_with.ensures ∙ c.if-starts_with.true))

pub loop-j-preserved : goal.loop-j-preserved
loop-j-preserved c = (search rules, any_more _ _ c.loop-j.invariant.1 (sym c.starts_with.ensures ∙ c.if-starts_with.false))

pub returns : goal.returns
returns c =
    let e : c.loop-j.j ≡ c.args.t.now.rows = omega arith in
    sym (rw e at c.loop-j.invariant.1)
