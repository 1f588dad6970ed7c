use mathlib.Core.Path.{◌≡◌, sym, ◌∙◌}
use native.Mathlib.Omega.{arith}
use Rattle.finite.specs.Below.{any_none, any_in, any_more}
use Rattle.model.specs.Limits.{LONGEST}
use borrow.Author.Rules.{rules}
use Rattle.find_sources.proofs.blanks.some_miss.Goals as goal

pub loop-k-init : goal.loop-k-init
loop-k-init c = (search rules, any_none _)

pub returns-then-misses_at : goal.returns-then-misses_at
returns-then-misses_at c = sym (any_in _ LONGEST c.loop-k.k (omega arith) (sym c.misses_at.ensures ∙ c.if-misses_at.true))

pub loop-k-preserved : goal.loop-k-preserved
loop-k-preserved c = (search rules, any_more _ _ c.loop-k.invariant.1 (sym c.misses_at.ensures ∙ c.if-misses_at.false))

pub returns : goal.returns
returns c =
    let e : c.loop-k.k ≡ LONGEST = omega arith in
    sym (rw e at c.loop-k.invariant.1)
