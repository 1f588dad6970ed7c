use Rattle.sets_chains.specs.Alone.{between_none, between_more, between_all}
use borrow.Author.Rules.{rules}
use native.Mathlib.Omega.{arith}
use Rattle.sets_chains.proofs.broader.Goals as goal

pub loop-k-init : goal.loop-k-init
loop-k-init c = (search rules, search rules, λ t n o. between_none t n _ c.none-a.ensures)

pub loop-k-preserved : goal.loop-k-preserved
loop-k-preserved c = (search rules, search rules, λ t n o. between_more t n _ _ o c.loop-k.invariant.0 (omega (arith, c.loop-k-test.true)) (c.loop-k.invariant.2 t n o) c.get.ensures c.bitor_assign.ensures.after)

pub returns : goal.returns
returns c = λ t n o. between_all t n _ _ o (omega (arith, c.loop-k-test.false)) (c.loop-k.invariant.2 t n o)
