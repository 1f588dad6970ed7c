use mathlib.Core.Path.{◌≡◌, sym, ◌∙◌}
use native.Mathlib.Omega.{arith}
use Rattle.finite.specs.Below.{any_none, any_more, any_in}
use Rattle.model.specs.Table.{dependency_count}
use Rattle.model.specs.Header.{pair_at}
use borrow.Author.Rules.{rules}
use Rattle.door_admit.proofs.header.any_names_none.Goals as goal

pub loop-k-init : goal.loop-k-init
loop-k-init c = (search rules, any_none _)

pub returns-then-names_none : goal.returns-then-names_none
unfolding dependency_count
returns-then-names_none c = sym (any_in _ _ _ (omega (arith, c.pair_at-count.ensures)) (sym c.names_none.ensures ∙ c.if-names_none.true))

pub loop-k-preserved : goal.loop-k-preserved
loop-k-preserved c = (search rules, any_more _ _ c.loop-k.invariant.1 (sym c.names_none.ensures ∙ c.if-names_none.false))

pub returns : goal.returns
unfolding dependency_count
returns c =
    let done : c.loop-k.k ≡ pair_at c.args.d.now 0 = omega (arith, c.pair_at-count.ensures) in
    sym (rw done at c.loop-k.invariant.1)
