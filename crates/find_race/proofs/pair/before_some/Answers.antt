use mathlib.Core.Path.{◌≡◌, sym, ◌∙◌}
use native.Mathlib.Omega.{arith}
use Rattle.finite.specs.Below.{any_none, any_in, any_more}
use Rattle.work_area.specs.Regions.{PAIR}
use Rattle.find_race.specs.Pairs.{order_bit, some_bits}
use borrow.Author.Rules.{rules}
use Rattle.find_race.proofs.pair.before_some.Goals as goal

pub loop-k-init : goal.loop-k-init
loop-k-init c = (search rules, any_none _)

pub returns-then-get : goal.returns-then-get
unfolding order_bit
returns-then-get c =
    let pre = c.requires in
    sym (any_in _ _ _ c.loop-k-test.true (sym c.get.ensures ∙ c.if-get.true)) ∙ some_bits _ _ _ _ _ pre.2.3 pre.0 pre.1

pub loop-k-preserved : goal.loop-k-preserved
unfolding order_bit
loop-k-preserved c = (search rules, any_more _ _ c.loop-k.invariant.1 (sym c.get.ensures ∙ c.if-get.false))

pub returns : goal.returns
returns c =
    let pre = c.requires in
    let e : c.loop-k.k ≡ PAIR = omega arith in
    sym (rw e at c.loop-k.invariant.1) ∙ some_bits _ _ _ _ _ pre.2.3 pre.0 pre.1
