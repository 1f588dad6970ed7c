use mathlib.Core.Path.{◌≡◌, sym, ◌∙◌}
use Prim.Native.Nat.{◌+◌}
use native.Mathlib.Omega.{arith}
use Rattle.finite.specs.Below.{any_none, any_more, any_in}
use Rattle.flags_location.specs.Chains.{shown_none}
use borrow.Author.Rules.{rules}
use Rattle.flags_location.proofs.chains.some_shown.Goals as goal

pub loop-v-init : goal.loop-v-init
loop-v-init c = (search rules, any_none _)

pub shown_in-requires : goal.shown_in-requires
shown_in-requires c =
    let pre = c.requires in
    record { element = pre; last = omega (arith, pre.pair.second, c.loop-v-test.true) }

pub returns-then-shown_in : goal.returns-then-shown_in
returns-then-shown_in c = sym (any_in _ _ _ (omega arith) (sym c.shown_in.ensures ∙ c.if-shown_in.true))

pub loop-v-preserved : goal.loop-v-preserved
loop-v-preserved c = (search rules, any_more _ _ c.loop-v.invariant.1 (sym c.shown_in.ensures ∙ c.if-shown_in.false))

pub returns : goal.returns
returns c =
    let e : c.loop-v.v ≡ c.args.p.y + 1 = omega arith in
    sym (shown_none _ _ _ _ _ _ _ _ (rw e at c.loop-v.invariant.1))
