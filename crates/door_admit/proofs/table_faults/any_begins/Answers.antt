use mathlib.Core.Path.{◌≡◌, sym, ◌∙◌}
use native.Mathlib.Omega.{arith}
use Rattle.finite.specs.Below.{any_none, any_more, any_in}
use Rattle.door_admit.proofs.Laws.{begins_start}
use borrow.Author.Rules.{rules}
use mathlib.Core.Path.{ap}
use mathlib.Core.Bool.{not}
use Rattle.door_admit.proofs.table_faults.any_begins.Goals as goal

pub loop-m-init : goal.loop-m-init
loop-m-init c = (search rules, any_none _)

pub loop-m-preserved-then-not-has_pair : goal.loop-m-preserved-then-not-has_pair
loop-m-preserved-then-not-has_pair c = (
  search rules,
  any_more _ _ c.loop-m.invariant.1
      (sym (begins_start _ _ _ _ _ c.requires c.has_pair.ensures (ap not c.if-not-has_pair.true))),
)

pub returns-then-begins_at : goal.returns-then-begins_at
returns-then-begins_at c = sym (any_in _ _ _ c.loop-m-test.true (sym c.begins_at.ensures ∙ c.if-begins_at.true))

pub loop-m-preserved : goal.loop-m-preserved
loop-m-preserved c =
    (search rules, any_more _ _ c.loop-m.invariant.1 (sym c.begins_at.ensures ∙ c.if-begins_at.false))

pub returns : goal.returns
returns c =
    let done : c.loop-m.m ≡ c.args.i = omega arith in
    sym (rw done at c.loop-m.invariant.1)
