use mathlib.Core.Path.{◌≡◌, sym, ◌∙◌}
use native.Mathlib.Omega.{arith}
use Rattle.finite.specs.Below.{any_none, any_more, any_in}
use Rattle.door_admit.proofs.Laws.{outside_off, outside_on}
use borrow.Author.Rules.{rules}
use mathlib.Core.Path.{ap}
use mathlib.Core.Bool.{not}
use Rattle.door_admit.proofs.table_faults.any_outside.Goals as goal

pub loop-j-init : goal.loop-j-init
loop-j-init c = (search rules, any_none _)

pub loop-j-preserved-then-not-has_pair : goal.loop-j-preserved-then-not-has_pair
loop-j-preserved-then-not-has_pair c = (
  search rules,
  any_more _ _ c.loop-j.invariant.1
      (sym (outside_off _ _ _ _ _ c.has_pair.ensures (ap not c.if-not-has_pair.true))),
)

pub returns-then-is_outside : goal.returns-then-is_outside
returns-then-is_outside c =
    let hit = sym (outside_on _ _ _ _ _ _ c.is_outside.ensures c.read_row.ensures) ∙ c.if-is_outside.true in
    sym (any_in _ _ _ c.loop-j-test.true hit)

pub loop-j-preserved : goal.loop-j-preserved
loop-j-preserved c =
    let miss = sym (outside_on _ _ _ _ _ _ c.is_outside.ensures c.read_row.ensures) ∙ c.if-is_outside.false in
    (search rules, any_more _ _ c.loop-j.invariant.1 miss)

pub returns : goal.returns
returns c =
    let done : c.loop-j.j ≡ c.args.i = omega arith in
    sym (rw done at c.loop-j.invariant.1)
