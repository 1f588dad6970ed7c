use mathlib.Core.Path.{◌≡◌, sym, ◌∙◌}
use native.Mathlib.Omega.{arith}
use Rattle.finite.specs.Below.{any_none, any_more, any_in}
use Rattle.door_admit.proofs.Laws.{rank_off}
use borrow.Author.Rules.{rules}
use mathlib.Core.Path.{ap}
use mathlib.Core.Bool.{not}
use Rattle.door_admit.proofs.table_faults.any_same_rank.Goals as goal

pub loop-j-init : goal.loop-j-init
loop-j-init c = (search rules, any_none _)

pub loop-j-preserved-then-not-has_pair : goal.loop-j-preserved-then-not-has_pair
loop-j-preserved-then-not-has_pair c = (
  search rules,
  any_more _ _ c.loop-j.invariant.1
      (sym (rank_off _ _ _ _ _ _ c.requires c.has_pair.ensures (ap not c.if-not-has_pair.true))),
)

pub returns-then-same_rank_at : goal.returns-then-same_rank_at
returns-then-same_rank_at c = sym (any_in _ _ _ c.loop-j-test.true (sym c.same_rank_at.ensures ∙ c.if-same_rank_at.true))

pub loop-j-preserved : goal.loop-j-preserved
loop-j-preserved c =
    (search rules, any_more _ _ c.loop-j.invariant.1 (sym c.same_rank_at.ensures ∙ c.if-same_rank_at.false))

pub returns : goal.returns
returns c =
    let done : c.loop-j.j ≡ c.args.i = omega arith in
    sym (rw done at c.loop-j.invariant.1)
