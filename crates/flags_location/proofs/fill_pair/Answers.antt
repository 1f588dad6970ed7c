use mathlib.Core.Path.{◌≡◌, refl, sym, ap, ◌∙◌}
use native.Mathlib.Omega.{arith}
use lib.ListN.{length}
use Rattle.model.specs.Table.{decode}
use Rattle.bits.specs.Fill.{row_fill_none, row_fill_put, length_row_fill}
use Rattle.bits.specs.Within.{within_put}
use Rattle.work_area.specs.Regions.{LOCATION, LOCATION_END, PAIR}
use Rattle.flags_location.specs.Order.{prepared_kept, nth_is, pair_off, row_off}
use borrow.Author.Rules.{rules}
use Rattle.flags_location.proofs.fill_pair.Goals as goal

pub returns-then-not-may_share : goal.returns-then-not-may_share
unfolding decode
returns-then-not-may_share c =
    row_off _ _ _ _
    (pair_off _ _ _ _ _ c.row-r.ensures c.row-q.ensures
    (sym c.may_share.ensures ∙ c.if-not-may_share.true))

pub loop-k-init : goal.loop-k-init
loop-k-init c =
    (search rules, refl, c.requires.holds, row_fill_none _ _ _)

pub before_at-b-requires : goal.before_at-b-requires
before_at-b-requires c =
    let pre = c.requires in
    let inv = c.loop-k.invariant in
    record { few = pre.few; room = omega (arith, inv.1, pre.room); first = pre.first; second = pre.second; holds = inv.2 }

pub loop-k-preserved : goal.loop-k-preserved
unfolding decode
loop-k-preserved c =
    let put = c.put_if in
    let kept = within_put LOCATION LOCATION_END _ _ (omega arith) (omega arith) put.ensures in
    let inv = c.loop-k.invariant in
    let e = row_fill_put _ _ _ put.new.w _ _ _ _ inv.3 (c.before_at-b.ensures ∙ nth_is _ _ _ _ _ c.row-r.ensures c.row-q.ensures _) refl put.ensures in (
      search rules,
      ap length e ∙ length_row_fill _ _ _ _,
      prepared_kept kept inv.2,
      e,
    )

pub returns : goal.returns
returns c =
    let e : c.loop-k.k ≡ PAIR = omega arith in
    rw e at c.loop-k.invariant.3
