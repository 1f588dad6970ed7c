use mathlib.Core.Path.{◌≡◌, refl, ◌∙◌}
use native.Mathlib.Omega.{arith}
use Rattle.bits.specs.Within.{within_refl, within_trans}
use Rattle.bits.specs.Stage.{holds_cong, holds_added}
use Rattle.model.specs.Limits.{CLASS_SETS}
use Rattle.work_area.specs.Synced.{synced_kept}
use Rattle.flags_order.specs.Sets.{up_to_none, up_to_more, ordered_made}
use Rattle.model.specs.Table.{decode}
use borrow.Author.Rules.{rules}
use Rattle.flags_order.proofs.happens_before.Goals as goal

pub loop-s-init : goal.loop-s-init
loop-s-init c =
    let synced = c.make_synced.ensures in
    let order = c.fill_order.ensures in
    (search rules, refl, synced_kept (omega arith) order.frame synced.synced, holds_cong (λ m k l h. up_to_none _ m k) order.holds, within_refl _ _ _)

pub loop-s-preserved : goal.loop-s-preserved
loop-s-preserved c =
    let added = c.add_set.ensures in
    let inv = c.loop-s.invariant in (
      search rules,
      added.frame.len ∙ inv.1,
      synced_kept (omega arith) added.frame inv.2,
      holds_cong (λ m k l h. up_to_more _ _ m k) (holds_added inv.3 added),
      within_trans inv.4 added.frame,
    )

pub returns : goal.returns
unfolding decode
returns c =
    let e : c.loop-s.s ≡ CLASS_SETS = omega arith in
    let inv = c.loop-s.invariant in
    ordered_made c.make_synced.ensures c.fill_order.ensures inv.2 (rw e at inv.3) inv.4 refl
