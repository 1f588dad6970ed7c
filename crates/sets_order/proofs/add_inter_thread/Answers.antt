use mathlib.Core.Path.{sym, ◌∙◌}
use Rattle.sets_grids.specs.Given.{given_few}
use Rattle.sets_grids.specs.Filling.{member_in}
use Rattle.bits.specs.Within.{within_widen}
use Rattle.sets_grids.specs.Regions.{HAPPENS, HAPPENS_END}
use Rattle.sets_happens.specs.Behind.{reached_kept}
use Rattle.sets_order.specs.Calm.{off_both, calm, asks_of, reached_of}
use Rattle.sets_order.specs.Inter.{inter_quiet, inter_added}
use native.Mathlib.Omega.{arith}
use Rattle.sets_order.proofs.add_inter_thread.Goals as goal

pub of_classes-k-requires : goal.of_classes-k-requires
of_classes-k-requires c = (c.requires.0, c.requires.1.told, c.requires.1.given.opened)

pub is_synced-requires : goal.is_synced-requires
is_synced-requires c =
    (c.requires.1.given, c.requires.1.syncs, λ j e. (member_in j c.of_classes-k.ensures.releases e).0)

pub returns-then-not-has_any-is_synced : goal.returns-then-not-has_any-is_synced
returns-then-not-has_any-is_synced c =
    let b = off_both _ _ c.if-not-has_any-is_synced.true in
    inter_quiet c.requires.1.given.opened.rows c.requires.0.some c.requires.0.low
    (calm c.requires.1.given.opened.rows (given_few c.requires.1.given) c.requires.1.told c.of_classes-k.ensures (sym c.has_any.ensures ∙ b.0) (sym c.is_synced.ensures ∙ b.1))

pub fill_reach-requires : goal.fill_reach-requires
fill_reach-requires c =
    asks_of c.requires.1 c.of_classes-k.ensures

pub add_at-requires : goal.add_at-requires
add_at-requires c =
    reached_of c.requires.1 c.of_classes-k.ensures c.fill_reach.ensures

pub add_available-requires : goal.add_available-requires
add_available-requires c =
    reached_kept (within_widen HAPPENS HAPPENS_END (omega arith) (omega arith) c.add_at.ensures.frame) (reached_of c.requires.1 c.of_classes-k.ensures c.fill_reach.ensures)

pub add_visible-requires : goal.add_visible-requires
add_visible-requires c =
    reached_kept (within_widen HAPPENS HAPPENS_END (omega arith) (omega arith) c.add_available.ensures.rows.frame) (reached_kept (within_widen HAPPENS HAPPENS_END (omega arith) (omega arith) c.add_at.ensures.frame) (reached_of c.requires.1 c.of_classes-k.ensures c.fill_reach.ensures))

pub shape_of-w : goal.shape_of-w
shape_of-w c =
    c.add_visible.ensures.frame.len ∙ c.add_available.ensures.rows.frame.len ∙ c.add_at.ensures.frame.len ∙ c.fill_reach.ensures.frame.len

pub returns : goal.returns
returns c =
    inter_added (given_few c.requires.1.given) c.requires.0.some c.requires.0.low c.fill_reach.ensures.frame c.add_at.ensures c.add_available.ensures c.add_visible.ensures
