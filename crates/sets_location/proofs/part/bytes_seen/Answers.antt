use mathlib.Core.Path.{sym, ◌∙◌}
use Rattle.sets_of_rows.specs.Walk.{walk_less, walk_in}
use Rattle.sets_location.specs.Bytes.{more_begin, more_turn, more_end, mask_self, seen_off, seen_wide, seen_part, seen_met, upto_sets, plain_among}
use Rattle.sets_location.specs.Met.{wide_among}
use Rattle.sets_grids.specs.Filling.{member_in}
use Rattle.sets_of_table.specs.Ask.{few}
use Rattle.model.specs.Table.{decode}
use native.Mathlib.Omega.{arith}
use Rattle.sets_location.proofs.part.bytes_seen.Goals as goal

pub of_agent-requires : goal.of_agent-requires
of_agent-requires c = (c.requires.0.pair.second.low, c.requires.1.given.opened)

pub above-requires : goal.above-requires
above-requires c = let b = few c.requires.1.given.opened in let low = c.requires.0.pair.second.low in omega (arith, low, b)

pub wide_visible-requires : goal.wide_visible-requires
unfolding decode
wide_visible-requires c =
    let b = few c.requires.1.given.opened in let r = c.requires.1.given.opened.rows in let low = c.requires.0.pair.first.low in (omega (arith, low, b), c.requires.1.given.opened.fit.classed _ (omega (arith, low, r)) c.requires.0.pair.first.is, c.requires.1.given.opened.space)

pub without-wide-requires : goal.without-wide-requires
without-wide-requires c =
    let b = few c.requires.1.given.opened in let low = c.requires.0.pair.second.low in omega (arith, low, b)

pub plain_visible-requires : goal.plain_visible-requires
plain_visible-requires c =
    let b = few c.requires.1.given.opened in let low = c.requires.0.pair.first.low in (omega (arith, low, b), c.requires.1.given.opened.space)

pub bytes_of-m-requires : goal.bytes_of-m-requires
bytes_of-m-requires c =
    (c.requires.0.pair.first.low, wide_among c.requires.1.given.opened _ c.requires.0.pair.first.low c.requires.0.pair.first.is c.requires.2 _ _ c.bitand-2.ensures, c.requires.1.given.opened.fit)

pub loop-a-init : goal.loop-a-init
loop-a-init c = rw c.into_iter-a-iterator.ensures.into_iter_gives (more_begin _ _ _ (seen_off _ _ _ _ _ _) _ (mask_self c.bytes_of-m.ensures))

pub shared-own-requires : goal.shared-own-requires
shared-own-requires c =
    (c.requires.0.pair.first.low, (member_in _ c.requires.2.parts (walk_in c.loop-a.invariant.0 c.in-Some.ensures.steps.0)).0, c.requires.1.given.opened.fit)

pub get-visible-requires : goal.get-visible-requires
get-visible-requires c =
    let r = c.requires.1.given.room in let l = c.in-Some.ensures.steps.0.bound in omega (arith, r, l)

pub loop-a-preserved-then-has_any : goal.loop-a-preserved-then-has_any
loop-a-preserved-then-has_any c =
    more_turn _ _ _ (seen_off _ _ _ _ _ _) c.loop-a.invariant c.in-Some.ensures.steps.0 c.in-Some.ensures.steps.1 (seen_wide _ _ _ _ _ _ _ c.get-visible.ensures _ _ c.bitand-in-loop-a.ensures c.has_any.ensures c.if-has_any.true c.shared-own.ensures)

pub bytes_of-requires : goal.bytes_of-requires
unfolding decode
bytes_of-requires c =
    (c.requires.0.pair.first.low, plain_among _ _ (upto_sets c.requires.1.given.opened _ _ c.requires.0.pair.first.low c.requires.0.pair.first.is _ _ _ _ _ _ _ _ c.of_agent.ensures c.above.ensures c.sub-upto.ensures c.wide_visible.ensures c.bitand.ensures c.without-wide.ensures c.plain_visible.ensures c.bitand-plain.ensures) c.bitand-else-has_any.ensures, c.requires.1.given.opened.fit)

pub loop-a-preserved : goal.loop-a-preserved
loop-a-preserved c =
    more_turn _ _ _ (seen_off _ _ _ _ _ _) c.loop-a.invariant c.in-Some.ensures.steps.0 c.in-Some.ensures.steps.1 (seen_part _ _ _ _ _ _ _ c.get-visible.ensures _ _ _ c.bitand-in-loop-a.ensures c.has_any.ensures c.if-has_any.false c.bitand-else-has_any.ensures c.shared-own.ensures c.bytes_of.ensures)

pub returns : goal.returns
unfolding decode
returns c =
    seen_met c.requires.1.given.opened c.requires.1.locating _ _ c.requires.0.pair.first.low c.requires.0.pair.second.low c.requires.0.pair c.requires.2 c.requires.0.reading (upto_sets c.requires.1.given.opened _ _ c.requires.0.pair.first.low c.requires.0.pair.first.is _ _ _ _ _ _ _ _ c.of_agent.ensures c.above.ensures c.sub-upto.ensures c.wide_visible.ensures c.bitand.ensures c.without-wide.ensures c.plain_visible.ensures c.bitand-plain.ensures) _ c.bitand-2.ensures c.bytes_of-m.ensures (more_end _ _ _ (seen_off _ _ _ _ _ _) _ _ c.in-None.ensures.steps.0 c.loop-a.invariant.1)
