use Rattle.sets_of_rows.specs.Rows.{started}
use mathlib.Core.Path.{refl, sym, ◌∙◌}
use Rattle.sets_of_rows.specs.Walk.{walk_less, walk_in}
use Rattle.sets_of_rows.specs.Rows.{rows_at}
use Rattle.sets_grids.specs.Filling.{member_in}
use borrow.Author.Tests.{eqb-true}
use Rattle.finite.specs.Logic.{split}
use Rattle.sets_chains.specs.Chained.{in_rows, narrow_rows, in_turn, in_begin, in_wide, in_own, in_next, in_end}
use native.Mathlib.Omega.{arith}
use Rattle.sets_chains.proofs.chain_in.Goals as goal

pub get-own-requires : goal.get-own-requires
get-own-requires c = omega (arith, c.requires.0, c.requires.1.opened.space)

pub rows-visible-requires : goal.rows-visible-requires
rows-visible-requires c = omega (arith, c.requires.1.opened.space)

pub broader-requires : goal.broader-requires
broader-requires c = (c.requires.0, c.requires.1.opened.space)

pub loop-v-init : goal.loop-v-init
loop-v-init c =
    (refl, in_begin c.requires.1.opened _ _ c.requires.2)

pub get-requires : goal.get-requires
get-requires c =
    omega (arith, c.in-Some.ensures.steps.0.bound, c.requires.1.room, c.loop-v.invariant.0)

pub hears-requires : goal.hears-requires
hears-requires c =
    ((member_in _ (in_rows c.requires.1.opened _ (omega (arith, c.requires.0)) c.rows-visible.ensures c.get-own.ensures (started c.into_iter-v-iterator.ensures.into_iter_gives c.bitand-v-items.ensures)) (walk_in c.loop-v.invariant.1.walk c.in-Some.ensures.steps.0)).0, c.requires.1.opened)

pub union-requires : goal.union-requires
union-requires c =
    omega (arith, c.requires.1.room, c.loop-v.invariant.0)

pub put-requires : goal.put-requires
put-requires c =
    omega (arith, c.in-Some.ensures.steps.0.bound, c.requires.1.room, c.loop-v.invariant.0)

pub loop-v-preserved : goal.loop-v-preserved
loop-v-preserved c =
    let o = c.requires.1.opened in
    let inv = c.loop-v.invariant.1 in
    let r = (in_rows c.requires.1.opened _ (omega (arith, c.requires.0)) c.rows-visible.ensures c.get-own.ensures (started c.into_iter-v-iterator.ensures.into_iter_gives c.bitand-v-items.ensures)) in
    let m = member_in _ r (walk_in inv.walk c.in-Some.ensures.steps.0) in
    let e = eqb-true _ _ (split m.1).1 in
    let b = narrow_rows o _ _ _ (omega (arith, c.requires.0)) c.rows-visible.ensures c.get-own.ensures (c.broader.ensures _ _ o) c.bitor.ensures c.sub-narrow.ensures in (
      c.put.ensures.frame.len ∙ c.loop-v.invariant.0,
      in_next o _ _ inv c.in-Some.ensures.steps.0 c.in-Some.ensures.steps.1
          (in_turn o _ _ _ _ _ _ _ _ _ _ m.0 (split m.1).0 e (in_wide o _ r inv) (rows_at c.get.ensures (in_own o _ r inv c.in-Some.ensures.steps.0 m.0 (split m.1).0 e)) b c.hears.ensures c.bitand.ensures c.bitand-next.ensures c.union.ensures c.bitor-all.ensures)
          c.put.ensures,
    )

pub shape_of-w : goal.shape_of-w
shape_of-w c = c.loop-v.invariant.0

pub returns : goal.returns
returns c =
    in_end c.requires.1.opened _ (in_rows c.requires.1.opened _ (omega (arith, c.requires.0)) c.rows-visible.ensures c.get-own.ensures (started c.into_iter-v-iterator.ensures.into_iter_gives c.bitand-v-items.ensures)) c.in-None.ensures.steps.0 c.loop-v.invariant.1
