use Rattle.sets_of_rows.specs.Rows.{started}
use mathlib.Core.Path.{refl, sym, ◌∙◌}
use Rattle.sets_of_rows.specs.Walk.{walk_less, walk_in}
use Rattle.sets_of_rows.specs.Rows.{rows_at}
use Rattle.sets_grids.specs.Filling.{member_in}
use borrow.Author.Tests.{eqb-true}
use Rattle.finite.specs.Logic.{split}
use Rattle.sets_chains.specs.Chained.{out_rows, out_turn, out_begin, out_wide, out_own, out_next, out_end}
use native.Mathlib.Omega.{arith}
use Rattle.sets_chains.proofs.chain_out.Goals as goal

pub broader-broad-requires : goal.broader-broad-requires
broader-broad-requires c = (c.requires.0, c.requires.1.opened.space)

pub get-own-requires : goal.get-own-requires
get-own-requires c = omega (arith, c.requires.0, c.requires.1.opened.space)

pub rows-requires : goal.rows-requires
rows-requires c = omega (arith, c.requires.1.opened.space)

pub loop-a-init : goal.loop-a-init
loop-a-init c =
    (refl, out_begin c.requires.1.opened _ _ c.requires.2)

pub get-requires : goal.get-requires
get-requires c =
    omega (arith, c.in-Some.ensures.steps.0.bound, c.requires.1.room, c.loop-a.invariant.0)

pub reach-requires : goal.reach-requires
reach-requires c =
    ((member_in _ (out_rows c.requires.1.opened _ (omega (arith, c.requires.0)) c.rows.ensures c.get-own.ensures (started c.into_iter-a-iterator.ensures.into_iter_gives c.bitand-a-items.ensures)) (walk_in c.loop-a.invariant.1.walk c.in-Some.ensures.steps.0)).0, c.requires.1.opened)

pub union-requires : goal.union-requires
union-requires c =
    omega (arith, c.requires.1.room, c.loop-a.invariant.0)

pub put-requires : goal.put-requires
put-requires c =
    omega (arith, c.in-Some.ensures.steps.0.bound, c.requires.1.room, c.loop-a.invariant.0)

pub loop-a-preserved : goal.loop-a-preserved
loop-a-preserved c =
    let o = c.requires.1.opened in
    let inv = c.loop-a.invariant.1 in
    let r = (out_rows c.requires.1.opened _ (omega (arith, c.requires.0)) c.rows.ensures c.get-own.ensures (started c.into_iter-a-iterator.ensures.into_iter_gives c.bitand-a-items.ensures)) in
    let m = member_in _ r (walk_in inv.walk c.in-Some.ensures.steps.0) in
    let e = eqb-true _ _ (split m.1).1 in (
      c.put.ensures.frame.len ∙ c.loop-a.invariant.0,
      out_next o _ _ inv c.in-Some.ensures.steps.0 c.in-Some.ensures.steps.1
          (out_turn o _ _ _ _ _ _ _ _ _ _ m.0 (split m.1).0 e (out_wide o _ r inv) (rows_at c.get.ensures (out_own o _ r inv c.in-Some.ensures.steps.0 m.0 (split m.1).0 e)) (c.broader-broad.ensures _ _ o) c.reach.ensures c.bitand.ensures c.bitand-next.ensures c.union.ensures c.bitor-all.ensures)
          c.put.ensures,
    )

pub shape_of-w : goal.shape_of-w
shape_of-w c = c.loop-a.invariant.0

pub returns : goal.returns
returns c =
    out_end c.requires.1.opened _ (out_rows c.requires.1.opened _ (omega (arith, c.requires.0)) c.rows.ensures c.get-own.ensures (started c.into_iter-a-iterator.ensures.into_iter_gives c.bitand-a-items.ensures)) c.in-None.ensures.steps.0 c.loop-a.invariant.1
