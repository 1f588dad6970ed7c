use Rattle.sets_of_rows.specs.Rows.{started}
use mathlib.Core.Path.{refl, sym, ◌∙◌}
use native.Mathlib.Omega.{arith}
use Rattle.sets_of_rows.specs.Walk.{walk_less}
use Rattle.sets_sequences.specs.Taken.{heads_of, take_begin, take_turn, take_end}
use Rattle.sets_sequences.proofs.taken.join_heads.Goals as goal

pub get-requires : goal.get-requires
get-requires c = let pre = c.requires in omega (arith, pre.few, pre.writer, pre.room)

pub get-requires-2 : goal.get-requires-2
get-requires-2 c = let pre = c.requires in omega (arith, pre.few, pre.reader, pre.room)

pub loop-h-init : goal.loop-h-init
loop-h-init c =
    let pre = c.requires in
    (refl, take_begin _ _ _ _ pre.few _ (heads_of _ pre.heads pre.mutuals _ _ _ _ _ pre.reader pre.writer c.get.ensures c.get-2.ensures (started c.into_iter-h-iterator.ensures.into_iter_gives c.bitand-h-items.ensures)) _)

pub join-requires : goal.join-requires
join-requires c =
    omega (arith, c.in-Some.ensures.steps.0.bound, c.loop-h.invariant.0, c.requires.room)

pub loop-h-preserved : goal.loop-h-preserved
loop-h-preserved c =
    let pre = c.requires in
    let inv = c.loop-h.invariant in
    let join = c.join.ensures in
    (join.frame.len ∙ inv.0, take_turn _ _ _ _ pre.few _ (heads_of _ pre.heads pre.mutuals _ _ _ _ _ pre.reader pre.writer c.get.ensures c.get-2.ensures (started c.into_iter-h-iterator.ensures.into_iter_gives c.bitand-h-items.ensures)) _ inv.1 c.in-Some.ensures.steps.0 c.in-Some.ensures.steps.1 pre.getters join)

pub shape_of-w : goal.shape_of-w
shape_of-w c = c.loop-h.invariant.0

pub returns : goal.returns
returns c =
    let pre = c.requires in
    take_end _ _ _ _ pre.few _ (heads_of _ pre.heads pre.mutuals _ _ _ _ _ pre.reader pre.writer c.get.ensures c.get-2.ensures (started c.into_iter-h-iterator.ensures.into_iter_gives c.bitand-h-items.ensures)) _ c.in-None.ensures.steps.0 c.loop-h.invariant.1.1
