use Rattle.sets_of_rows.specs.Rows.{started}
use mathlib.Core.Path.{refl, sym, ◌∙◌}
use native.Mathlib.Omega.{arith}
use Rattle.model.specs.Table.{decode}
use Rattle.sets_of_rows.specs.Walk.{walk_less, walk_in}
use Rattle.sets_of_table.specs.Ask.{few}
use Rattle.sets_sequences.specs.Heads.{kind_rows, head_walked, head_member, head_begin, head_step, head_end, since_is, near_is}
use Rattle.sets_sequences.proofs.add_head.Goals as goal

pub rank-rank-requires : goal.rank-rank-requires
rank-rank-requires c = let b = few c.requires.1.opened in omega (arith, c.requires.0.low)

pub get-requires : goal.get-requires
get-requires c =
    let b = few c.requires.1.opened in let r = c.requires.1.room in omega (arith, c.requires.0.low)

pub get-requires-2 : goal.get-requires-2
get-requires-2 c =
    let a = c.requires.1.opened.space in omega arith

pub loop-k-init : goal.loop-k-init
unfolding decode
loop-k-init c =
    let pre = c.requires in
    let o = pre.1.opened in
    let says = kind_rows o pre.2 _ 4 _ _ _ pre.0.low (omega arith) c.get.ensures c.get-2.ensures (started c.into_iter-k-iterator.ensures.into_iter_gives c.bitand-k-items.ensures) in
    (refl, head_begin _ _ _ o.rows (few o) _ (head_walked _ _ _ _ o.rows says) _)

pub rank-requires : goal.rank-requires
rank-requires c = c.in-Some.ensures.steps.0.bound

pub join_if-requires : goal.join_if-requires
join_if-requires c =
    let pre = c.requires in
    let b = few pre.1.opened in
    let e = c.loop-k.invariant.0 in
    let r = pre.1.room in
    (c.in-Some.ensures.steps.0.bound, omega (arith, pre.0.low), omega arith)

pub loop-k-preserved : goal.loop-k-preserved
unfolding decode
loop-k-preserved c =
    let pre = c.requires in
    let o = pre.1.opened in
    let says = kind_rows o pre.2 _ 4 _ _ _ pre.0.low (omega arith) c.get.ensures c.get-2.ensures (started c.into_iter-k-iterator.ensures.into_iter_gives c.bitand-k-items.ensures) in
    let inv = c.loop-k.invariant in
    let m = head_member _ _ _ _ o.rows says _ (walk_in inv.1.0 c.in-Some.ensures.steps.0) in
    let k = since_is _ _ _ c.counted-counted.ensures c.rank.ensures c.rank-rank.ensures c.since.ensures.0 in
    let join = c.join_if.ensures in (
      join.len ∙ inv.0,
      head_step _ _ _ o.rows (few o) _ (head_walked _ _ _ _ o.rows says) _ inv.1 c.in-Some.ensures.steps.0 c.in-Some.ensures.steps.1 m.0
          (near_is _ _ _ _ pre.0.ranks m.1 pre.0.ends k) join,
    )

pub shape_of-w : goal.shape_of-w
shape_of-w c = c.loop-k.invariant.0

pub returns : goal.returns
unfolding decode
returns c =
    let pre = c.requires in
    let o = pre.1.opened in
    let says = kind_rows o pre.2 _ 4 _ _ _ pre.0.low (omega arith) c.get.ensures c.get-2.ensures (started c.into_iter-k-iterator.ensures.into_iter_gives c.bitand-k-items.ensures) in
    head_end _ _ _ o.rows (few o) _ (head_walked _ _ _ _ o.rows says) _ c.in-None.ensures.steps.0 c.loop-k.invariant.1.1
