use Rattle.sets_of_rows.specs.Rows.{started}
use mathlib.Core.Path.{sym, ◌∙◌}
use native.Mathlib.Omega.{arith}
use Rattle.model.specs.Table.{decode}
use Rattle.sets_of_rows.specs.Walk.{walk_less, walk_in}
use Rattle.sets_of_table.specs.Ask.{few}
use Rattle.sets_sequences.specs.Heads.{kind_rows, ends_walked, ends_member, end_begin, end_turn, end_done, since_is}
use Rattle.sets_sequences.proofs.end_of.Goals as goal

pub rank-rank-requires : goal.rank-rank-requires
rank-rank-requires c = let b = few c.requires.1.opened in omega (arith, c.requires.0)

pub get-requires : goal.get-requires
get-requires c = let b = few c.requires.1.opened in let r = c.requires.1.room in omega (arith, c.requires.0)

pub get-requires-2 : goal.get-requires-2
get-requires-2 c =
    let a = c.requires.1.opened.space in omega arith

pub loop-z-init : goal.loop-z-init
unfolding decode
loop-z-init c =
    let o = c.requires.1.opened in
    end_begin _ _ _ (ends_walked _ _ _ _ o.rows (kind_rows o c.requires.2 _ 3 _ _ _ c.requires.0 (omega arith) c.get.ensures c.get-2.ensures (started c.into_iter-z-iterator.ensures.into_iter_gives c.bitand-z-items.ensures)))

pub rank-requires : goal.rank-requires
rank-requires c = c.in-Some.ensures.steps.0.bound

pub loop-z-preserved : goal.loop-z-preserved
unfolding decode
loop-z-preserved c =
    let pre = c.requires in
    let o = pre.1.opened in
    let says = kind_rows o pre.2 _ 3 _ _ _ pre.0 (omega arith) c.get.ensures c.get-2.ensures (started c.into_iter-z-iterator.ensures.into_iter_gives c.bitand-z-items.ensures) in
    let m = ends_member _ _ _ _ o.rows says _ (walk_in c.loop-z.invariant.0 c.in-Some.ensures.steps.0) in
    end_turn _ _ _ (ends_walked _ _ _ _ o.rows says) _ _ c.loop-z.invariant c.in-Some.ensures.steps.0 c.in-Some.ensures.steps.1 m.0 m.1
    (since_is _ _ _ c.counted-counted.ensures c.rank.ensures c.rank-rank.ensures c.since-k.ensures.0) c.since-k.ensures.1 c.lower-end.ensures.0 c.lower-end.ensures.1

pub returns : goal.returns
unfolding decode
returns c =
    let pre = c.requires in
    let o = pre.1.opened in
    end_done _ _ _ (ends_walked _ _ _ _ o.rows (kind_rows o pre.2 _ 3 _ _ _ pre.0 (omega arith) c.get.ensures c.get-2.ensures (started c.into_iter-z-iterator.ensures.into_iter_gives c.bitand-z-items.ensures))) _ o.fit.few c.in-None.ensures.steps.0 c.loop-z.invariant.1
