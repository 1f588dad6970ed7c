use Rattle.sets_of_rows.specs.Rows.{started}
use mathlib.Core.Path.{sym, ◌∙◌}
use native.Mathlib.Omega.{arith}
use Rattle.sets_of_rows.specs.Walk.{walk_less, walk_in, search_begin, search_turn, search_end}
use Rattle.sets_grids.specs.Filling.{member_in}
use Rattle.sets_choice.specs.Choosing.{later_rows, later_hit, some_rows, between_off, between_clear, between_hit, between_none}
use Rattle.sets_choice.proofs.some_between.Goals as goal

pub get-requires : goal.get-requires
get-requires c =
    let pre = c.requires in
    let e = pre.1.judged.fitting.rows in
    let f = pre.1.judged.fitting.fit.few in
    let r = pre.1.judged.fitting.room in
    omega (arith, pre.0, e, f, r)

pub returns-then-has_any : goal.returns-then-has_any
returns-then-has_any c =
    let pre = c.requires in
    let later = later_rows pre.1 pre.0 c.get.ensures c.bitand.ensures in
    sym (later_hit pre.1 pre.0 later (sym c.has_any.ensures ∙ c.if-has_any.true))

pub get-requires-2 : goal.get-requires-2
get-requires-2 c =
    let pre = c.requires in
    let e = pre.1.judged.fitting.rows in
    let f = pre.1.judged.fitting.fit.few in
    let r = pre.1.judged.fitting.room in
    omega (arith, pre.0, e, f, r)

pub loop-z-init : goal.loop-z-init
loop-z-init c =
    let pre = c.requires in
    let later = later_rows pre.1 pre.0 c.get.ensures c.bitand.ensures in
    let none = sym c.has_any.ensures ∙ c.if-has_any.false in
    let rows = some_rows pre.1 pre.0 c.get-2.ensures (started c.into_iter-z-iterator.ensures.into_iter_gives c.bitand-z-items.ensures) in
    search_begin _ _ (between_off pre.1 pre.0 later none rows)

pub overwrites-requires : goal.overwrites-requires
overwrites-requires c =
    let pre = c.requires in
    let rows = some_rows pre.1 pre.0 c.get-2.ensures (started c.into_iter-z-iterator.ensures.into_iter_gives c.bitand-z-items.ensures) in
    let m = member_in _ rows (walk_in c.loop-z.invariant.0 c.in-Some.ensures.steps.0) in
    let p = pre.1 in
    (record { first = pre.0; second = m.0; third = p.reader.low }, p.judged)

pub returns-then-overwrites-gt0 : goal.returns-then-overwrites-gt0
returns-then-overwrites-gt0 c =
    let pre = c.requires in
    let rows = some_rows pre.1 pre.0 c.get-2.ensures (started c.into_iter-z-iterator.ensures.into_iter_gives c.bitand-z-items.ensures) in
    let m = member_in _ rows (walk_in c.loop-z.invariant.0 c.in-Some.ensures.steps.0) in
    sym (between_hit pre.1 pre.0 _ _ m.0 m.1 c.overwrites.ensures c.if-overwrites-gt0.true)

pub loop-z-preserved : goal.loop-z-preserved
loop-z-preserved c =
    let pre = c.requires in
    let later = later_rows pre.1 pre.0 c.get.ensures c.bitand.ensures in
    let none = sym c.has_any.ensures ∙ c.if-has_any.false in
    let rows = some_rows pre.1 pre.0 c.get-2.ensures (started c.into_iter-z-iterator.ensures.into_iter_gives c.bitand-z-items.ensures) in
    let m = member_in _ rows (walk_in c.loop-z.invariant.0 c.in-Some.ensures.steps.0) in
    let clear = between_clear pre.1 pre.0 later none _ _ m.0 c.overwrites.ensures c.if-overwrites-gt0.false in
    search_turn _ _ (between_off pre.1 pre.0 later none rows) c.loop-z.invariant c.in-Some.ensures.steps.0 c.in-Some.ensures.steps.1 clear

pub returns : goal.returns
returns c =
    let pre = c.requires in
    let later = later_rows pre.1 pre.0 c.get.ensures c.bitand.ensures in
    let none = sym c.has_any.ensures ∙ c.if-has_any.false in
    let rows = some_rows pre.1 pre.0 c.get-2.ensures (started c.into_iter-z-iterator.ensures.into_iter_gives c.bitand-z-items.ensures) in
    sym (between_none pre.1 pre.0 (search_end _ _ (between_off pre.1 pre.0 later none rows) _ c.in-None.ensures.steps.0 c.loop-z.invariant.1))
