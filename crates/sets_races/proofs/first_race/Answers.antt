use mathlib.Core.Path.{refl, sym, ◌∙◌}
use native.Mathlib.Omega.{arith}
use Rattle.finite.specs.Below.{least_none, least_more}
use Rattle.model.specs.Table.{decode}
use Rattle.sets_of_rows.specs.Rows.{rows_at}
use Rattle.sets_of_rows.specs.Walk.{walk_in, walk_less, search_begin, search_turn, search_found, search_end}
use Rattle.sets_of_table.specs.Known.{says_rows}
use Rattle.sets_grids.specs.Filling.{member_in}
use Rattle.sets_grids.specs.Given.{given_few}
use Rattle.sets_grids.specs.Location.{judged}
use Rattle.sets_races.specs.Pair.{open_conflict, byte_at, mask_first}
use Rattle.sets_races.specs.Search.{races_out, race_on, race_off, partner_found, partner_none, has_out, from_none, from_some, row_found, row_none, byte_low, byte_found}
use Rattle.sets_races.proofs.first_race.Goals as goal

pub rows-x-items-requires : goal.rows-x-items-requires
rows-x-items-requires c = let a = c.requires.given.opened.space in omega arith

pub pairs-init : goal.pairs-init
pairs-init c =
    let acc = rows_at (c.into_iter-x-iterator.ensures.into_iter_gives ∙ c.rows-x-items.ensures) (says_rows c.requires.given.opened.known.tested.accesses.access) in
    let b = search_begin _ _ (has_out _ _ acc) in
    (b.0, b.1, refl)

pub open_after-y-items-requires : goal.open_after-y-items-requires
unfolding decode
open_after-y-items-requires c =
    let acc = rows_at (c.into_iter-x-iterator.ensures.into_iter_gives ∙ c.rows-x-items.ensures) (says_rows c.requires.given.opened.known.tested.accesses.access) in
    let m = member_in _ acc (walk_in c.pairs.invariant.0 c.in-Some.ensures.steps.0) in
    (record { low = m.0; is = m.1 }, c.requires)

pub loop-y-init : goal.loop-y-init
loop-y-init c =
    let b = search_begin _ _ (races_out _ _ _ (rows_at c.into_iter-y-iterator.ensures.into_iter_gives c.open_after-y-items.ensures)) in (b.0, b.1, c.pairs.invariant.2)

pub pairs-preserved : goal.pairs-preserved
pairs-preserved c =
    let acc = rows_at (c.into_iter-x-iterator.ensures.into_iter_gives ∙ c.rows-x-items.ensures) (says_rows c.requires.given.opened.known.tested.accesses.access) in
    let given = c.requires.given in
    let inv = c.pairs.invariant in
    let none = partner_none _ _ _ given.opened.rows (given_few given)
    (search_end _ _ (races_out _ _ _ (rows_at c.into_iter-y-iterator.ensures.into_iter_gives c.open_after-y-items.ensures)) _ c.in-None-y.ensures.steps.0 c.loop-y.invariant.1) in
    let b = search_turn _ _ (has_out _ _ acc) (inv.0, inv.1) c.in-Some.ensures.steps.0 c.in-Some.ensures.steps.1 (from_none _ _ _ none refl) in
    (b.0, b.1, c.loop-y.invariant.2)

pub unordered-bytes-requires : goal.unordered-bytes-requires
unfolding decode
unordered-bytes-requires c =
    let acc = rows_at (c.into_iter-x-iterator.ensures.into_iter_gives ∙ c.rows-x-items.ensures) (says_rows c.requires.given.opened.known.tested.accesses.access) in
    let m = member_in _ acc (walk_in c.pairs.invariant.0 c.in-Some.ensures.steps.0) in
    let o = member_in _ (rows_at c.into_iter-y-iterator.ensures.into_iter_gives c.open_after-y-items.ensures) (walk_in c.loop-y.invariant.0 c.in-Some-y.ensures.steps.0) in
    (record { first = m.0; second = o.0 }, open_conflict _ _ _ o.1, judged c.requires)

pub loop-y-preserved : goal.loop-y-preserved
loop-y-preserved c =
    let inv = c.loop-y.invariant in
    let b = search_turn _ _ (races_out _ _ _ (rows_at c.into_iter-y-iterator.ensures.into_iter_gives c.open_after-y-items.ensures)) (inv.0, inv.1) c.in-Some-y.ensures.steps.0 c.in-Some-y.ensures.steps.1 (race_off _ _ _ _ c.unordered-bytes.ensures c.if-bytes-eq0.true) in
    (b.0, b.1, inv.2)

pub loop-k-init : goal.loop-k-init
loop-k-init c = least_none _

pub is_set-requires : goal.is_set-requires
is_set-requires c =
    let z = c.if-bytes-eq0.false in
    let low = byte_low c.unordered-bytes.ensures c.loop-k.invariant (omega arith) in
    omega arith

pub overflow_add-k : goal.overflow_add-k
overflow_add-k c =
    let z = c.if-bytes-eq0.false in
    let low = byte_low c.unordered-bytes.ensures c.loop-k.invariant (omega arith) in
    omega arith

pub loop-k-smaller : goal.loop-k-smaller
loop-k-smaller c =
    let z = c.if-bytes-eq0.false in
    let low = byte_low c.unordered-bytes.ensures c.loop-k.invariant (omega arith) in
    omega arith

pub loop-k-preserved : goal.loop-k-preserved
loop-k-preserved c = least_more _ _ c.loop-k.invariant (sym c.is_set.ensures ∙ c.if-is_set.false)

pub overflow_cast-answer : goal.overflow_cast-answer
overflow_cast-answer c =
    let b = c.in-Some.ensures.steps.0.bound in omega arith

pub overflow_cast-answer-in-loop-y : goal.overflow_cast-answer-in-loop-y
overflow_cast-answer-in-loop-y c =
    let b = c.in-Some-y.ensures.steps.0.bound in omega arith

pub start-requires : goal.start-requires
start-requires c =
    c.in-Some.ensures.steps.0.bound

pub overflow_add-answer : goal.overflow_add-answer
overflow_add-answer c =
    let z = c.if-bytes-eq0.false in
    let low = byte_low c.unordered-bytes.ensures c.loop-k.invariant (omega arith) in
    let s = c.start.ensures.1 in
    omega arith

pub overflow_cast-answer-in-loop-y-2 : goal.overflow_cast-answer-in-loop-y-2
unfolding decode
overflow_cast-answer-in-loop-y-2 c =
    let acc = rows_at (c.into_iter-x-iterator.ensures.into_iter_gives ∙ c.rows-x-items.ensures) (says_rows c.requires.given.opened.known.tested.accesses.access) in
    let m = member_in _ acc (walk_in c.pairs.invariant.0 c.in-Some.ensures.steps.0) in
    let l = m.0 in
    let z = c.if-bytes-eq0.false in
    let low = byte_low c.unordered-bytes.ensures c.loop-k.invariant (omega arith) in
    let b = byte_at _ _ _ c.requires.given.opened.fit (let r = c.requires.given.opened.rows in omega arith) c.unordered-bytes.ensures (omega arith) in
    let f = byte_found c.unordered-bytes.ensures c.loop-k.invariant (sym c.is_set.ensures ∙ c.if-is_set.true) low in
    let g = (mask_first c.unordered-bytes.ensures (omega arith)).1 in
    let s = c.start.ensures.0 in
    omega arith

pub returns-in-None : goal.returns-in-None
returns-in-None c =
    let acc = rows_at (c.into_iter-x-iterator.ensures.into_iter_gives ∙ c.rows-x-items.ensures) (says_rows c.requires.given.opened.known.tested.accesses.access) in
    let given = c.requires.given in
    c.pairs.invariant.2 ∙ row_none _ _ given.opened.rows (given_few given) (search_end _ _ (has_out _ _ acc) _ c.in-None.ensures.steps.0 c.pairs.invariant.1)

pub returns-then-is_set : goal.returns-then-is_set
unfolding decode
returns-then-is_set c =
    let acc = rows_at (c.into_iter-x-iterator.ensures.into_iter_gives ∙ c.rows-x-items.ensures) (says_rows c.requires.given.opened.known.tested.accesses.access) in
    let given = c.requires.given in
    let few = given_few given in
    let m = member_in _ acc (walk_in c.pairs.invariant.0 c.in-Some.ensures.steps.0) in
    let o = member_in _ (rows_at c.into_iter-y-iterator.ensures.into_iter_gives c.open_after-y-items.ensures) (walk_in c.loop-y.invariant.0 c.in-Some-y.ensures.steps.0) in
    let z = c.if-bytes-eq0.false in
    let low = byte_low c.unordered-bytes.ensures c.loop-k.invariant (omega arith) in
    let on = race_on _ _ _ _ o.0 o.1 c.unordered-bytes.ensures (omega arith) in
    let inner = c.loop-y.invariant in
    let outer = c.pairs.invariant in
    let byte = byte_found c.unordered-bytes.ensures c.loop-k.invariant (sym c.is_set.ensures ∙ c.if-is_set.true) low in
    let is = partner_found _ _ _ given.opened.rows _ o.0 (search_found _ _ (races_out _ _ _ (rows_at c.into_iter-y-iterator.ensures.into_iter_gives c.open_after-y-items.ensures)) (inner.0, inner.1) c.in-Some-y.ensures.steps.0 on) few on byte c.start.ensures.0 in
    let has = from_some _ _ _ m.0 is refl in
    row_found _ _ given.opened.rows few _ m.0 (search_found _ _ (has_out _ _ acc) (outer.0, outer.1) c.in-Some.ensures.steps.0 has) has is
