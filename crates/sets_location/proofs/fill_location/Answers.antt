use mathlib.Core.Path.{◌≡◌, refl, sym, ◌∙◌}
use Prim.Native.Nat.{◌-◌}
use Rattle.run.specs.Layout.{table_of}
use Rattle.sets_of_table.specs.Ask.{few}
use Rattle.sets_location.specs.Filled.{Filled, carried_none, filled_begin, filled_at, carried_at, filled_empty, filled_taken, filled_left, access_is, widely, carried_left, filled_end}
use native.Mathlib.Omega.{arith}
use borrow.Author.Rules.{rules}
use Rattle.sets_location.proofs.fill_location.Goals as goal
use Rattle.sets_location.proofs.fill_location.Goals.{Joined-has, then-has, else-has}

joined : (c : Joined-has) → Filled (table_of c.args.t.now) c.args.t.now.rows (c.loop-x.x - 1) c.args.s.now c.clear-2.new.w c.if-has.w
joined c =
    let inv = c.loop-x.invariant in
    let pos = c.loop-x-test.true in
    let o = c.requires.0.opened in
    elim c.if-has.branch [
      | then-has v ↦ filled_taken v.w-is (omega (arith, inv.0, pos)) (filled_at pos inv.1) v.place_row.ensures
      | else-has v ↦ filled_left v.w-is (access_is o _ (omega (arith, inv.0, pos)) _ _ _ c.rows-accesses.ensures c.has.ensures v.if-has.false) (filled_at pos inv.1)
    ]

pub clear-requires : goal.clear-requires
clear-requires c = (omega arith, omega (arith, c.requires.0.room))

pub clear-requires-2 : goal.clear-requires-2
clear-requires-2 c = (omega arith, search rules)

pub rows-accesses-requires : goal.rows-accesses-requires
rows-accesses-requires c =
    let r = c.requires.0.opened.space in omega (arith, r)

pub rows-requires : goal.rows-requires
rows-requires c =
    let r = c.requires.0.opened.space in omega (arith, r)

pub rows-requires-2 : goal.rows-requires-2
rows-requires-2 c =
    let r = c.requires.0.opened.space in omega (arith, r)

pub loop-x-init : goal.loop-x-init
loop-x-init c =
    let made = carried_none c.requires.0.opened refl in
    (omega arith, (filled_begin c.requires.0 c.requires.1 c.clear.ensures c.clear-2.ensures).1, made.0, made.1)

pub has-requires : goal.has-requires
has-requires c =
    let b = few c.requires.0.opened in omega (arith, c.loop-x.invariant.0, c.loop-x-test.true, b)

pub slice_bounds-place_row-end : goal.slice_bounds-place_row-end
slice_bounds-place_row-end c = sym c.loop-x.invariant.2

pub place_row-requires : goal.place_row-requires
place_row-requires c =
    let inv = c.loop-x.invariant in
    let pos = c.loop-x-test.true in
    let o = c.requires.0.opened in
    (access_is o _ (omega (arith, inv.0, pos)) _ _ _ c.rows-accesses.ensures c.has.ensures c.if-has.true, inv.1.from, record { low = omega (arith, inv.0, pos); carried = carried_at pos inv.3; empty = filled_empty (omega (arith, inv.0, pos)) (filled_at pos inv.1) })

pub has-requires-in-loop-x : goal.has-requires-in-loop-x
has-requires-in-loop-x c =
    let b = few c.requires.0.opened in omega (arith, c.loop-x.invariant.0, c.loop-x-test.true, b)

pub slice_bounds-carry_back-end : goal.slice_bounds-carry_back-end
slice_bounds-carry_back-end c =
    sym c.loop-x.invariant.2

pub carry_back-requires : goal.carry_back-requires
carry_back-requires c =
    let inv = c.loop-x.invariant in
    let pos = c.loop-x-test.true in
    let o = c.requires.0.opened in
    let f = joined (goal.at.carry_back-requires c).Joined-has in
    (o.fit, record { low = omega (arith, inv.0, pos); widely = widely o _ (omega (arith, inv.0, pos)) _ _ _ _ c.rows.ensures c.rows-2.ensures c.sub-wide.ensures c.has-in-loop-x.ensures c.if-has-2.true; room = f.from.given.room; available = f.from.locating.available }, carried_at pos inv.3)

pub loop-x-smaller-then-has-2 : goal.loop-x-smaller-then-has-2
loop-x-smaller-then-has-2 c =
    omega (arith, c.loop-x-test.true)

pub loop-x-preserved-then-has-2 : goal.loop-x-preserved-then-has-2
loop-x-preserved-then-has-2 c =
    let inv = c.loop-x.invariant in
    (omega (arith, inv.0), joined (goal.at.loop-x-preserved-then-has-2 c).Joined-has, c.carry_back.ensures.0 ∙ inv.2, c.carry_back.ensures.1)

pub loop-x-smaller : goal.loop-x-smaller
loop-x-smaller c = omega (arith, c.loop-x-test.true)

pub loop-x-preserved : goal.loop-x-preserved
loop-x-preserved c =
    let inv = c.loop-x.invariant in
    let pos = c.loop-x-test.true in
    let o = c.requires.0.opened in
    (omega (arith, inv.0), joined (goal.at.loop-x-preserved c).Joined-has, inv.2, carried_left o _ (omega (arith, inv.0, pos)) _ _ _ _ c.rows.ensures c.rows-2.ensures c.sub-wide.ensures c.has-in-loop-x.ensures c.if-has-2.false (carried_at pos inv.3))

pub shape_of-w : goal.shape_of-w
shape_of-w c =
    c.loop-x.invariant.1.frame.len ∙ (filled_begin c.requires.0 c.requires.1 c.clear.ensures c.clear-2.ensures).0.len

pub returns : goal.returns
returns c =
    let e : c.loop-x.x ≡ 0 = omega (arith, c.loop-x-test.false) in
    filled_end (filled_begin c.requires.0 c.requires.1 c.clear.ensures c.clear-2.ensures).0 (rw e at c.loop-x.invariant.1)
