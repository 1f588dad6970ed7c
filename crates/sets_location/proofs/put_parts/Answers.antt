use mathlib.Core.Path.{sym, ◌∙◌}
use native.Mathlib.Omega.{arith}
use Rattle.sets_of_rows.specs.Walk.{walk_less, walk_in}
use Rattle.sets_grids.specs.Given.{given_few}
use Rattle.sets_location.specs.Put.{adds_begin, adds_turn, adds_pass, adds_end, parts_off, parts_mask, locate_kept}
use Rattle.sets_location.proofs.put_parts.Goals as goal

pub loop-y-init : goal.loop-y-init
loop-y-init c = rw c.into_iter-y-iterator.ensures.into_iter_gives (adds_begin _ _ (given_few c.requires.0.given) c.requires.2.low (parts_off _ _ _) _)

pub shared-requires : goal.shared-requires
shared-requires c =
    (c.requires.2.here.low, c.requires.2.low _ (walk_in c.loop-y.invariant.0 c.in-Some.ensures.steps.0), c.requires.0.given.opened.fit)

pub bytes_met-requires : goal.bytes_met-requires
bytes_met-requires c =
    let to = c.requires.2 in
    let in_to = walk_in c.loop-y.invariant.0 c.in-Some.ensures.steps.0 in
    (record { first = to.here; second = record { low = to.low _ in_to; is = to.accesses _ in_to }; same = to.same _ in_to }, locate_kept c.loop-y.invariant.1.frame c.requires.0, c.requires.1)

pub add-requires : goal.add-requires
add-requires c =
    let r = c.requires.0.given.room in let b = given_few c.requires.0.given in let l = c.requires.2.here.low in let e = c.loop-y.invariant.1.frame.len in (record { first = omega (arith, b, l); second = c.in-Some.ensures.steps.0.bound }, (parts_mask _ _ _ c.shared.ensures c.bytes_met.ensures (walk_in c.loop-y.invariant.0 c.in-Some.ensures.steps.0)).low, omega (arith, r, e))

pub put_bit-requires : goal.put_bit-requires
put_bit-requires c =
    let r = c.requires.0.given.room in let b = given_few c.requires.0.given in let l = c.requires.2.here.low in let e = c.loop-y.invariant.1.frame.len in let f = c.add.ensures.frame.len in (omega (arith, r, b, l, e, f), c.in-Some.ensures.steps.0.bound)

pub loop-y-smaller-then-met-gt0 : goal.loop-y-smaller-then-met-gt0
loop-y-smaller-then-met-gt0 c =
    walk_less c.in-Some.ensures.steps.0 c.in-Some.ensures.steps.1

pub loop-y-preserved-then-met-gt0 : goal.loop-y-preserved-then-met-gt0
loop-y-preserved-then-met-gt0 c =
    adds_turn _ _ (given_few c.requires.0.given) c.requires.2.low (parts_off _ _ _) c.requires.2.here.low c.loop-y.invariant c.in-Some.ensures.steps.0 c.in-Some.ensures.steps.1 (parts_mask _ _ _ c.shared.ensures c.bytes_met.ensures) c.if-met-gt0.true c.add.ensures c.put_bit.ensures

pub loop-y-preserved : goal.loop-y-preserved
loop-y-preserved c =
    adds_pass _ _ (given_few c.requires.0.given) c.requires.2.low (parts_off _ _ _) c.loop-y.invariant c.in-Some.ensures.steps.0 c.in-Some.ensures.steps.1 (parts_mask _ _ _ c.shared.ensures c.bytes_met.ensures) c.if-met-gt0.false

pub shape_of-w : goal.shape_of-w
shape_of-w c = c.loop-y.invariant.1.frame.len

pub returns : goal.returns
returns c =
    adds_end _ _ (given_few c.requires.0.given) c.requires.2.low (parts_off _ _ _) _ c.in-None.ensures.steps.0 c.loop-y.invariant.1
