use mathlib.Core.Path.{sym, ◌∙◌}
use native.Mathlib.Omega.{arith}
use Rattle.model.specs.Table.{decode}
use Rattle.sets_of_rows.specs.Walk.{walk_less, walk_in}
use Rattle.sets_grids.specs.Given.{fitting_few}
use Rattle.sets_location.specs.Put.{pairs_begin, pairs_turn, pairs_end, whole_off, whole_mask, whole_end}
use Rattle.sets_location.proofs.put_whole.Goals as goal

pub put-requires : goal.put-requires
put-requires c = let r = c.requires.0.room in let b = fitting_few c.requires.0 in let l = c.requires.1.here in omega (arith, r, b, l)

pub loop-y-init : goal.loop-y-init
loop-y-init c = rw c.into_iter-y-iterator.ensures.into_iter_gives (pairs_begin _ _ ((fitting_few c.requires.0)) c.requires.1.low (whole_off _ _ _) _)

pub shared-m-requires : goal.shared-m-requires
shared-m-requires c =
    (c.requires.1.here, c.requires.1.low _ (walk_in c.loop-y.invariant.0 c.in-Some.ensures.steps.0), c.requires.0.fit)

pub add-requires : goal.add-requires
add-requires c =
    let r = c.requires.0.room in let b = fitting_few c.requires.0 in let l = c.requires.1.here in let e = c.put.ensures.frame.len in let f = c.loop-y.invariant.1.frame.len in (record { first = omega (arith, b, l); second = c.in-Some.ensures.steps.0.bound }, c.shared-m.ensures.low, omega (arith, r, e, f))

pub loop-y-preserved : goal.loop-y-preserved
loop-y-preserved c =
    pairs_turn _ _ ((fitting_few c.requires.0)) c.requires.1.low (whole_off _ _ _) c.loop-y.invariant c.in-Some.ensures.steps.0 c.in-Some.ensures.steps.1 (whole_mask _ _ _ _ c.shared-m.ensures) c.add.ensures

pub shape_of-w : goal.shape_of-w
shape_of-w c =
    c.loop-y.invariant.1.frame.len ∙ c.put.ensures.frame.len

pub returns : goal.returns
unfolding decode
returns c =
    whole_end c.requires.0.fit c.requires.1.here ((fitting_few c.requires.0)) c.requires.1.here c.requires.1 c.requires.2 c.put.ensures (pairs_end _ _ ((fitting_few c.requires.0)) c.requires.1.low (whole_off _ _ _) _ c.in-None.ensures.steps.0 c.loop-y.invariant.1)
