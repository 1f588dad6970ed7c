use mathlib.Core.Path.{sym, ◌∙◌}
use native.Mathlib.Omega.{arith}
use Rattle.sets_closure.specs.Reaching.{see_begin, see_turn, see_end, see_less}
use Rattle.sets_closure.proofs.reach.search.Goals as goal

pub loop-j-init : goal.loop-j-init
loop-j-init c = see_begin _ _ _ _ _ _ c.none-seen.ensures c.ahead-left.ensures

pub take_in-requires : goal.take_in-requires
take_in-requires c =
    let d = c.loop-j.invariant.kept.frame.len in (c.requires.0, c.in-Some.ensures.bound, omega (arith, c.requires.1))

pub behind-requires : goal.behind-requires
behind-requires c =
    let d = c.loop-j.invariant.kept.frame.len in let e = c.take_in.ensures.kept.frame.len in (c.in-Some.ensures.bound, omega (arith, c.requires.1))

pub ahead-left-requires-in-Some : goal.ahead-left-requires-in-Some
ahead-left-requires-in-Some c =
    let d = c.loop-j.invariant.kept.frame.len in let e = c.take_in.ensures.kept.frame.len in (c.requires.0, omega (arith, c.requires.1))

pub loop-j-smaller : goal.loop-j-smaller
loop-j-smaller c =
    see_less _ _ _ c.loop-j.invariant c.in-Some.ensures c.behind.ensures c.bitor_assign.ensures.after

pub loop-j-preserved : goal.loop-j-preserved
loop-j-preserved c =
    see_turn _ _ _ c.loop-j.invariant c.in-Some.ensures c.take_in.ensures c.behind.ensures c.bitor_assign.ensures.after c.ahead-left-in-Some.ensures

pub shape_of-w : goal.shape_of-w
shape_of-w c = c.loop-j.invariant.kept.frame.len

pub returns : goal.returns
returns c = see_end _ _ c.in_default.ensures c.loop-j.invariant
