use mathlib.Core.Path.{sym, ◌∙◌}
use native.Mathlib.Omega.{arith}
use Rattle.model.specs.Table.{decode}
use Rattle.sets_overlap.specs.Overlap.{less_next, meet_said}
use Rattle.sets_overlap.specs.Locations.{turn_begin, turn_met, turn_apart, turn_end}
use Rattle.sets_overlap.proofs.take_in.Goals as goal

pub start-start-requires : goal.start-start-requires
start-start-requires c =
    let b = c.requires.0.bound in omega arith

pub end-end-requires : goal.end-end-requires
end-end-requires c =
    let b = c.requires.0.bound in omega arith

pub get-own-requires : goal.get-own-requires
get-own-requires c =
    let b = c.requires.0.bound in let a = c.requires.1.space in omega arith

pub get-requires : goal.get-requires
get-requires c =
    let b = c.requires.0.bound in let a = c.requires.2.long in omega arith

pub loop-j-init : goal.loop-j-init
unfolding decode
loop-j-init c =
    turn_begin c.requires.1 _ c.requires.2 c.requires.0 c.get-own.ensures c.sub-rest.ensures _ _ c.get.ensures c.bitor-all.ensures

pub get-here-requires : goal.get-here-requires
get-here-requires c =
    let b = c.in-Some.ensures.bound in let a = c.requires.1.space in omega arith

pub end-requires : goal.end-requires
end-requires c =
    let b = c.in-Some.ensures.bound in omega arith

pub start-requires : goal.start-requires
start-requires c =
    let b = c.in-Some.ensures.bound in omega arith

pub join-requires : goal.join-requires
join-requires c =
    let b = c.in-Some.ensures.bound in let a = c.loop-j.invariant.long in omega arith

pub loop-j-smaller-then-start-end : goal.loop-j-smaller-then-start-end
unfolding decode
loop-j-smaller-then-start-end c =
    less_next c.requires.1 _ (c.loop-j.invariant.near.sub _ c.in-Some.ensures.hit) c.in-Some.ensures c.get-here.ensures c.sub-left.ensures

pub loop-j-preserved-then-start-end : goal.loop-j-preserved-then-start-end
unfolding decode
loop-j-preserved-then-start-end c =
    turn_met c.requires.1 _ c.requires.2 c.requires.0 c.get-own.ensures c.sub-rest.ensures _ c.loop-j.invariant c.in-Some.ensures c.get-here.ensures c.sub-left.ensures _ (meet_said _ _ _ _ _ _ c.start-start.ensures.0 c.end-end.ensures.0 c.end.ensures.0 c.start.ensures.0) c.if-start-end.true c.bitor_assign.ensures.after c.join.ensures

pub loop-j-smaller : goal.loop-j-smaller
unfolding decode
loop-j-smaller c =
    less_next c.requires.1 _ (c.loop-j.invariant.near.sub _ c.in-Some.ensures.hit) c.in-Some.ensures c.get-here.ensures c.sub-left.ensures

pub loop-j-preserved : goal.loop-j-preserved
unfolding decode
loop-j-preserved c =
    turn_apart c.requires.1 _ c.requires.2 c.requires.0 c.get-own.ensures c.sub-rest.ensures _ c.loop-j.invariant c.in-Some.ensures c.get-here.ensures c.sub-left.ensures (meet_said _ _ _ _ _ _ c.start-start.ensures.0 c.end-end.ensures.0 c.end.ensures.0 c.start.ensures.0) c.if-start-end.false

pub put-requires : goal.put-requires
put-requires c =
    let b = c.requires.0.bound in let a = c.loop-j.invariant.long in omega arith

pub shape_of-near : goal.shape_of-near
shape_of-near c =
    c.put.ensures.frame.len ∙ c.loop-j.invariant.long ∙ sym c.requires.2.long

pub returns : goal.returns
unfolding decode
returns c =
    turn_end c.requires.1 _ c.requires.2 c.requires.0 c.get-own.ensures c.sub-rest.ensures c.loop-j.invariant (c.in_default.ensures) c.put.ensures
