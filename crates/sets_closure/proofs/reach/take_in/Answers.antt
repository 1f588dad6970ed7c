use mathlib.Core.Path.{◌∙◌}
use Rattle.sets_closure.specs.Reaching.{took_is}
use native.Mathlib.Omega.{arith}
use Rattle.sets_closure.proofs.reach.take_in.Goals as goal

pub get-to-requires : goal.get-to-requires
get-to-requires c = omega (arith, c.requires.1, c.requires.2)

pub get-visible-requires : goal.get-visible-requires
get-visible-requires c = omega (arith, c.requires.1, c.requires.2)

pub get-available-requires : goal.get-available-requires
get-available-requires c =
    omega (arith, c.requires.1, c.requires.2)

pub join-requires : goal.join-requires
join-requires c =
    omega (arith, c.requires.0, c.requires.2)

pub join-requires-2 : goal.join-requires-2
join-requires-2 c =
    let d = c.join.ensures.frame.len in omega (arith, c.requires.0, c.requires.2)

pub join-requires-3 : goal.join-requires-3
join-requires-3 c =
    let d = c.join.ensures.frame.len in let e = c.join-2.ensures.frame.len in omega (arith, c.requires.0, c.requires.2)

pub shape_of-w : goal.shape_of-w
shape_of-w c =
    c.join-3.ensures.frame.len ∙ c.join-2.ensures.frame.len ∙ c.join.ensures.frame.len

pub returns : goal.returns
returns c =
    took_is _ _ _ _ _ c.requires.0 c.get-to.ensures c.get-visible.ensures c.get-available.ensures c.join.ensures c.join-2.ensures c.join-3.ensures
