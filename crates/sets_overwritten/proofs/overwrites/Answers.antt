use Rattle.sets_overwritten.specs.Over.{mask_small, over_mask}
use native.Mathlib.Omega.{arith}
use Rattle.sets_overwritten.proofs.overwrites.Goals as goal

pub mask-requires : goal.mask-requires
mask-requires c = let few_are = c.requires.1.fitting.fit.few in let e = c.requires.1.fitting.rows in (omega (arith, c.requires.0.first, few_are, e), omega (arith, c.requires.0.second, few_are, e), c.requires.1.fitting.room)

pub moved-a-requires : goal.moved-a-requires
moved-a-requires c = (record { first = c.requires.0.first; second = c.requires.0.third }, mask_small _ _ _ c.mask.ensures, c.requires.1.fitting.fit)

pub mask-requires-2 : goal.mask-requires-2
mask-requires-2 c = let few_are = c.requires.1.fitting.fit.few in let e = c.requires.1.fitting.rows in (omega (arith, c.requires.0.second, few_are, e), omega (arith, c.requires.0.third, few_are, e), c.requires.1.fitting.room)

pub moved-b-requires : goal.moved-b-requires
moved-b-requires c = (record { first = c.requires.0.second; second = c.requires.0.third }, mask_small _ _ _ c.mask-2.ensures, c.requires.1.fitting.fit)

pub shared-requires : goal.shared-requires
shared-requires c =
    (c.requires.0.third, c.requires.0.third, c.requires.1.fitting.fit)

pub returns : goal.returns
returns c =
    let pre = c.requires in
    let few_are = pre.1.fitting.fit.few in
    over_mask _ pre.1.fitting.rows (omega (arith, few_are, pre.1.fitting.rows)) pre.1.judging pre.1.fitting.fit.sized _ _ _ _ _ _ _ _ pre.0.first pre.0.second pre.0.third c.mask.ensures c.mask-2.ensures c.moved-a.ensures c.moved-b.ensures c.shared.ensures
