use native.Mathlib.Omega.{arith}
use Rattle.sets_overwritten.specs.Over.{mask_small}
use Rattle.sets_choice.specs.Choosing.{missed_mask}
use Rattle.sets_choice.proofs.missed.Goals as goal

pub moved-ordered-requires : goal.moved-ordered-requires
moved-ordered-requires c = let pre = c.requires in (pre.0, mask_small _ _ _ c.mask.ensures, pre.1.fitting.fit)

pub returns : goal.returns
returns c =
    let pre = c.requires in
    let few_are = pre.1.fitting.fit.few in
    missed_mask _ pre.1.fitting.rows (omega (arith, few_are, pre.1.fitting.rows)) pre.1.judging pre.1.fitting.fit.sized _ _ _ _ _ pre.0.first pre.0.second c.mask.ensures c.moved-ordered.ensures c.shared-all.ensures
