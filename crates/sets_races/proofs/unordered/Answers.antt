use mathlib.Core.Path.{sym, subst}
use Prim.Native.Nat.{ℕ, ◌<◌}
use Rattle.sets_grids.specs.Given.{fitting_few}
use Rattle.sets_races.specs.Pair.{mask_low, unordered_mask}
use native.Mathlib.Omega.{arith}
use Rattle.sets_races.proofs.unordered.Goals as goal

pub shared-all-requires : goal.shared-all-requires
shared-all-requires c = (c.requires.0.first, c.requires.0.second, c.requires.2.fitting.fit)

pub mask-requires : goal.mask-requires
mask-requires c = let a = fitting_few c.requires.2.fitting in (omega (arith, c.requires.0.first), omega (arith, c.requires.0.second), c.requires.2.fitting.room)

pub mask-requires-2 : goal.mask-requires-2
mask-requires-2 c = let a = fitting_few c.requires.2.fitting in (omega (arith, c.requires.0.second), omega (arith, c.requires.0.first), c.requires.2.fitting.room)

pub moved-requires : goal.moved-requires
moved-requires c = (record { first = c.requires.0.second; second = c.requires.0.first }, subst (λ (z : ℕ). z < 65536) (sym c.mask-2.ensures) (mask_low _ _), c.requires.2.fitting.fit)

pub returns : goal.returns
returns c =
    unordered_mask c.requires.2 _ _ _ _ _ _ c.requires.0.first c.requires.0.second c.requires.1 c.shared-all.ensures c.mask.ensures c.mask-2.ensures c.moved.ensures
