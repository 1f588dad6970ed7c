use mathlib.Core.Path.{refl}
use native.Mathlib.Omega.{arith}
use Rattle.sets_closure.proofs.reach.turn.Goals as goal

pub returns-then-down : goal.returns-then-down
returns-then-down c = (rw c.if-down.true refl, omega (arith, c.requires))
