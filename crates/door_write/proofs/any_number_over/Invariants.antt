use Rattle.door_write.specs.Answer.{number_over}
use Rattle.finite.specs.Below.{any_below}
use Prim.Native.Nat.{◌≤◌}
use mathlib.Core.Bool.{false}
use mathlib.Core.Path.{◌≡◌}
use Rattle.door_write.proofs.any_number_over.Given as goal

abbrev pub invariant-loop-a : goal.invariant-loop-a
invariant-loop-a l = (l.a ≤ l.agents) × (any_below l.a (number_over l.version l.p) ≡ false)
