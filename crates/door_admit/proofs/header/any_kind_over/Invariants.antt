use mathlib.Core.Path.{◌≡◌}
use mathlib.Core.Bool.{false}
use Prim.Native.Nat.{◌≤◌}
use Rattle.finite.specs.Below.{any_below}
use Rattle.model.specs.Refusal.{kind_over}
use Rattle.door_admit.proofs.header.any_kind_over.Given as goal

abbrev pub invariant-loop-a : goal.invariant-loop-a
invariant-loop-a l = (l.a ≤ l.agents) × (any_below l.a (kind_over l.p) ≡ false)
