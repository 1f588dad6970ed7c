use mathlib.Core.Path.{◌≡◌}
use mathlib.Core.Bool.{false}
use Prim.Native.Nat.{◌≤◌}
use Rattle.finite.specs.Below.{any_below}
use Rattle.model.specs.Table.{dependency}
use Rattle.run.specs.Layout.{mode_in}
use Rattle.run.proofs.Run.depends.Given as goal

abbrev pub invariant-loop-k : goal.invariant-loop-k
invariant-loop-k l = (l.k ≤ (mode_in l.self.bytes).dependencies) × (l.k-end ≡ (mode_in l.self.bytes).dependencies) × (any_below l.k (dependency (mode_in l.self.bytes) l.x l.y) ≡ false)
