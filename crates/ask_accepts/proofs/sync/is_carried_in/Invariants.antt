use Rattle.run.specs.Layout.{table_of}
use mathlib.Core.Path.{◌≡◌}
use mathlib.Core.Bool.{false}
use Prim.Native.Nat.{◌≤◌}
use Rattle.finite.specs.Below.{any_below}
use Rattle.model.specs.Synchronizes.{carries_in}
use Rattle.ask_accepts.proofs.sync.is_carried_in.Given as goal

abbrev pub invariant-loop-y : goal.invariant-loop-y
invariant-loop-y l = (l.y ≤ l.t.rows) × (any_below l.y (carries_in (table_of l.t) l.a l.b) ≡ false)
