use Rattle.run.specs.Layout.{table_of}
use mathlib.Core.Path.{◌≡◌}
use mathlib.Core.Bool.{false}
use Prim.Native.Nat.{◌≤◌}
use Rattle.finite.specs.Below.{any_below}
use Rattle.model.specs.Synchronizes.{carries_out}
use Rattle.ask_accepts.proofs.sync.is_carried_out.Given as goal

abbrev pub invariant-loop-x : goal.invariant-loop-x
invariant-loop-x l = (l.x ≤ l.t.rows) × (any_below l.x (carries_out (table_of l.t) l.a l.b) ≡ false)
