use Rattle.run.specs.Layout.{table_of}
use mathlib.Core.Path.{◌≡◌}
use Prim.Native.Nat.{◌≤◌}
use mathlib.Core.Bool.{false}
use Rattle.finite.specs.Below.{any_below}
use Rattle.model.specs.Fill.{written_by}
use Rattle.find_sources.proofs.writers.is_written.Given as goal

abbrev pub invariant-loop-z : goal.invariant-loop-z
invariant-loop-z l = (l.z ≤ l.t.rows) × (any_below l.z (written_by (table_of l.t) l.y) ≡ false)
