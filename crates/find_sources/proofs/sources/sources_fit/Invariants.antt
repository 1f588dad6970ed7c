use mathlib.Core.Path.{◌≡◌}
use Prim.Native.Nat.{◌≤◌}
use mathlib.Core.Bool.{false}
use Rattle.finite.specs.Below.{any_below}
use Rattle.run.specs.Layout.{table_of}
use Rattle.find_sources.specs.Sources.{broken_in}
use Rattle.find_sources.proofs.sources.sources_fit.Given as goal

abbrev pub invariant-loop-i : goal.invariant-loop-i
invariant-loop-i l = (l.i ≤ l.t.rows) × (any_below l.i (broken_in (table_of l.t) l.src) ≡ false)
