use Rattle.run.specs.Layout.{table_of}
use mathlib.Core.Path.{◌≡◌}
use Prim.Native.Nat.{◌≤◌}
use lib.ListN.{length}
use Rattle.model.specs.Limits.{SOURCES}
use Rattle.model.specs.Fill.{chosen}
use Rattle.find_sources.specs.Sources.{at, Listed}
use Rattle.sets_choice.proofs.choose.Given as goal

abbrev pub invariant-loop-i : goal.invariant-loop-i
invariant-loop-i l = (l.i ≤ l.t.rows) × (length l.list ≡ SOURCES) × Listed (chosen (table_of l.t) (at l.src)) l.i l.list
