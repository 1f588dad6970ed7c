use mathlib.Core.Path.{◌≡◌}
use Prim.Native.Nat.{◌≤◌}
use lib.ListN.{length}
use Rattle.model.specs.Limits.{SOURCES}
use Rattle.model.specs.Table.{source_of}
use Rattle.run.specs.Layout.{rows_in}
use Rattle.find_sources.specs.Sources.{Listed}
use Rattle.find_sources.proofs.sources.read_sources.Given as goal

abbrev pub invariant-loop-i : goal.invariant-loop-i
invariant-loop-i l = (l.i ≤ l.t.rows) × (length l.list ≡ SOURCES) × Listed (source_of (rows_in l.t.bytes)) l.i l.list
