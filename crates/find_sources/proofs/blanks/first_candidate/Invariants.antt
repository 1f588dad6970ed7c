use Rattle.run.specs.Layout.{table_of}
use mathlib.Core.Path.{◌≡◌}
use Prim.Native.Nat.{◌≤◌}
use Rattle.finite.specs.Below.{least}
use Rattle.model.specs.Fill.{candidate}
use Rattle.find_sources.proofs.blanks.first_candidate.Given as goal

abbrev pub invariant-loop-s : goal.invariant-loop-s
invariant-loop-s l = (l.s ≤ l.t.rows) × (least l.s (candidate (table_of l.t) l.y) ≡ l.s)
