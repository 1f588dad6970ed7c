use Rattle.run.specs.Layout.{table_of}
use mathlib.Core.Path.{◌≡◌}
use Prim.Native.Nat.{◌≤◌}
use mathlib.Core.Bool.{false}
use Rattle.finite.specs.Below.{any_below}
use Rattle.model.specs.Fill.{not_before_at}
use Rattle.model.specs.Limits.{LONGEST}
use Rattle.find_sources.proofs.blanks.some_miss.Given as goal

abbrev pub invariant-loop-k : goal.invariant-loop-k
invariant-loop-k l = (l.k ≤ LONGEST) × (any_below l.k (not_before_at (table_of l.t) l.y l.s) ≡ false)
