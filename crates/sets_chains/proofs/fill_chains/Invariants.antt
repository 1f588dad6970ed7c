use mathlib.Core.Path.{◌≡◌}
use Prim.Native.Nat.{◌≤◌}
use lib.ListN.{length}
use Rattle.run.specs.Layout.{table_of}
use Rattle.sets_chains.specs.Filled.{Chaining}
use Rattle.sets_chains.proofs.fill_chains.Given as goal

abbrev pub invariant-loop-k : goal.invariant-loop-k
invariant-loop-k l = (l.k ≤ 4) × (length l.w ≡ length l.initial.w) × Chaining (table_of l.t) l.t.rows l.k l.initial.w l.w
