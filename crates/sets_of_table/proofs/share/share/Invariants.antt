use mathlib.Core.Path.{◌≡◌}
use Prim.Native.Nat.{◌≤◌}
use lib.ListN.{length}
use Rattle.model.specs.Limits.{AGENTS}
use Rattle.sets_of_table.specs.Share.{SharesTo}
use Rattle.sets_of_table.proofs.share.share.Given as goal

abbrev pub invariant-loop-a : goal.invariant-loop-a
invariant-loop-a l = (l.a ≤ AGENTS) × (length l.s ≡ length l.initial.s) × SharesTo l.p l.a l.initial.s l.s
