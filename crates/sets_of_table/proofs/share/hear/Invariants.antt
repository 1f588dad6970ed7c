use mathlib.Core.Path.{◌≡◌}
use Prim.Native.Nat.{◌≤◌}
use lib.ListN.{length}
use Rattle.model.specs.Limits.{AGENTS}
use Rattle.sets_of_table.specs.Hears.{HeardTo}
use Rattle.sets_of_table.proofs.share.hear.Given as goal

abbrev pub invariant-loop-a : goal.invariant-loop-a
invariant-loop-a l = (l.a ≤ AGENTS) × (length l.s ≡ length l.initial.s) × HeardTo l.a l.initial.s l.s
