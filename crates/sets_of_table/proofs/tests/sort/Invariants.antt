use mathlib.Core.Path.{◌≡◌}
use Prim.Native.Nat.{◌≤◌}
use lib.ListN.{length}
use Rattle.sets_of_table.specs.Sorted.{SortingTo}
use Rattle.sets_of_table.proofs.tests.sort.Given as goal

abbrev pub invariant-loop-q : goal.invariant-loop-q
invariant-loop-q l = (l.q ≤ 4) × (length l.s ≡ length l.initial.s) × SortingTo l.q l.initial.s l.s
