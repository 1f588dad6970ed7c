use Prim.Native.Nat.{◌≤◌}
use Rattle.sets_of_table.specs.Sorted.{HeldTo}
use Rattle.sets_of_table.proofs.tests.holding.Given as goal

abbrev pub invariant-loop-m : goal.invariant-loop-m
invariant-loop-m l = (l.m ≤ 16) × HeldTo l.s l.q l.m l.a
