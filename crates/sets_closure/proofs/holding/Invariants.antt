use Prim.Native.Nat.{◌≤◌}
use Rattle.sets_closure.specs.Classes.{HoldsTo}
use Rattle.sets_closure.proofs.holding.Given as goal

abbrev pub invariant-loop-m : goal.invariant-loop-m
invariant-loop-m l = (l.m ≤ 16) × HoldsTo l.s l.c l.m l.a
