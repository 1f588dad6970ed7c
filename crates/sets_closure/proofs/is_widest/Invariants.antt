use mathlib.Core.Path.{◌≡◌}
use Prim.Native.Nat.{◌≤◌}
use Rattle.sets_closure.specs.Widest.{common_to}
use Rattle.sets_closure.proofs.is_widest.Given as goal

abbrev pub invariant-loop-m : goal.invariant-loop-m
invariant-loop-m l = (l.m ≤ 16) × (l.common ≡ common_to l.s l.c l.m)
