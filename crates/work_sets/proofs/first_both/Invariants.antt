use Prim.Native.Nat.{◌≤◌}
use Rattle.work_sets.specs.Meet.{Apart}
use Rattle.work_sets.proofs.first_both.Given as goal

abbrev pub invariant-loop-m : goal.invariant-loop-m
invariant-loop-m l = (l.m ≤ l.n) × Apart l.w l.a l.b l.m
