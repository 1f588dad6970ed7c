use Prim.Native.Nat.{◌≤◌}
use Rattle.sets_closure.specs.Classes.{MeetsTo}
use Rattle.sets_closure.proofs.meeting.Given as goal

abbrev pub invariant-loop-q : goal.invariant-loop-q
invariant-loop-q l = (l.q ≤ 4) × MeetsTo l.s l.c l.initial.a l.q l.a
