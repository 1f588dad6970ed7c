use Prim.Native.Nat.{◌≤◌}
use Rattle.sets_closure.specs.Reaching.{Closing}
use Rattle.sets_closure.proofs.reach.close.Given as goal

abbrev pub invariant-loop-i : goal.invariant-loop-i
invariant-loop-i l = (l.i ≤ l.n) × Closing l.n l.nodes l.down l.initial.w l.i l.waiting l.w
