-- `close` meets its contract: `Phase` within a round and `Rounds` between rounds. Assumes nothing.
use Rattle.bits.proofs.Rounds.{Phase, Rounds}
use Rattle.bits.proofs.close.Given as goal

abbrev pub invariant-loop-i : goal.invariant-loop-i
invariant-loop-i l = Phase l.initial.w l.w l.base l.n l.stride l.k l.i

abbrev pub invariant-loop-k : goal.invariant-loop-k
invariant-loop-k l = Rounds l.initial.w l.w l.base l.n l.stride l.k
