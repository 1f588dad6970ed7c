use Prim.Native.Nat.{◌-◌}
use Rattle.model.specs.Limits.{ROWS}
use Rattle.run.specs.Layout.{table_of}
use Rattle.sets_of_rows.specs.First.{next}
use Rattle.sets_of_rows.specs.Walk.{Walk}
use Rattle.sets_of_rows.specs.Sift.{Sifted}
use Rattle.sets_mutual.specs.Later.{later_rank}
use Rattle.sets_mutual.proofs.later.later_than.Given as goal

abbrev pub invariant-loop-j : goal.invariant-loop-j
invariant-loop-j l = Walk l.fn.x l.j-iterator.left × Sifted l.fn.x (later_rank (table_of l.t) l.i) l.r (next l.j-iterator.left)
