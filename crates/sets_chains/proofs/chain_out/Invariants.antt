use mathlib.Core.Path.{◌≡◌}
use Prim.Native.Nat.{◌-◌}
use lib.ListN.{length}
use Rattle.model.specs.Limits.{ROWS}
use Rattle.run.specs.Layout.{table_of}
use Rattle.sets_of_rows.specs.First.{next}
use Rattle.sets_chains.specs.Chained.{OutTurning}
use Rattle.sets_chains.proofs.chain_out.Given as goal

abbrev pub invariant-loop-a : goal.invariant-loop-a
invariant-loop-a l = (length l.w ≡ length l.initial.w) × OutTurning (table_of l.t) l.t.rows l.q l.initial.a-iterator.left l.initial.w l.a-iterator.left l.w
