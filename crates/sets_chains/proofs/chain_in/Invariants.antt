use mathlib.Core.Path.{◌≡◌}
use Prim.Native.Nat.{◌-◌}
use lib.ListN.{length}
use Rattle.model.specs.Limits.{ROWS}
use Rattle.run.specs.Layout.{table_of}
use Rattle.sets_of_rows.specs.First.{next}
use Rattle.sets_chains.specs.Chained.{InTurning}
use Rattle.sets_chains.proofs.chain_in.Given as goal

abbrev pub invariant-loop-v : goal.invariant-loop-v
invariant-loop-v l = (length l.w ≡ length l.initial.w) × InTurning (table_of l.t) l.t.rows l.q l.initial.v-iterator.left l.initial.w l.v-iterator.left l.w
