use mathlib.Core.Path.{◌≡◌}
use Prim.Native.Nat.{◌-◌}
use lib.ListN.{length}
use Rattle.model.specs.Limits.{ROWS}
use Rattle.run.specs.Layout.{table_of}
use Rattle.sets_of_rows.specs.First.{next}
use Rattle.sets_of_rows.specs.Walk.{Walk}
use Rattle.sets_sequences.specs.Heads.{HeadedTo}
use Rattle.sets_sequences.proofs.add_head.Given as goal

abbrev pub invariant-loop-k : goal.invariant-loop-k
invariant-loop-k l = (length l.w ≡ length l.initial.w) × (Walk l.initial.k-iterator.left l.k-iterator.left × HeadedTo (table_of l.t) l.t.rows l.h (next l.k-iterator.left) l.initial.w l.w)
