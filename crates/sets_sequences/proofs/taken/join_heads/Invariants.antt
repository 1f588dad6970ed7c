use mathlib.Core.Path.{◌≡◌}
use Prim.Native.Nat.{◌-◌}
use lib.ListN.{length}
use Rattle.model.specs.Limits.{ROWS}
use Rattle.run.specs.Layout.{table_of}
use Rattle.sets_of_rows.specs.First.{next}
use Rattle.sets_of_rows.specs.Walk.{Walk}
use Rattle.sets_sequences.specs.Taken.{TakesTo}
use Rattle.sets_sequences.proofs.taken.join_heads.Given as goal

abbrev pub invariant-loop-h : goal.invariant-loop-h
invariant-loop-h l = (length l.w ≡ length l.initial.w) × (Walk l.initial.h-iterator.left l.h-iterator.left × TakesTo (table_of l.t) l.t.rows l.y l.source (next l.h-iterator.left) l.initial.w l.w)
