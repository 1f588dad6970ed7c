use mathlib.Core.Path.{◌≡◌}
use Prim.Native.Nat.{◌-◌}
use lib.ListN.{length}
use Rattle.model.specs.Limits.{ROWS}
use Rattle.run.specs.Layout.{rows_in}
use Rattle.sets_of_rows.specs.First.{next}
use Rattle.sets_of_rows.specs.Walk.{Walk}
use Rattle.sets_of_table.specs.Number.{key_in, Numbered}
use Rattle.sets_of_table.proofs.number.number.Given as goal

abbrev pub invariant-loop-i : goal.invariant-loop-i
invariant-loop-i l = (length l.keys ≡ length l.initial.keys) × (length l.loc ≡ length l.initial.loc) × (Walk l.fn.x l.i-iterator.left × Numbered (key_in l.whole (rows_in l.t.bytes)) l.fn.x (next l.i-iterator.left) l.keys l.loc l.l)
