use mathlib.Core.Path.{◌≡◌}
use Prim.Native.Nat.{◌+◌, ◌-◌, ◌*◌}
use lib.ListN.{length}
use Rattle.model.specs.Limits.{ROWS}
use Rattle.bits.specs.Within.{Within}
use Rattle.sets_of_rows.specs.First.{next}
use Rattle.sets_of_rows.specs.Walk.{Walk}
use Rattle.sets_of_table.specs.Placed.{PlacedTo}
use Rattle.sets_of_table.proofs.number.place.Given as goal

abbrev pub invariant-loop-i : goal.invariant-loop-i
invariant-loop-i l = (length l.s ≡ length l.initial.s) × Within l.base (l.base + 2 * ROWS) l.initial.s l.s × (Walk l.fn.x l.i-iterator.left × PlacedTo l.base l.loc l.fn.x (next l.i-iterator.left) l.s)
