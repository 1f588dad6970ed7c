use mathlib.Core.Path.{◌≡◌}
use Prim.Native.Nat.{◌-◌}
use lib.ListN.{length}
use Rattle.model.specs.Limits.{ROWS}
use Rattle.sets_of_rows.specs.First.{next}
use Rattle.sets_of_rows.specs.Filling.{Filling}
use Rattle.sets_of_table.specs.Placed.{of_number}
use Rattle.sets_of_table.proofs.number.spread.Given as goal

abbrev pub invariant-loop-i : goal.invariant-loop-i
invariant-loop-i l = (length l.s ≡ length l.initial.s) × Filling l.base l.fn.x (of_number l.by l.loc) l.initial.s l.i-iterator.left l.s
