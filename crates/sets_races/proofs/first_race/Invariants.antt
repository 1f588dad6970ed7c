use mathlib.Core.Path.{◌≡◌}
use Prim.Native.Nat.{◌-◌}
use Rattle.finite.specs.Below.{least}
use Rattle.model.specs.Limits.{ROWS, LONGEST}
use Rattle.bits.specs.Bit.{bit_of}
use Rattle.std.specs.declared.option.Option.TheVariants.{None}
use Rattle.run.specs.Layout.{table_of}
use Rattle.sets_of_rows.specs.First.{next}
use Rattle.sets_of_rows.specs.Walk.{Walk}
use Rattle.sets_races.specs.Search.{races_in, has_in}
use Rattle.sets_races.proofs.first_race.Given as goal

abbrev pub invariant-loop-k : goal.invariant-loop-k
invariant-loop-k l = least l.k (bit_of l.bytes) ≡ l.k

abbrev pub decreases-loop-k : goal.decreases-loop-k
decreases-loop-k l = LONGEST - l.k

abbrev pub invariant-loop-y : goal.invariant-loop-y
invariant-loop-y l = Walk l.initial.y-iterator.left l.y-iterator.left × (least (next l.y-iterator.left) (races_in (table_of l.t) l.t.rows l.x) ≡ next l.y-iterator.left) × (l.answer ≡ None)

abbrev pub invariant-pairs : goal.invariant-pairs
invariant-pairs l = Walk l.initial.x-iterator.left l.x-iterator.left × (least (next l.x-iterator.left) (has_in (table_of l.t) l.t.rows) ≡ next l.x-iterator.left) × (l.answer ≡ None)
