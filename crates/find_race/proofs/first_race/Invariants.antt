use Rattle.run.specs.Layout.{table_of}
use Rattle.model.specs.Limits.{BYTES}
use Rattle.find_race.specs.First.{NoneBelow}
use Rattle.std.specs.declared.option.Option.TheVariants.{None}
use Rattle.model.specs.Race.{races_above, has_race}
use Rattle.finite.specs.Below.{least}
use Prim.Native.Nat.{◌-◌, ◌*◌, ◌≤◌, ◌<◌}
use mathlib.Core.Path.{◌≡◌}
use Rattle.find_race.proofs.first_race.Given as goal

abbrev pub invariant-loop-b : goal.invariant-loop-b
invariant-loop-b l = NoneBelow (table_of l.t) l.x l.y l.b

abbrev pub decreases-loop-b : goal.decreases-loop-b
decreases-loop-b l = l.end - l.b

abbrev pub invariant-loop-y : goal.invariant-loop-y
invariant-loop-y l = (l.x < l.y) × (l.y ≤ l.t.rows) × (l.answer ≡ None) × (least l.y (races_above (table_of l.t) l.x) ≡ l.y) × (l.end ≤ 2 * BYTES)

abbrev pub invariant-pairs : goal.invariant-pairs
invariant-pairs l = (l.x ≤ l.t.rows) × (l.answer ≡ None) × (least l.x (has_race (table_of l.t)) ≡ l.x)
