use mathlib.Core.Path.{◌≡◌}
use mathlib.Core.Bool.{false}
use Prim.Native.Nat.{◌≤◌}
use Rattle.finite.specs.Below.{any_below}
use Rattle.work_area.specs.Regions.{PAIR}
use Rattle.find_race.specs.Pairs.{order_bit}
use Rattle.find_race.proofs.pair.before_some.Given as goal

abbrev pub invariant-loop-k : goal.invariant-loop-k
invariant-loop-k l = (l.k ≤ PAIR) × (any_below l.k (order_bit l.w l.x l.y) ≡ false)
