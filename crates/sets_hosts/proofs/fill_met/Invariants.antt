use mathlib.Core.Path.{◌≡◌}
use Prim.Native.Nat.{◌-◌}
use lib.ListN.{length}
use Rattle.model.specs.Limits.{ROWS}
use Rattle.sets_of_rows.specs.First.{next}
use Rattle.sets_hosts.specs.Hosts.{Meeting}
use Rattle.sets_hosts.proofs.fill_met.Given as goal

abbrev pub invariant-loop-a : goal.invariant-loop-a
invariant-loop-a l = (length l.w ≡ length l.initial.w) × Meeting l.s l.initial.w l.initial.a-iterator.left l.a-iterator.left l.w
