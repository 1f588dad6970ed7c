use Prim.Native.Nat.{◌≤◌}
use Rattle.model.specs.Limits.{AGENTS}
use Rattle.sets_of_table.specs.Hears.{HostsTo}
use Rattle.sets_of_table.proofs.share.hosted.Given as goal

abbrev pub invariant-loop-a : goal.invariant-loop-a
invariant-loop-a l = (l.a ≤ AGENTS) × HostsTo l.p l.a l.s l.x
