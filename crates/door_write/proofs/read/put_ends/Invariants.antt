use mathlib.Core.Path.{◌≡◌}
use Prim.Native.Nat.{◌*◌, ◌≤◌}
use lib.ListN.{length}
use Rattle.finite.specs.Lists.{Written}
use Rattle.door_write.specs.Read.{end_numbers}
use Rattle.door_write.proofs.read.put_ends.Given as goal

abbrev pub invariant-loop-k : goal.invariant-loop-k
invariant-loop-k l = (l.k ≤ 2 * l.d.count) × (length l.out ≡ length l.initial.out) × Written (end_numbers l.d) l.k l.initial.out l.out
