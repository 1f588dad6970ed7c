use mathlib.Core.Path.{◌≡◌}
use Prim.Native.Nat.{◌*◌, ◌≤◌}
use lib.ListN.{length}
use Rattle.finite.specs.Lists.{Written}
use Rattle.door_write.specs.Parts.{PLACE_NUMBERS}
use Rattle.door_write.specs.Read.{place_numbers}
use Rattle.door_write.proofs.read.put_places.Given as goal

abbrev pub invariant-loop-k : goal.invariant-loop-k
invariant-loop-k l = (l.k ≤ PLACE_NUMBERS * l.n) × (length l.out ≡ length l.initial.out) × Written (place_numbers l.p l.n) l.k l.initial.out l.out
