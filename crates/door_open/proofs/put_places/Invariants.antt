use Rattle.door_open.specs.Laid.{Put, place_byte}
use Rattle.model.specs.Header.{HEADER}
use lib.ListN.{length}
use mathlib.Core.Path.{◌≡◌}
use Prim.Native.Nat.{◌≤◌}
use Rattle.door_open.proofs.put_places.Given as goal

abbrev pub invariant-loop-k : goal.invariant-loop-k
invariant-loop-k l = (l.k ≤ l.n) × (length l.t ≡ length l.initial.t) × Put HEADER (place_byte l.hosts l.s) l.k l.initial.t l.t
