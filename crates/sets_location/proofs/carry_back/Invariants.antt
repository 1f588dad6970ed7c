use mathlib.Core.Path.{◌≡◌}
use Prim.Native.Nat.{◌≤◌}
use lib.ListN.{length}
use Rattle.run.specs.Layout.{table_of}
use Rattle.sets_location.specs.Carried.{Carrying}
use Rattle.sets_location.proofs.carry_back.Given as goal

abbrev pub invariant-loop-q : goal.invariant-loop-q
invariant-loop-q l = (l.q ≤ 4) × (length l.made ≡ length l.initial.made) × Carrying (table_of l.t) l.t.rows l.x l.q l.made
