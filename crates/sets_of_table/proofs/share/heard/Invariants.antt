use Prim.Native.Nat.{◌≤◌}
use Rattle.sets_of_table.specs.Share.{SCOPES}
use Rattle.sets_of_table.specs.Hears.{Hears}
use Rattle.sets_of_table.proofs.share.heard.Given as goal

abbrev pub invariant-loop-q : goal.invariant-loop-q
invariant-loop-q l = (l.q ≤ SCOPES) × Hears l.s l.a l.q l.x
