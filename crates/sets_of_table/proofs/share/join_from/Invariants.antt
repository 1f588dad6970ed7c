use mathlib.Core.Path.{◌≡◌}
use Prim.Native.Nat.{◌≤◌}
use lib.ListN.{length}
use Rattle.sets_of_table.specs.Share.{SCOPES, Took}
use Rattle.sets_of_table.proofs.share.join_from.Given as goal

abbrev pub invariant-loop-q : goal.invariant-loop-q
invariant-loop-q l = (l.l ≤ l.q) × (l.q ≤ SCOPES) × (length l.s ≡ length l.initial.s) × Took l.base l.l l.q l.v l.initial.s l.s
