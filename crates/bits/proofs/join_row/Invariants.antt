-- `join_row` meets its contract: after m words the list is `join_row` of as many. Assumes nothing.
use mathlib.Core.Path.{◌≡◌}
use Prim.Native.Nat.{◌≤◌}
use lib.ListN.{length}
use Rattle.bits.specs.Bit.{join_row}
use Rattle.bits.proofs.join_row.Given as goal

abbrev pub invariant-loop-m : goal.invariant-loop-m
invariant-loop-m l = (l.m ≤ l.n) × (length l.w ≡ length l.initial.w) × (l.w ≡ join_row l.initial.w l.dst l.src l.m)
