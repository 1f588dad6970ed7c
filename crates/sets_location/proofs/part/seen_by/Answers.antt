use Rattle.std.proofs.Common.{subst, sym}
use Prim.Native.Nat.{ℕ}
use mathlib.Core.Bool.{Bool}
use Rattle.sets_of_rows.specs.Rows.{Rows}
use Rattle.sets_location.specs.Seen.{sees, sees_after, sees_onward}
use Rattle.sets_location.proofs.part.seen_by.Goals as goal

pub returns-then-plain : goal.returns-then-plain
returns-then-plain c = rw c.if-plain.true (sees_onward _ _ c.onward.ensures)

pub returns : goal.returns
returns c = rw c.if-plain.false (sees_after _ _ c.after.ensures)
