use mathlib.Core.Path.{◌≡◌}
use mathlib.Core.List.{List}
use Prim.Native.Nat.{ℕ, ◌≤◌, ◌<◌}
use lib.ListN.{length, get_or}
use Rattle.model.specs.Limits.{AGENTS}
use Rattle.sets_of_table.specs.Share.{SCOPES, Levels, SharedTo}
use Rattle.sets_of_table.proofs.share.share_one.Given as goal

abbrev pub invariant-loop-b : goal.invariant-loop-b
invariant-loop-b l = (l.b ≤ AGENTS) × (length l.s ≡ length l.initial.s) × ((k : ℕ) → k < AGENTS → get_or l.l k 0 ≤ SCOPES)
    × ((p : List (List ℕ)) → Levels p l.a AGENTS l.l → SharedTo p l.a l.b l.initial.s l.s)
