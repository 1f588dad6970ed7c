use mathlib.Core.Path.{◌≡◌}
use Prim.Native.Nat.{◌≤◌}
use lib.ListN.{length}
use Rattle.flags_order.specs.Steps.{RowsMade}
use Rattle.flags_order.proofs.steps.fill_cases.Given as goal

abbrev pub invariant-loop-j : goal.invariant-loop-j
invariant-loop-j l = (l.j ≤ l.t.rows) × (length l.w ≡ length l.initial.w) × RowsMade l.t.bytes l.t.rows l.s l.j l.initial.w l.w
