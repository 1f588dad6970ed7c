-- `is_step` meets its contract: no case so far leads there. Assumes nothing.
use mathlib.Core.Path.{◌≡◌}
use mathlib.Core.Bool.{false}
use Prim.Native.Nat.{◌≤◌}
use Rattle.finite.specs.Below.{any_below}
use Rattle.model.specs.Happens.{ROW_CASES}
use Rattle.run_rows.specs.Cases.{nth_case_rows}
use Rattle.flags_order.proofs.steps.is_step.Given as goal

abbrev pub invariant-loop-k : goal.invariant-loop-k
invariant-loop-k l = (l.k ≤ ROW_CASES) × (any_below l.k (nth_case_rows l.s l.from l.to l.r l.q l.synced l.ordered) ≡ false)
