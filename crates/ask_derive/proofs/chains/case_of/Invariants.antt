-- `case_of` meets its contract: no lower case leads there. Assumes nothing.
use mathlib.Core.Path.{◌≡◌}
use Prim.Native.Nat.{◌≤◌}
use Rattle.finite.specs.Below.{least}
use Rattle.model.specs.Happens.{ROW_CASES}
use Rattle.run_rows.specs.Cases.{nth_case_rows}
use Rattle.ask_derive.proofs.chains.case_of.Given as goal

abbrev pub invariant-loop-k : goal.invariant-loop-k
invariant-loop-k l = (l.k ≤ ROW_CASES) × (least l.k (nth_case_rows l.s l.from l.to l.r l.q l.synced l.ordered) ≡ l.k)
