use Prim.Native.Nat.{◌≤◌}
use Rattle.finite.specs.Below.{any_below}
use Rattle.run.specs.Layout.{table_of}
use Rattle.sets_of_rows.specs.Rows.{Rows}
use Rattle.sets_chains.specs.Wide.{wide_from}
use Rattle.sets_chains.proofs.make_available_by_chains.Given as goal

abbrev pub invariant-loop-q : goal.invariant-loop-q
invariant-loop-q l = (1 ≤ l.q) × (l.q ≤ 5) × Rows l.t.rows (λ v. any_below l.q (wide_from (table_of l.t) l.t.rows l.a v)) l.visible
