use Prim.Native.Nat.{ℕ, ◌+◌, ◌≤◌}
use Rattle.model.specs.Table.{Table}
use Rattle.sets_of_rows.specs.Rows.{Rows}
use Rattle.sets_of_table.specs.Known.{Opened}
use Rattle.sets_chains.specs.Alone.{between}
use Rattle.sets_chains.proofs.broader.Given as goal

abbrev pub invariant-loop-k : goal.invariant-loop-k
invariant-loop-k l = (l.q + 1 ≤ l.k) × (l.k ≤ 5) × ((t : Table) (n : ℕ) → Opened t n l.s → Rows n (between t l.q l.k) l.a)
