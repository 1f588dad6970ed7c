use Rattle.run.specs.Layout.{table_of}
use Prim.Native.Nat.{◌≤◌}
use Rattle.sets_happens.specs.Program.{Ordering}
use Rattle.sets_happens.proofs.put_rows.Given as goal

abbrev pub invariant-loop-i : goal.invariant-loop-i
invariant-loop-i l = (l.i ≤ l.t.rows) × Ordering (table_of l.t) l.t.rows l.i l.initial.w l.w
