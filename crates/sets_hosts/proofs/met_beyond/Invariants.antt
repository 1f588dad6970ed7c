use Prim.Native.Nat.{◌-◌, ◌<◌}
use Rattle.model.specs.Limits.{ROWS}
use Rattle.sets_of_rows.specs.First.{next}
use Prim.Native.Nat.{ℕ}
use Rattle.model.specs.Table.{Table}
use Rattle.sets_of_rows.specs.Walk.{Walk, Gathered}
use Rattle.sets_hosts.specs.Hosts.{Lent, beyond_to}
use Rattle.sets_hosts.proofs.met_beyond.Given as goal

abbrev pub invariant-loop-d : goal.invariant-loop-d
invariant-loop-d l = (t : Table) (n : ℕ) → Lent t n l.s l.w → l.a < n → Walk l.initial.d-iterator.left l.d-iterator.left × Gathered (beyond_to t n l.host l.initial.d-iterator.left) l.met (next l.d-iterator.left)
