use Rattle.run.specs.Layout.{table_of}
use mathlib.Core.Path.{◌≡◌}
use mathlib.Core.Bool.{false}
use Prim.Native.Nat.{◌≤◌}
use Rattle.finite.specs.Below.{any_below}
use Rattle.flags_location.specs.Chains.{ends_with}
use Rattle.flags_location.proofs.chains.some_end.Given as goal

abbrev pub invariant-loop-c : goal.invariant-loop-c
invariant-loop-c l = (l.c ≤ l.t.rows) × (any_below l.c (ends_with (table_of l.t) l.p.x l.p.y l.p.b l.a) ≡ false)
