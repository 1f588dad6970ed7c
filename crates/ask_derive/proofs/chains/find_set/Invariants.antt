use Prim.Native.Nat.{◌≤◌}
use Rattle.bits.specs.Within.{Within}
use Rattle.finite.specs.Below.{least}
use Rattle.model.specs.Limits.{CLASS_SETS}
use Rattle.model.specs.Reason.{has_chain_by}
use Rattle.run.specs.Layout.{table_of}
use Rattle.work_area.specs.Regions.{HAPPENS, CHAINS_END}
use Rattle.work_area.specs.Synced.{Synced}
use lib.ListN.{length}
use mathlib.Core.Path.{◌≡◌}
use Rattle.ask_derive.proofs.chains.find_set.Given as goal

abbrev pub invariant-loop-c : goal.invariant-loop-c
invariant-loop-c l = (l.c ≤ CLASS_SETS) × (length l.w ≡ length l.initial.w) × (least l.c (has_chain_by (table_of l.t) l.first l.second) ≡ l.c) × Synced (table_of l.t) l.t.rows l.w
    × Within HAPPENS CHAINS_END l.initial.w l.w
