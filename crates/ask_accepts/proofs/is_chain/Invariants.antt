use Rattle.run.specs.Layout.{table_of}
use mathlib.Core.Path.{◌≡◌}
use mathlib.Core.Bool.{false}
use Prim.Native.Nat.{◌*◌, ◌≤◌, ◌<◌}
use lib.ListN.{length}
use Rattle.finite.specs.Below.{any_below}
use Rattle.model.specs.Reason.{stands, broken}
use Rattle.ask_accepts.proofs.is_chain.Given as goal

abbrev pub invariant-loop-x : goal.invariant-loop-x
invariant-loop-x l = (l.x-index ≤ length l.steps) × (l.m ≡ stands l.e.first l.steps l.x-index) × (l.m < 3 * l.t.rows) × (any_below l.x-index (broken (table_of l.t) l.s l.e.first l.steps) ≡ false)
