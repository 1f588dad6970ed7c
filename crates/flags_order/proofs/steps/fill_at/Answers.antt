use mathlib.Core.Path.{◌≡◌, refl}
use Prim.Native.Nat.{◌*◌}
use native.Mathlib.Omega.{arith}
use Rattle.flags_order.specs.Steps.{row_none, row_more}
use borrow.Author.Rules.{rules}
use Rattle.flags_order.proofs.steps.fill_at.Goals as goal

pub loop-k-init : goal.loop-k-init
loop-k-init c = (search rules, refl, row_none _ _ _ _ _)

pub loop-k-preserved : goal.loop-k-preserved
loop-k-preserved c =
    let made = row_more _ _ _ _ _ _ _ _ _ (omega arith) (omega arith)
    c.loop-k.invariant.2
    c.fill_cell.ensures c.fill_cell-in-loop-k.ensures in
    (search rules, made.grown.frame.len, made)

pub returns : goal.returns
returns c =
    let e : c.loop-k.k ≡ 3 * c.args.t.now.rows = omega arith in
    rw e at c.loop-k.invariant.2
