use Rattle.work_area.specs.Regions.{HAPPENS, HAPPENS_END, MOMENTS}
use mathlib.Core.Path.{◌≡◌, refl, ap, ◌∙◌}
use Prim.Native.Nat.{◌*◌}
use native.Mathlib.Omega.{arith}
use lib.ListN.{length}
use Rattle.bits.specs.Fill.{row_fill_none, row_fill_put, grid_fill_none, grid_fill_more, length_row_fill}
use Rattle.bits.specs.Stage.{made_filled}
use borrow.Author.Rules.{rules}
use Rattle.flags_order.proofs.fill_order.Goals as goal

pub loop-m-init : goal.loop-m-init
loop-m-init c = (search rules, refl, grid_fill_none _ _ _ _ _)

pub loop-k-init : goal.loop-k-init
loop-k-init c = (search rules, refl, row_fill_none _ _ _)

pub loop-k-preserved : goal.loop-k-preserved
loop-k-preserved c =
    let put = c.put_if in
    let inv = c.loop-k.invariant in
    let e = row_fill_put _ _ _ put.new.w _ _ _ _ inv.2 c.ordered_at-b.ensures (omega arith) put.ensures in
    (search rules, ap length e ∙ length_row_fill _ _ _ _, e)

pub loop-m-preserved : goal.loop-m-preserved
loop-m-preserved c =
    let inv = c.loop-k.invariant in
    let out = c.loop-m.invariant in
    let e : c.loop-k.k ≡ 3 * c.args.t.now.rows = omega arith in
    (search rules, inv.1 ∙ out.1, grid_fill_more _ _ _ _ _ _ _ _ out.2 (rw e at inv.2))

pub returns : goal.returns
returns c =
    let e : c.loop-m.m ≡ 3 * c.args.t.now.rows = omega arith in
    made_filled HAPPENS HAPPENS_END MOMENTS _ _ _ _ _ (omega arith) (omega arith) (omega arith)
    c.clear.ensures (rw e at c.loop-m.invariant.2)
