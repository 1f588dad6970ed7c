use mathlib.Core.Path.{◌≡◌, refl, ap, ◌∙◌}
use native.Mathlib.Omega.{arith}
use lib.ListN.{length}
use Rattle.bits.specs.Within.{within_cleared, within_put}
use Rattle.bits.specs.Fill.{row_fill_none, row_fill_put, grid_fill_none, grid_fill_more, length_row_fill}
use Rattle.bits.specs.Stage.{made_filled}
use Rattle.work_area.specs.Regions.{EDGE, EDGE_END, GRID}
use Rattle.find_race.specs.Bytes.{ready_kept}
use borrow.Author.Rules.{rules}
use Rattle.find_axioms.proofs.edges.fill_edges.Goals as goal

pub loop-x-init : goal.loop-x-init
loop-x-init c =
    let cleared = within_cleared EDGE EDGE_END (omega arith) c.clear.ensures in
    (search rules, refl, ready_kept (omega arith) cleared c.requires.1, grid_fill_none _ _ _ _ _)

pub loop-y-init : goal.loop-y-init
loop-y-init c = (search rules, refl, c.loop-x.invariant.2, row_fill_none _ _ _)

pub loop-y-preserved : goal.loop-y-preserved
loop-y-preserved c =
    let put = c.put_if in
    let inv = c.loop-y.invariant in
    let e = row_fill_put _ _ _ put.new.w _ _ _ _ inv.3 c.edge_at-b.ensures (omega arith) put.ensures in
    let frame = within_put EDGE EDGE_END _ _ (omega arith) (omega arith) put.ensures in
    (search rules, ap length e ∙ length_row_fill _ _ _ _, ready_kept (omega arith) frame inv.2, e)

pub loop-x-preserved : goal.loop-x-preserved
loop-x-preserved c =
    let inv = c.loop-y.invariant in
    let out = c.loop-x.invariant in
    let e : c.loop-y.y ≡ c.args.t.now.rows = omega arith in
    (search rules, inv.1 ∙ out.1, inv.2, grid_fill_more _ _ _ _ _ _ _ _ out.3 (rw e at inv.3))

pub returns : goal.returns
returns c =
    let e : c.loop-x.x ≡ c.args.t.now.rows = omega arith in
    made_filled EDGE EDGE_END GRID _ _ _ _ _ (omega arith) (omega arith) (omega arith)
    c.clear.ensures (rw e at c.loop-x.invariant.3)
