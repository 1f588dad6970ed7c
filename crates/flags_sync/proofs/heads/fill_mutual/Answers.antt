use Rattle.work_area.specs.Regions.{MUTUAL, MUTUAL_END, GRID}
use mathlib.Core.Path.{◌≡◌, refl, ap, ◌∙◌}
use native.Mathlib.Omega.{arith}
use lib.ListN.{length}
use Rattle.bits.specs.Fill.{row_fill_none, row_fill_put, grid_fill_none, grid_fill_more, length_row_fill}
use Rattle.bits.specs.Stage.{made_filled}
use borrow.Author.Rules.{rules}
use Rattle.flags_sync.proofs.heads.fill_mutual.Goals as goal

pub loop-i-init : goal.loop-i-init
loop-i-init c = (search rules, refl, grid_fill_none _ _ _ _ _)

pub loop-j-init : goal.loop-j-init
loop-j-init c = (search rules, refl, row_fill_none _ _ _)

pub loop-j-preserved : goal.loop-j-preserved
loop-j-preserved c =
    let put = c.put_if in
    let inv = c.loop-j.invariant in
    let e = row_fill_put _ _ _ put.new.w _ _ _ _ inv.2 c.mutual_at-b.ensures (omega arith) put.ensures in
    (search rules, ap length e ∙ length_row_fill _ _ _ _, e)

pub loop-i-preserved : goal.loop-i-preserved
loop-i-preserved c =
    let inv = c.loop-j.invariant in
    let out = c.loop-i.invariant in
    let e : c.loop-j.j ≡ c.args.t.now.rows = omega arith in
    (search rules, inv.1 ∙ out.1, grid_fill_more _ _ _ _ _ _ _ _ out.2 (rw e at inv.2))

pub returns : goal.returns
returns c =
    let e : c.loop-i.i ≡ c.args.t.now.rows = omega arith in
    made_filled MUTUAL MUTUAL_END GRID _ _ _ _ _ (omega arith) (omega arith) (omega arith)
    c.clear.ensures (rw e at c.loop-i.invariant.2)
