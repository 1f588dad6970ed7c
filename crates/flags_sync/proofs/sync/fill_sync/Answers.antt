use Rattle.work_area.specs.Regions.{SYNC, SYNC_END, GRID}
use Rattle.work_area.specs.Synced.{sequenced_kept}
use mathlib.Core.Path.{◌≡◌, refl, ap, ◌∙◌}
use native.Mathlib.Omega.{arith}
use lib.ListN.{length}
use Rattle.bits.specs.Within.{within_put, within_cleared}
use Rattle.bits.specs.Fill.{row_fill_none, row_fill_put, grid_fill_none, grid_fill_more, length_row_fill}
use Rattle.bits.specs.Stage.{made_filled}
use borrow.Author.Rules.{rules}
use Rattle.flags_sync.proofs.sync.fill_sync.Goals as goal

pub loop-a-init : goal.loop-a-init
loop-a-init c = (
  search rules,
  refl,
  sequenced_kept (omega arith)
      (within_cleared SYNC SYNC_END (omega arith) c.clear.ensures)
      c.requires.2,
  grid_fill_none _ _ _ _ _,
)

pub loop-b-init : goal.loop-b-init
loop-b-init c = (search rules, refl, c.loop-a.invariant.2, row_fill_none _ _ _)

pub loop-b-preserved : goal.loop-b-preserved
loop-b-preserved c =
    let put = c.put_if in
    let inv = c.loop-b.invariant in
    let e = row_fill_put _ _ _ put.new.w _ _ _ _ inv.3 c.sync_at-d.ensures (omega arith) put.ensures in (
      search rules,
      ap length e ∙ length_row_fill _ _ _ _,
      sequenced_kept (omega arith) (within_put SYNC SYNC_END _ _ (omega arith) (omega arith) put.ensures) inv.2,
      e,
    )

pub loop-a-preserved : goal.loop-a-preserved
loop-a-preserved c =
    let inv = c.loop-b.invariant in
    let out = c.loop-a.invariant in
    let e : c.loop-b.b ≡ c.args.t.now.rows = omega arith in
    (search rules, inv.1 ∙ out.1, inv.2, grid_fill_more _ _ _ _ _ _ _ _ out.3 (rw e at inv.3))

pub returns : goal.returns
returns c =
    let e : c.loop-a.a ≡ c.args.t.now.rows = omega arith in
    made_filled SYNC SYNC_END GRID _ _ _ _ _ (omega arith) (omega arith) (omega arith) c.clear.ensures
    (rw e at c.loop-a.invariant.3)
