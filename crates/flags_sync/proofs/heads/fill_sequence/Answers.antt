use Rattle.work_area.specs.Regions.{SEQUENCE, SEQUENCE_END, GRID}
use mathlib.Core.Path.{◌≡◌, refl, ap, ◌∙◌}
use native.Mathlib.Omega.{arith}
use lib.ListN.{length}
use Rattle.bits.specs.Within.{within_put, within_cleared}
use Rattle.bits.specs.Fill.{row_fill_none, row_fill_put, grid_fill_none, grid_fill_more, length_row_fill}
use Rattle.bits.specs.Stage.{holds_kept, made_filled}
use borrow.Author.Rules.{rules}
use Rattle.flags_sync.proofs.heads.fill_sequence.Goals as goal

pub loop-a-init : goal.loop-a-init
loop-a-init c = (
  search rules,
  refl,
  holds_kept (λ h. omega arith)
      (within_cleared SEQUENCE SEQUENCE_END (omega arith) c.clear.ensures)
      c.requires.2,
  grid_fill_none _ _ _ _ _,
)

pub loop-x-init : goal.loop-x-init
loop-x-init c = (search rules, refl, c.loop-a.invariant.2, row_fill_none _ _ _)

pub loop-x-preserved : goal.loop-x-preserved
loop-x-preserved c =
    let put = c.put_if in
    let inv = c.loop-x.invariant in
    let e = row_fill_put _ _ _ put.new.w _ _ _ _ inv.3 c.sequence_at-b.ensures (omega arith) put.ensures in (
      search rules,
      ap length e ∙ length_row_fill _ _ _ _,
      holds_kept (λ h. omega arith) (within_put SEQUENCE SEQUENCE_END _ _ (omega arith) (omega arith) put.ensures) inv.2,
      e,
    )

pub loop-a-preserved : goal.loop-a-preserved
loop-a-preserved c =
    let inv = c.loop-x.invariant in
    let out = c.loop-a.invariant in
    let e : c.loop-x.x ≡ c.args.t.now.rows = omega arith in
    (search rules, inv.1 ∙ out.1, inv.2, grid_fill_more _ _ _ _ _ _ _ _ out.3 (rw e at inv.3))

pub returns : goal.returns
returns c =
    let e : c.loop-a.a ≡ c.args.t.now.rows = omega arith in
    made_filled SEQUENCE SEQUENCE_END GRID _ _ _ _ _ (omega arith) (omega arith) (omega arith)
    c.clear.ensures (rw e at c.loop-a.invariant.3)
