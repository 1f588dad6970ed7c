use mathlib.Core.Path.{◌≡◌, refl, ap, ◌∙◌}
use native.Mathlib.Omega.{arith}
use lib.ListN.{length}
use Rattle.bits.specs.Fill.{grid_fill_none, grid_fill_more, length_grid_fill}
use Rattle.work_area.specs.Regions.{LOCATION, LOCATION_END}
use Rattle.flags_location.specs.Order.{prepared_kept, within_row}
use borrow.Author.Rules.{rules}
use Rattle.flags_location.proofs.fill_row.Goals as goal

pub loop-y-init : goal.loop-y-init
loop-y-init c = (search rules, refl, c.requires.holds, grid_fill_none _ _ _ _ _)

pub loop-y-preserved : goal.loop-y-preserved
loop-y-preserved c =
    let pair = c.fill_pair in
    let inv = c.loop-y.invariant in
    let e = grid_fill_more _ _ _ _ _ _ _ _ inv.3 pair.ensures in (
      search rules,
      ap length e ∙ length_grid_fill _ _ _ _ _ _,
      prepared_kept (within_row LOCATION LOCATION_END _ _ _ (omega arith) (omega arith) pair.ensures) inv.2,
      e,
    )

pub returns : goal.returns
returns c =
    let e : c.loop-y.y ≡ c.args.t.now.rows = omega arith in
    rw e at c.loop-y.invariant.3
