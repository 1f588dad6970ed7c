use Rattle.flags_location.specs.Given.{given_kept}
use Rattle.flags_location.specs.Order.{prepared_kept, made_prepared, within_grid, made_placed}
use Rattle.work_area.specs.Regions.{LOCATION, LOCATION_END, PAIR, PAIRS}
use Rattle.bits.specs.Within.{within_cleared}
use Rattle.bits.specs.Cube.{cube_fill_none, cube_fill_more, length_cube_fill, made_cube}
use lib.ListN.{length}
use native.Mathlib.Omega.{arith}
use mathlib.Core.Path.{◌≡◌, refl, ap, ◌∙◌}
use borrow.Author.Rules.{rules}
use Rattle.flags_location.proofs.fill_location.Goals as goal

pub make_reach-requires : goal.make_reach-requires
make_reach-requires c =
    given_kept (omega arith) c.make_hosted.ensures.frame c.requires

pub loop-x-init : goal.loop-x-init
loop-x-init c = (
  search rules,
  refl,
  prepared_kept (within_cleared LOCATION LOCATION_END (omega arith) c.clear.ensures)
      (made_prepared c.make_hosted.ensures.holds
      c.make_reach.ensures),
  cube_fill_none _ _ _ _ _ _,
)

pub loop-x-preserved : goal.loop-x-preserved
loop-x-preserved c =
    let row = c.fill_row in
    let inv = c.loop-x.invariant in
    let e = cube_fill_more _ _ _ _ _ _ _ _ _ inv.3 row.ensures in (
      search rules,
      ap length e ∙ length_cube_fill _ _ _ _ _ _ _,
      prepared_kept (within_grid LOCATION LOCATION_END _ _ _ _ (omega arith) (omega arith) row.ensures) inv.2,
      e,
    )

pub returns : goal.returns
returns c =
    let h = c.make_hosted.ensures in
    let r = c.make_reach.ensures in
    let e : c.loop-x.x ≡ c.args.t.now.rows = omega arith in
    made_placed h r
    (made_cube LOCATION LOCATION_END PAIRS PAIR _ _ _ _ _ (omega arith) (omega arith) (omega arith)
    (omega (arith, h.frame.len, r.frame.len, c.requires.room)) c.clear.ensures
    (rw e at c.loop-x.invariant.3))
