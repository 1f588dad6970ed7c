use mathlib.Core.Path.{◌∙◌}
use Rattle.sets_of_table.specs.Ask.{few}
use Rattle.sets_grids.specs.Given.{fitting}
use Rattle.sets_location.specs.Put.{locate_kept}
use Rattle.sets_location.specs.Placed.{adds_then, adds_cong, write_access, write_over, write_targets, write_bits}
use native.Mathlib.Omega.{arith}
use Rattle.sets_location.proofs.place_write.Goals as goal

pub get-requires : goal.get-requires
get-requires c = let b = few c.requires.0.given.opened in let r = c.requires.0.given.opened.space in omega (arith, c.requires.2.low, b, r)

pub rows-requires : goal.rows-requires
rows-requires c = let r = c.requires.0.given.opened.space in omega (arith, r)

pub made_available-g-requires : goal.made_available-g-requires
made_available-g-requires c =
    (record { low = c.requires.2.low; is = write_access c.requires.1 }, c.requires.0, c.requires.2.carried)

pub met_whole-requires : goal.met_whole-requires
met_whole-requires c =
    (record { low = c.requires.2.low; is = write_access c.requires.1 }, c.requires.0.given.opened, c.made_available-g.ensures)

pub put_whole-requires : goal.put_whole-requires
put_whole-requires c =
    let pre = c.requires in
    (fitting pre.0.given, write_over pre.0.given.opened _ pre.2.low (write_access pre.1) pre.1 _ _ _ _ _ _ _ _ c.get.ensures c.rows.ensures c.bitand-public.ensures c.bitand-target.ensures c.met_whole.ensures c.bitand-met.ensures c.bitor.ensures c.bitand-whole.ensures, pre.2.empty)

pub maybe_met-requires : goal.maybe_met-requires
maybe_met-requires c =
    let pre = c.requires in
    let frame = c.put_whole.ensures.frame in
    (record { low = pre.2.low; is = write_access pre.1 }, locate_kept frame pre.0, c.made_available-g.ensures)

pub put_parts-requires : goal.put_parts-requires
put_parts-requires c =
    let pre = c.requires in
    let frame = c.put_whole.ensures.frame in
    (locate_kept frame pre.0, c.made_available-g.ensures, write_targets pre.0.given.opened _ pre.2.low (write_access pre.1) pre.1 _ _ _ _ _ _ _ _ c.get.ensures c.rows.ensures c.bitand-public.ensures c.bitand-target.ensures c.met_whole.ensures c.bitand-met.ensures c.bitor.ensures c.bitand-whole.ensures _ _ _ c.maybe_met.ensures c.bitand-maybe.ensures c.sub.ensures)

pub shape_of-w : goal.shape_of-w
shape_of-w c =
    c.put_parts.ensures.frame.len ∙ c.put_whole.ensures.frame.len

pub returns : goal.returns
returns c =
    let pre = c.requires in
    adds_cong
    (write_bits pre.0.given.opened _ pre.2.low (write_access pre.1) pre.1 _ _ _ _ _ _ _ _ c.get.ensures c.rows.ensures c.bitand-public.ensures c.bitand-target.ensures c.met_whole.ensures c.bitand-met.ensures c.bitor.ensures c.bitand-whole.ensures _ _ _ c.maybe_met.ensures c.bitand-maybe.ensures c.sub.ensures)
    (adds_then c.put_whole.ensures c.put_parts.ensures)
