use native.Mathlib.Omega.{arith}
use Rattle.sets_of_table.specs.Fits.{fit_of}
use Rattle.door_pieces.specs.Entry.{few}
use Rattle.ask_fill.specs.Whole.{rows_filled}
use Rattle.ask_fill.proofs.fill_run.Goals as goal

pub read_sources-src-requires : goal.read_sources-src-requires
read_sources-src-requires g c = few c.requires.1

pub fill-r-requires : goal.fill-r-requires
fill-r-requires g c =
    let pre = c.requires in
    let list = c.read_sources-src.ensures in
    (fit_of pre.1, pre.0, omega (arith, list.room, few pre.1))

pub returns : goal.returns
returns g c =
    let pre = c.requires in
    let list = c.read_sources-src.ensures in
    rows_filled _ _ _ _ list pre.0.work c.fill-r.ensures c.clear.ensures
