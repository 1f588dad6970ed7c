use native.Mathlib.Omega.{arith}
use Rattle.sets_of_table.specs.Fits.{fit_of}
use Rattle.door_pieces.specs.Entry.{few}
use Rattle.ask_check.specs.Whole.{judged, sourced_in}
use Rattle.ask_check.proofs.check.judge_run.Goals as goal

pub read_sources-src-requires : goal.read_sources-src-requires
read_sources-src-requires g c = few c.requires.1

pub judge-r-requires : goal.judge-r-requires
judge-r-requires g c =
    let pre = c.requires in
    let list = c.read_sources-src.ensures in
    (fit_of pre.1, pre.0, record { each = omega (arith, list.room, few pre.1); sourced = sourced_in _ _ _ _ list pre.2 })

pub returns : goal.returns
returns g c =
    let pre = c.requires in
    let list = c.read_sources-src.ensures in
    judged _ _ _ _ list pre.0.work c.judge-r.ensures c.clear.ensures
