use native.Mathlib.Omega.{arith}
use Rattle.sets_of_table.specs.Fits.{fit_of}
use Rattle.door_pieces.specs.Entry.{few}
use Rattle.ask_check.specs.Engine.{to_judge, judge_kept}
use Rattle.ask_check.specs.Whole.{sourced_in}
use Rattle.ask_report.specs.Whole.{rows_reported}
use borrow.Author.Rules.{rules}
use Rattle.ask_report.proofs.report_run.Goals as goal

pub read_sources-src-requires : goal.read_sources-src-requires
read_sources-src-requires c = few c.requires.1

pub locate-requires : goal.locate-requires
locate-requires c =
    let pre = c.requires in (fit_of pre.1, search rules, pre.0.work)

pub judge_located-c-requires : goal.judge_located-c-requires
judge_located-c-requires c =
    let pre = c.requires in
    let list = c.read_sources-src.ensures in
    let made = c.locate.ensures in
    (pre.0.numbers, record { each = omega (arith, list.room, few pre.1); sourced = sourced_in _ _ _ _ list pre.2 }, to_judge made pre.0.work)

pub answer-r-requires : goal.answer-r-requires
answer-r-requires c =
    let pre = c.requires in
    let made = c.locate.ensures in
    judge_kept c.judge_located-c.ensures.2 (to_judge made pre.0.work)

pub clear-requires : goal.clear-requires
clear-requires c =
    let pre = c.requires in
    let l = c.locate.ensures.frame.len in
    let m = c.judge_located-c.ensures.2.len in
    (omega arith, omega (arith, pre.0.work, l, m))

pub returns : goal.returns
returns c =
    let pre = c.requires in
    let list = c.read_sources-src.ensures in
    rows_reported _ _ _ _ _ list pre.0.work c.locate.ensures.frame c.judge_located-c.ensures c.answer-r.ensures c.clear.ensures
