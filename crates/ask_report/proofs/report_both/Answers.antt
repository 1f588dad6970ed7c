use mathlib.Core.Path.{refl}
use Rattle.std.proofs.lemmas.Result.{err_from_is_err_and}
use Rattle.ask_check.specs.Whole.{sourced}
use Rattle.ask_report.specs.Whole.{reported_refused, reported_run}
use Rattle.ask_report.proofs.report_both.Goals as goal

pub returns-in_err-t : goal.returns-in_err-t
returns-in_err-t c =
    let p = err_from_is_err_and c.from_residual.result c.from_residual.ensures.1 in
    rw (p.1, p.2) (reported_refused _ _ _ _ _ _ refl c.in_err-t.ensures)

pub report_run-requires : goal.report_run-requires
report_run-requires c =
    let entered = c.in_ok-t.ensures in
    let opened = entered.2 in (
      record { work = opened.room; numbers = opened.space },
      opened.run,
      sourced refl entered.1 opened,
    )

pub returns : goal.returns
returns c =
    let entered = c.in_ok-t.ensures in
    reported_run _ _ _ _ _ _ refl entered.1 _ entered.2 _ _ _ c.report_run.ensures
