use mathlib.Core.Path.{refl}
use Rattle.std.proofs.lemmas.Result.{err_from_is_err_and}
use Rattle.ask_check.specs.Whole.{said_refused, said_verdict, sourced}
use Rattle.ask_check.proofs.check.check_by.Goals as goal

pub returns-in_err-t : goal.returns-in_err-t
returns-in_err-t g c =
    let p = err_from_is_err_and c.from_residual.result c.from_residual.ensures.1 in
    rw (p.1, p.2) (said_refused _ _ _ _ _ _ refl c.in_err-t.ensures)

pub judge_run-requires : goal.judge_run-requires
judge_run-requires g c =
    let entered = c.in_ok-t.ensures in
    let opened = entered.2 in (
      record { work = opened.room; numbers = opened.space },
      opened.run,
      sourced refl entered.1 opened,
    )

pub returns : goal.returns
returns g c =
    let entered = c.in_ok-t.ensures in
    said_verdict _ _ _ _ _ _ refl entered.1 _ entered.2 _ _ _ c.judge_run.ensures
