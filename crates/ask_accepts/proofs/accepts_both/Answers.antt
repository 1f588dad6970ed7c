use mathlib.Core.Path.{refl}
use Rattle.std.proofs.lemmas.Result.{err_from_is_err_and}
use Rattle.ask_accepts.specs.Judging.{both_refused, both_judged}
use Rattle.ask_accepts.proofs.accepts_both.Goals as goal

pub returns-in_err-t : goal.returns-in_err-t
returns-in_err-t c =
    let p = err_from_is_err_and c.from_residual.result c.from_residual.ensures.1 in
    rw (p.1, p.2) (both_refused _ _ _ refl _ _ _ _ c.in_err-t.ensures)

pub judge_rows-requires : goal.judge_rows-requires
judge_rows-requires c = c.in_ok-t.ensures.2.run

pub returns : goal.returns
returns c =
    let entered = c.in_ok-t.ensures in
    both_judged _ _ _ refl _ _ _ _ entered.1 _ entered.2 _ c.judge_rows.ensures
