use mathlib.Core.Path.{refl}
use Rattle.std.proofs.lemmas.Result.{err_from_is_err_and}
use Rattle.ask_fill.specs.Whole.{filled_refused, filled_outcome}
use Rattle.ask_fill.proofs.fill_by.Goals as goal

pub returns-in_err-t : goal.returns-in_err-t
returns-in_err-t g c =
    let p = err_from_is_err_and c.from_residual.result c.from_residual.ensures.1 in
    rw (p.1, p.2) (filled_refused _ _ _ _ _ _ refl c.in_err-t.ensures, c.first_byte.ensures, c.first_byte-2.ensures)

pub fill_run-requires : goal.fill_run-requires
fill_run-requires g c =
    let opened = c.in_ok-t.ensures.2 in
    (record { work = opened.room; numbers = opened.space }, opened.run)

pub returns : goal.returns
returns g c =
    let entered = c.in_ok-t.ensures in
    (filled_outcome _ _ _ _ _ _ refl entered.1 _ entered.2 _ _ _ c.fill_run.ensures, c.first_byte.ensures, c.first_byte-2.ensures)
