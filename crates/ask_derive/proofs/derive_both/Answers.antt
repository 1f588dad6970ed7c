use mathlib.Core.Path.{refl}
use Rattle.std.proofs.lemmas.Result.{err_from_is_err_and}
use Rattle.ask_derive.specs.Whole.{told_refused, told_run}
use Rattle.ask_derive.proofs.derive_both.Goals as goal

pub returns-in_err-t : goal.returns-in_err-t
returns-in_err-t c =
    let p = err_from_is_err_and c.from_residual.result c.from_residual.ensures.1 in
    rw (p.1, p.2) (told_refused _ _ _ _ _ _ _ refl c.in_err-t.ensures)

pub derive_rows-requires : goal.derive_rows-requires
derive_rows-requires c =
    let opened = c.in_ok-t.ensures.2 in
    (opened.room, opened.space, opened.run)

pub returns : goal.returns
returns c =
    let entered = c.in_ok-t.ensures in
    told_run _ _ _ _ _ _ _ refl entered.1 _ entered.2 _ _ _ c.derive_rows.ensures
