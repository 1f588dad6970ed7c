use mathlib.Core.Path.{ap}
use Rattle.std.proofs.lemmas.Result.{err_from_is_err_and}
use Rattle.door_step.specs.declared.RowReader.{RowReader}
use Rattle.door_step.specs.StepLaws.{stepped_refused, stepped_row, stepped_end}
use Rattle.door_step.proofs.step_from.Goals as goal

pub returns-in_err-reader : goal.returns-in_err-reader
returns-in_err-reader c =
    let p = err_from_is_err_and c.from_residual.result c.from_residual.ensures.1 in
    rw (p.1, p.2) (stepped_refused _ _ c.in_err-reader.ensures)

pub returns-in-Some : goal.returns-in-Some
returns-in-Some c =
    let opened = c.in_ok-reader.ensures in
    let gives = c.next-step.ensures.steps in
    stepped_row _ _ opened.0 opened.1 gives.0 (ap (λ (r : RowReader). r.at) gives.1) c.in-Some.is

pub returns-in-None : goal.returns-in-None
returns-in-None c =
    let opened = c.in_ok-reader.ensures in
    let gives = c.next-step.ensures.steps in
    stepped_end _ _ opened.0 opened.1 gives.0 (ap (λ (r : RowReader). r.at) gives.1) c.in-None.is
