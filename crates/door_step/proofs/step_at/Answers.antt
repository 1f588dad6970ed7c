use mathlib.Core.Path.{sym, refl}
use Rattle.door_step.specs.StepLaws.{step_end, step_row}
use Rattle.door_step.proofs.step_at.Goals as goal

pub returns-then-n-at : goal.returns-then-n-at
returns-then-n-at c = sym (step_end _ _ _ c.rows_at-n.ensures c.if-n-at.true)

pub returns : goal.returns
returns c =
    let e = step_row _ _ _ c.rows_at-n.ensures c.if-n-at.false in
    rw (e, ← c.row_bytes-rows.ensures, ← c.read_row.ensures, ← c.read_source.ensures) refl
