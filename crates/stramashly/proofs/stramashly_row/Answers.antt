use Rattle.stramashly.specs.Packed.{refusal_number}
use Rattle.stramashly.proofs.Laws.{row_short, row_stepped}
use Rattle.stramashly.proofs.stramashly_row.Goals as goal

pub returns-then-row-lt-ROW_BYTES : goal.returns-then-row-lt-ROW_BYTES
unfolding refusal_number
returns-then-row-lt-ROW_BYTES c = row_short _ _ _ _ c.if-row-lt-ROW_BYTES.true c.pack.ensures

pub returns : goal.returns
returns c =
    row_stepped _ _ _ c.if-row-lt-ROW_BYTES.false _ c.step_from-step.ensures _ _ c.pack-2.ensures
    c.put_row.ensures
