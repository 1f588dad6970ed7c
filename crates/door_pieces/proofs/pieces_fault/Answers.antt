use mathlib.Core.Path.{refl, sym}
use borrow.Author.Tests.{eq-eqb, ne_eqb, le-leb, lt-leb}
use Rattle.std.proofs.lemmas.Result.{err_from_is_err_and}
use Rattle.door_admit.proofs.Laws.{fault_counts}
use Rattle.door_pieces.specs.Pieces.{pieces_fault}
use Rattle.door_pieces.specs.PiecesLaws.{pieces_first}
use Rattle.door_pieces.proofs.pieces_fault.Goals as goal

pub returns-in_err-shape_fault : goal.returns-in_err-shape_fault
returns-in_err-shape_fault c =
    let p = err_from_is_err_and c.from_residual.result c.from_residual.ensures.1 in
    rw (p.1, p.2) (pieces_first _ _ _ c.in_err-shape_fault.ensures (fault_counts _))

pub returns-then-second-ne0 : goal.returns-then-second-ne0
unfolding pieces_fault
returns-then-second-ne0 c = rw (sym c.in_ok-shape_fault.ensures, ne_eqb _ 0 c.if-second-ne0.true) refl

pub returns-then-rows_both-gt-ROWS : goal.returns-then-rows_both-gt-ROWS
unfolding pieces_fault
returns-then-rows_both-gt-ROWS c = rw (
  sym c.in_ok-shape_fault.ensures,
  eq-eqb _ 0 c.if-second-ne0.false,
  ← c.rows_both.ensures,
  lt-leb _ _ c.if-rows_both-gt-ROWS.true,
) refl

pub returns : goal.returns
unfolding pieces_fault
returns c = rw (
  sym c.in_ok-shape_fault.ensures,
  eq-eqb _ 0 c.if-second-ne0.false,
  ← c.rows_both.ensures,
  le-leb _ _ c.if-rows_both-gt-ROWS.false,
) refl
