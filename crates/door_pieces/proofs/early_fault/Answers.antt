use mathlib.Core.Path.{refl, sym}
use native.Mathlib.Omega.{arith}
use Rattle.std.proofs.lemmas.Result.{err_from_is_err_and}
use Rattle.door_admit.proofs.Laws.{fault_counts}
use Rattle.door_pieces.specs.PiecesLaws.{both_fit, early_first, early_second}
use Rattle.door_pieces.proofs.early_fault.Goals as goal

pub returns-in_err-pieces_fault : goal.returns-in_err-pieces_fault
returns-in_err-pieces_fault c =
    let p = err_from_is_err_and c.from_residual.result c.from_residual.ensures.1 in
    rw (p.1, p.2) (early_first _ _ _ c.in_err-pieces_fault.ensures (fault_counts _))

pub overflow_cast-n : goal.overflow_cast-n
overflow_cast-n c =
    let k = both_fit _ _ (sym c.in_ok-pieces_fault.ensures) in
    omega (arith, c.rows_both-n.ensures)

pub returns : goal.returns
returns c =
    early_second _ _ _ _ c.in_ok-pieces_fault.ensures refl
    (rw (
      ← c.read_places-p.ensures,
      ← c.dependency_bytes-d.ensures,
      ← c.rows_both-n.ensures,
      ← c.agents_at.ensures,
    ) c.hosts_fault.ensures)
