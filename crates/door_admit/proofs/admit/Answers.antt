use mathlib.Core.Path.{refl, sym, ap}
use Rattle.std.proofs.lemmas.Result.{err_from_is_err_and}
use Rattle.model.specs.Refusal.{admission_answer}
use Rattle.door_admit.proofs.Laws.{fault_counts, header_refused, header_passed}
use Rattle.door_admit.proofs.admit.Goals as goal

pub returns-in_err-header_fault : goal.returns-in_err-header_fault
unfolding admission_answer
returns-in_err-header_fault c =
    let p = err_from_is_err_and c.from_residual.result c.from_residual.ensures.1 in
    rw (p.1, p.2) (sym (ap admission_answer (header_refused _ _ _ c.in_err-header_fault.ensures (fault_counts _))))

pub returns : goal.returns
returns c =
    rw (
      header_passed _ _ _ c.in_ok-header_fault.ensures refl,
      ← c.has_hosts.ensures,
      ← c.agents_at.ensures,
      ← c.rows_at.ensures,
      ← c.read_places.ensures,
      ← c.is_counted.ensures,
      ← c.row_bytes.ensures,
    )
    c.admit_rows.ensures
