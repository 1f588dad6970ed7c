use mathlib.Core.Path.{refl}
use Rattle.std.proofs.lemmas.Result.{err_from_is_err_and}
use Rattle.door_admit.proofs.Laws.{fault_counts, hosts_is, shape_refused, shape_passed}
use Rattle.door_admit.proofs.header.header_fault.Goals as goal

pub returns-in_err-shape_fault : goal.returns-in_err-shape_fault
returns-in_err-shape_fault c =
    let p = err_from_is_err_and c.from_residual.result c.from_residual.ensures.1 in
    rw (p.1, p.2) (shape_refused _ _ c.in_err-shape_fault.ensures (fault_counts _))

pub returns : goal.returns
returns c =
    rw (
      shape_passed _ _ c.in_ok-shape_fault.ensures refl,
      hosts_is _,
      ← c.read_places-p.ensures,
      ← c.dependency_bytes-d.ensures,
      ← c.agents_at.ensures,
      ← c.rows_at.ensures,
    )
    c.hosts_fault.ensures
