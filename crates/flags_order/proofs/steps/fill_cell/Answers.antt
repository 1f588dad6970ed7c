use native.Mathlib.Omega.{arith}
use Rattle.flags_order.specs.Steps.{cell_made}
use Rattle.flags_order.proofs.steps.fill_cell.Goals as goal

pub returns : goal.returns
returns c =
    let put = c.put_if in
    cell_made _ _ _ _ _ _ _ _ _ _ (omega arith) (omega arith) (omega arith) (omega arith) c.sync_bit.ensures
    c.step_of-b.ensures (omega arith) put.ensures
