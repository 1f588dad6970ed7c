use Rattle.door_admit.specs.Rows.{row_fault_in}
use Rattle.door_admit.proofs.row_faults.row_fault_at.Goals as goal

pub returns : goal.returns
unfolding row_fault_in
returns c = cc
