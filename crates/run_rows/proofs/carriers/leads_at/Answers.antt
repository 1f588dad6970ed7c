use Rattle.run_rows.specs.Forms.{leads_is}
use Rattle.run_rows.proofs.carriers.leads_at.Goals as goal

pub returns : goal.returns
returns c = rw (leads_is _ _ _ _ _ _) cc
