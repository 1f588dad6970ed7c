use Rattle.run_rows.specs.Forms.{trails_is}
use Rattle.run_rows.proofs.carriers.trails_at.Goals as goal

pub returns : goal.returns
returns c = rw (trails_is _ _ _ _ _ _) cc
