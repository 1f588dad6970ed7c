use Rattle.run_rows.specs.Cases.{holds_at}
use Rattle.run_rows.proofs.cases.holds_at.Goals as goal

pub returns : goal.returns
unfolding holds_at
returns c = cc
