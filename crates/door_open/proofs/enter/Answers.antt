use Rattle.door_open.specs.Opened.{enters_refused, enters_admitted}
use Rattle.door_open.proofs.enter.Goals as goal

pub returns-in_default : goal.returns-in_default
returns-in_default c = enters_refused _ _ c.args.chains _ _ _ _ c.enter_into-a.ensures.0 c.in_default.is c.refusal_of.ensures

pub returns : goal.returns
returns c = enters_admitted _ _ _ _ _ _ _ c.enter_into-a.ensures.0 c.in-Admitted.is c.enter_into-a.ensures.1
