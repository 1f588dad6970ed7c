use Rattle.std.proofs.Common.{sym, ap}
use Rattle.model.specs.declared.Admission.{Admission}
use Rattle.door_step.specs.Steps.{opened_part}
use Rattle.door_step.proofs.opened_part.Goals as goal

pub returns-in_default : goal.returns-in_default
unfolding opened_part
returns-in_default c = sym (ap (λ (a : Admission). opened_part a c.args.table.now) c.in_default.is)

pub returns : goal.returns
unfolding opened_part
returns c = sym (ap (λ (a : Admission). opened_part a c.args.table.now) c.in-Admitted.is)
