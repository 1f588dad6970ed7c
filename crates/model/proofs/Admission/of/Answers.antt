use Rattle.std.proofs.Common.{sym}
use Rattle.model.specs.Refusal.{admission_answer}
use Rattle.model.proofs.Admission.of.Goals as goal

pub returns-in-Ok : goal.returns-in-Ok
unfolding admission_answer
returns-in-Ok c = sym c.in-Ok.is

pub returns-in-Err : goal.returns-in-Err
unfolding admission_answer
returns-in-Err c = sym c.in-Err.is
