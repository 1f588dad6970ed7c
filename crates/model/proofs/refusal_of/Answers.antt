use Rattle.std.proofs.Common.{sym, ap}
use Rattle.model.specs.Refusal.{refusal_of}
use Rattle.model.proofs.refusal_of.Goals as goal

pub returns-in-Refused : goal.returns-in-Refused
unfolding refusal_of
returns-in-Refused c = sym (ap refusal_of c.in-Refused.is)

pub returns-in-Admitted : goal.returns-in-Admitted
unfolding refusal_of
returns-in-Admitted c = sym (ap refusal_of c.in-Admitted.is)
