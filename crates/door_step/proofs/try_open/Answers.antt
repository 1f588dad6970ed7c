use Rattle.std.proofs.Common.{sym, ◌∙◌}
use Rattle.model_laws.specs.AdmissionLaws.{refusal_is}
use Rattle.door_step.specs.StepLaws.{opened_counts}
use Rattle.door_step.proofs.try_open.Goals as goal

pub returns-in_default : goal.returns-in_default
returns-in_default c = sym c.open-opened.ensures.0 ∙ refusal_is c.refusal_of.ensures c.in_default.is

pub returns : goal.returns
returns c = (opened_counts _ (sym c.open-opened.ensures.0 ∙ c.in-Admitted.is), c.open-opened.ensures.1, c.open-opened.ensures.2)
