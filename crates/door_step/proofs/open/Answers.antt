use Rattle.std.proofs.Math.Path.{refl}
use Rattle.std.proofs.Common.{◌∙◌}
use Rattle.model_laws.specs.AdmissionLaws.{answer_same}
use Rattle.door_step.proofs.open.Goals as goal

pub returns : goal.returns
returns c =
    let said = answer_same _ _ (c.of-a.ensures ∙ c.opening.ensures) in
    (said, rw (← said) c.opened_part-part.ensures, refl)
