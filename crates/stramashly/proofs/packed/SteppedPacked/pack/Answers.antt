use mathlib.Core.Path.{sym, ap, ◌∙◌}
use Rattle.stramashly.specs.Packed.{step_number}
use Rattle.stramashly.proofs.packed.SteppedPacked.pack.Goals as goal

pub returns-in-Row : goal.returns-in-Row
unfolding step_number
returns-in-Row c = c.pack.ensures ∙ sym (ap step_number c.in-Row.is)

pub returns-in-End : goal.returns-in-End
unfolding step_number
returns-in-End c = c.pack-in-End.ensures ∙ sym (ap step_number c.in-End.is)
