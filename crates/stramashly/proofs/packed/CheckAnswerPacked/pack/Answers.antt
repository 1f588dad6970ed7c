use mathlib.Core.Path.{sym, ap, ◌∙◌}
use Rattle.stramashly.specs.Packed.{check_number}
use Rattle.stramashly.proofs.packed.CheckAnswerPacked.pack.Goals as goal

pub returns-in-Cycle : goal.returns-in-Cycle
unfolding check_number
returns-in-Cycle c = c.pack.ensures ∙ sym (ap check_number c.in-Cycle.is)

pub returns-in-Overwritten : goal.returns-in-Overwritten
unfolding check_number
returns-in-Overwritten c = c.pack-in-Overwritten.ensures ∙ sym (ap check_number c.in-Overwritten.is)

pub returns-in-Race : goal.returns-in-Race
unfolding check_number
returns-in-Race c = c.pack-in-Race.ensures ∙ sym (ap check_number c.in-Race.is)

pub returns-in-RaceFree : goal.returns-in-RaceFree
unfolding check_number
returns-in-RaceFree c = c.pack-in-RaceFree.ensures ∙ sym (ap check_number c.in-RaceFree.is)
