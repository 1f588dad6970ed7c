use mathlib.Core.Path.{sym, ap, ◌∙◌}
use Rattle.stramashly.specs.Packed.{report_number}
use Rattle.stramashly.proofs.packed.ReportAnswerPacked.pack.Goals as goal

pub returns-in-Cycle : goal.returns-in-Cycle
unfolding report_number
returns-in-Cycle c = c.pack.ensures ∙ sym (ap report_number c.in-Cycle.is)

pub returns-in-Overwritten : goal.returns-in-Overwritten
unfolding report_number
returns-in-Overwritten c = c.pack-in-Overwritten.ensures ∙ sym (ap report_number c.in-Overwritten.is)

pub returns-in-NoPairs : goal.returns-in-NoPairs
unfolding report_number
returns-in-NoPairs c = c.pack-in-NoPairs.ensures ∙ sym (ap report_number c.in-NoPairs.is)

pub returns-in-Report : goal.returns-in-Report
unfolding report_number
returns-in-Report c = c.pack-in-Report.ensures ∙ sym (ap report_number c.in-Report.is)
