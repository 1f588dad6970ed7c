use mathlib.Core.Path.{refl}
use Rattle.model.specs.Report.{report_answer, told_answer}
use Rattle.ask_report.specs.Whole.{answered, answered_counts}
use Rattle.ask_report.proofs.answer.Goals as goal

pub returns-in-Cycle : goal.returns-in-Cycle
unfolding report_answer told_answer
returns-in-Cycle c = answered _ _ _ c.in-Cycle.is refl

pub returns-in-Overwritten : goal.returns-in-Overwritten
unfolding report_answer told_answer
returns-in-Overwritten c = answered _ _ _ c.in-Overwritten.is refl

pub returns-in-Race : goal.returns-in-Race
returns-in-Race c = answered_counts _ _ c.in-Race.is c.report_of.ensures
