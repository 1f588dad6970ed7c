use mathlib.Core.Path.{ap, ◌∙◌}
use Rattle.model.specs.Reason.{accept_answer}
use Rattle.door_pieces.specs.Answers.{none_judge}
use Rattle.ask_accepts.proofs.accepts.Goals as goal

pub returns : goal.returns
returns c = c.accepts_both.ensures ∙ ap accept_answer (none_judge _ _ _ _ _)
