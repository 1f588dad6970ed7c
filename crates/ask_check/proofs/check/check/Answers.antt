use Rattle.model.specs.Check.{check_answer, cycle_after, work_after}
use Rattle.door_pieces.specs.Entry.{left_same}
use Rattle.door_pieces.specs.Answers.{none_check}
use mathlib.Core.Path.{sym}
use Rattle.ask_check.proofs.check.check.Goals as goal

pub returns : goal.returns
returns c = left_same check_answer work_after cycle_after (sym (none_check _ _ _ _)) c.check_both.ensures
