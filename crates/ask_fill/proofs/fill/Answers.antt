use Rattle.model.specs.Fill.{fill_answer, sources_after, work_after}
use Rattle.door_pieces.specs.Entry.{left_same}
use Rattle.door_pieces.specs.Answers.{none_fill}
use mathlib.Core.Path.{sym}
use Rattle.ask_fill.proofs.fill.Goals as goal

pub returns : goal.returns
returns c =
    let filled = c.fill_both.ensures in
    (left_same fill_answer work_after sources_after (sym (none_fill _ _ _ _)) filled.0, filled.1)
