use Rattle.model.specs.Reason.{derive_answer, chain_after, work_after}
use Rattle.door_pieces.specs.Entry.{left_same}
use Rattle.door_pieces.specs.Answers.{none_derive}
use mathlib.Core.Path.{sym}
use Rattle.ask_derive.proofs.derive.Goals as goal

pub returns : goal.returns
returns c = left_same derive_answer work_after chain_after (sym (none_derive _ _ _ _ _)) c.derive_both.ensures
