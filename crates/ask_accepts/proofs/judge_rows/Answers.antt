use Rattle.finite.specs.Logic.{◌and◌}
use Rattle.door_pieces.specs.Entry.{few}
use Rattle.ask_accepts.specs.Judging.{first_low, second_low, judged_absent, judged_told}
use mathlib.Core.Path.{ap}
use mathlib.Core.Bool.{not}
use Rattle.ask_accepts.proofs.judge_rows.Goals as goal

pub returns-then-not-is_there-e : goal.returns-then-not-is_there-e
unfolding ◌and◌
returns-then-not-is_there-e c =
    judged_absent _ _ _ _ _ _ _ _ _ _ c.is_there.ensures c.is_there-2.ensures (ap not c.if-not-is_there-e.true)

pub is_accepted-requires : goal.is_accepted-requires
unfolding ◌and◌
is_accepted-requires c = (
  few c.requires,
  first_low _ _ _ _ _ _ _ _ c.is_there.ensures (ap not c.if-not-is_there-e.false),
  second_low _ _ _ _ c.args.e.first _ c.is_there.result _ c.is_there-2.ensures (ap not c.if-not-is_there-e.false),
)

pub returns : goal.returns
unfolding ◌and◌
returns c =
    judged_told _ _ _ _ _ _ _ _ _ _ c.is_there.ensures c.is_there-2.ensures (ap not c.if-not-is_there-e.false) _ c.is_accepted.ensures
