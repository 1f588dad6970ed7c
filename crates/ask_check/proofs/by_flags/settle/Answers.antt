use Rattle.ask_check.specs.Answers.{settle_over, settle_on, race_mapped}
use Rattle.ask_check.proofs.by_flags.settle.Goals as goal

pub returns-in-Some : goal.returns-in-Some
returns-in-Some c = settle_over _ _ _ _ c.first_overwrite.ensures c.in-Some.is

pub returns : goal.returns
returns c = settle_on _ _ _ _ _ c.first_overwrite.ensures c.in_default.is
    c.first_race.ensures (race_mapped _ _ c.map_or.ensures)
