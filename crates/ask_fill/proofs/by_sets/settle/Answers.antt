use Rattle.ask_fill.specs.Parts.{raced, unraced}
use Rattle.ask_fill.proofs.by_sets.settle.Goals as goal

pub returns-in-Some : goal.returns-in-Some
returns-in-Some c = raced _ _ _ c.first_race.ensures _ _ c.in-Some.is

pub returns : goal.returns
returns c =
    unraced _ _ _ c.first_race.ensures _ _ _ _ _ c.in_default.is c.choose_sources.ensures
