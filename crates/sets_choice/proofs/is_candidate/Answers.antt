use Rattle.sets_grids.specs.Filling.{member_in}
use Rattle.sets_choice.specs.Choosing.{candidate_missed, candidate_between}
use Rattle.sets_choice.proofs.is_candidate.Goals as goal

pub missed-requires : goal.missed-requires
missed-requires c = let p = c.requires.1 in (record { first = (member_in _ p.earlier c.requires.0).0; second = p.reader.low }, p.judged)

pub returns-then-missed-gt0 : goal.returns-then-missed-gt0
returns-then-missed-gt0 c = candidate_missed c.requires.1 _ _ c.missed.ensures c.if-missed-gt0.true

pub some_between-requires : goal.some_between-requires
some_between-requires c = let p = c.requires.1 in ((member_in _ p.earlier c.requires.0).0, p)

pub returns : goal.returns
returns c = candidate_between c.requires.1 _ _ _ c.requires.0 c.missed.ensures c.if-missed-gt0.false c.some_between.ensures
