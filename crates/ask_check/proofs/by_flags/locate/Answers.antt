use Rattle.ask_check.specs.Answers.{placed_made}
use Rattle.ask_check.specs.Engine.{few_of}
use Rattle.ask_check.proofs.by_flags.locate.Goals as goal

pub happens_before-requires : goal.happens_before-requires
happens_before-requires c = (few_of c.requires.0, c.requires.1)

pub returns : goal.returns
returns c =
    placed_made c.happens_before.ensures c.fill_location.ensures
