use Rattle.model.specs.Table.{decode}
use Rattle.find_sources.specs.Choice.{unwritten, found}
use Rattle.find_sources.proofs.blanks.choice_of.Goals as goal

pub returns-then-not-is_written : goal.returns-then-not-is_written
returns-then-not-is_written c = unwritten _ _ _ c.is_written.ensures c.if-not-is_written.true

pub returns : goal.returns
unfolding decode
returns c = found _ _ _ c.is_written.ensures c.if-not-is_written.false _ c.first_candidate.ensures.0
