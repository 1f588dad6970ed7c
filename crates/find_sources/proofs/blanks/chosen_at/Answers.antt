use Rattle.finite.specs.Logic.{◌and◌}
use Rattle.model.specs.Table.{decode}
use Rattle.find_sources.specs.Choice.{blank_told, own_told}
use Rattle.find_sources.proofs.blanks.chosen_at.Goals as goal

pub returns-then-is_plain_read-is_blank : goal.returns-then-is_plain_read-is_blank
unfolding decode ◌and◌
returns-then-is_plain_read-is_blank c =
    blank_told _ _ _ _ _ _ _ c.row-r.ensures
    c.from-own.ensures c.is_plain_read.ensures
    c.is_blank.ensures c.if-is_plain_read-is_blank.true _ c.choice_of.ensures

pub returns : goal.returns
unfolding decode ◌and◌
returns c = own_told _ _ _ _ _ _ _ c.row-r.ensures c.from-own.ensures
    c.is_plain_read.ensures c.is_blank.ensures c.if-is_plain_read-is_blank.false
