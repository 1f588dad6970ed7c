use Rattle.sets_of_table.specs.Placed.{small_numbered, grouped}
use borrow.Author.Rules.{rules}
use Rattle.sets_of_table.proofs.number.group.Goals as goal

pub place-requires : goal.place-requires
place-requires c = (search rules, small_numbered (search rules) c.number.ensures)

pub spread-requires : goal.spread-requires
spread-requires c =
    (search rules, search rules, small_numbered (search rules) c.number.ensures)

pub returns : goal.returns
returns c =
    rw c.get-x.ensures at (grouped c.number.ensures c.place.ensures c.spread.ensures)
