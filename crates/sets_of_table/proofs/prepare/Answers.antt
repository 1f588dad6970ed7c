use Rattle.sets_of_table.specs.Prepared.{prepared}
use Rattle.model.specs.Table.{decode}
use borrow.Author.Rules.{rules}
use Rattle.sets_of_table.proofs.prepare.Goals as goal

pub file-requires : goal.file-requires
unfolding decode
file-requires c =
    let pre = c.requires in
    (search rules, pre.1.few, record { each = pre.1.coded })

pub returns : goal.returns
unfolding decode
returns c =
    prepared _ _ _ _ c.requires.1 c.file.ensures c.make.ensures c.sort.ensures (rw c.places.ensures at c.fill.ensures) c.group.ensures c.group-2.ensures
