use Rattle.sets_of_table.specs.Filed.{marks_who_lem}
use Rattle.sets_of_table.proofs.file_who.Goals as goal

pub returns : goal.returns
returns c =
    marks_who_lem _ _ c.requires.2 c.put_bit.ensures c.put_bit-2.ensures c.put_bit-3.ensures
