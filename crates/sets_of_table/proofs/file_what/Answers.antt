use Rattle.sets_of_table.specs.Filed.{marks_what_lem}
use Rattle.sets_of_table.proofs.file_what.Goals as goal

pub returns : goal.returns
returns c =
    marks_what_lem _ _ c.requires.2 c.put_bit.ensures c.put_bit-2.ensures
