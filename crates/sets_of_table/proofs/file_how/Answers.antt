use Rattle.sets_of_table.specs.Filed.{marks_how_lem}
use Rattle.sets_of_table.proofs.file_how.Goals as goal

pub returns : goal.returns
returns c =
    marks_how_lem _ _ c.requires.2 c.put_bit.ensures c.put_bit-2.ensures
