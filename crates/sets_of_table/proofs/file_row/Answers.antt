use Rattle.sets_of_table.specs.Filed.{marks_all}
use Rattle.sets_of_table.proofs.file_row.Goals as goal

pub returns : goal.returns
returns c =
    marks_all _ _ c.file_who.ensures c.file_how.ensures c.file_what.ensures
