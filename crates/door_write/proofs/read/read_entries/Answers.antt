use Rattle.door_write.specs.Encode.{entries_of, entries_in}
use mathlib.Core.Path.{ap, ◌∙◌}
use Rattle.door_write.proofs.read.read_entries.Goals as goal

pub returns : goal.returns
unfolding entries_of
returns c = c.entries_in.ensures ∙ ap entries_in c.row_bytes.ensures
