use Rattle.door_write.specs.Encode.{entry_of}
use mathlib.Core.Path.{refl}
use Rattle.door_write.proofs.read.read_entry.Goals as goal

pub returns : goal.returns
unfolding entry_of
returns c = rw (← c.read_row.ensures, ← c.read_source.ensures) refl
