use mathlib.Core.Path.{refl}
use Rattle.finite.specs.Logic.{◌and◌}
use Rattle.run_rows.specs.Forms.{end_rows}
use Rattle.run_rows.proofs.sequences.is_end.Goals as goal

pub returns : goal.returns
unfolding end_rows ◌and◌
returns c = rw (c.is_continued.ensures, c.is_later.ensures, c.is_later_writer.ensures) refl
