use mathlib.Core.Path.{ap, ◌∙◌}
use Rattle.stramashly.specs.Packed.{pack_place}
use Rattle.stramashly.proofs.stramashly_row2.Goals as goal

pub returns : goal.returns
returns c = c.pack.ensures ∙ ap pack_place c.row_place.ensures
