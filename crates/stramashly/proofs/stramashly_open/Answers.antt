use mathlib.Core.Path.{ap, ◌∙◌}
use Rattle.stramashly.specs.Packed.{pack_result, open_number, pack_open}
use Rattle.stramashly.proofs.stramashly_open.Goals as goal

pub returns : goal.returns
unfolding pack_open
returns c = c.pack.ensures ∙ ap (pack_result open_number) c.opening.ensures
