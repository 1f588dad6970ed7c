use mathlib.Core.Path.{ap, ◌∙◌}
use Rattle.stramashly.specs.Packed.{pack_result, read_number, pack_read}
use Rattle.stramashly.proofs.stramashly_read.Goals as goal

pub returns : goal.returns
unfolding pack_read
returns c =
    let told = c.read_parts.ensures in
    (c.pack.ensures ∙ ap (pack_result read_number) told.0, told.1, told.2, told.3)
