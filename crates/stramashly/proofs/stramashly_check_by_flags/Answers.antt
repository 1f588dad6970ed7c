use mathlib.Core.Path.{ap, ◌∙◌}
use Rattle.stramashly.specs.Packed.{pack_check}
use Rattle.stramashly.proofs.stramashly_check_by_flags.Goals as goal

pub returns : goal.returns
unfolding pack_check
returns c =
    let told = c.check_by_flags.ensures in
    (c.pack.ensures ∙ ap pack_check told.0, told.1, told.2)
