use mathlib.Core.Path.{ap, ◌∙◌}
use Rattle.stramashly.specs.Packed.{pack_derive}
use Rattle.stramashly.proofs.stramashly_derive2.Goals as goal

pub returns : goal.returns
unfolding pack_derive
returns c =
    let told = c.derive_both.ensures in
    (c.pack.ensures ∙ ap pack_derive told.0, told.1, told.2)
