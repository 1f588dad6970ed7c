use mathlib.Core.Path.{sym, ap, ◌∙◌}
use Rattle.stramashly.specs.Packed.{pack_place}
use Rattle.stramashly.proofs.packed.OptionRowPlacePacked.pack.Goals as goal

pub returns-in-Some : goal.returns-in-Some
unfolding pack_place
returns-in-Some c = c.pack.ensures ∙ sym (ap pack_place c.in-Some.is)

pub returns-in-None : goal.returns-in-None
unfolding pack_place
returns-in-None c = c.pack-in-None.ensures ∙ sym (ap pack_place c.in-None.is)
