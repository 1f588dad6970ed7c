use mathlib.Core.Path.{sym, ap, ◌∙◌}
use Rattle.stramashly.specs.Packed.{place_number}
use Rattle.stramashly.proofs.packed.RowPlacePacked.pack.Goals as goal

pub returns-in-First : goal.returns-in-First
unfolding place_number
returns-in-First c = c.pack.ensures ∙ sym (ap place_number c.in-First.is)

pub returns-in-Second : goal.returns-in-Second
unfolding place_number
returns-in-Second c = c.pack-in-Second.ensures ∙ sym (ap place_number c.in-Second.is)
