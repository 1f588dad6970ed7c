use mathlib.Core.Path.{sym, ap, ◌∙◌}
use Rattle.stramashly.specs.Packed.{accept_number}
use Rattle.stramashly.proofs.packed.AcceptedPacked.pack.Goals as goal

pub returns-then-self : goal.returns-then-self
unfolding accept_number
returns-then-self c = c.pack.ensures ∙ sym (ap accept_number c.if-self.true)

pub returns-else-self : goal.returns-else-self
unfolding accept_number
returns-else-self c = c.pack-else-self.ensures ∙ sym (ap accept_number c.if-self.false)
