use Rattle.flags_location.specs.Domains.{visible_of}
use mathlib.Core.Path.{sym, ◌∙◌}
use Rattle.flags_location.proofs.domains.visible_kind.Goals as goal

pub returns-then-is_host : goal.returns-then-is_host
unfolding visible_of
returns-then-is_host c = simp (sym (rw c.places.ensures at c.is_host.ensures) ∙ c.if-is_host.true)

pub returns-else-is_host : goal.returns-else-is_host
unfolding visible_of
returns-else-is_host c = simp (sym (rw c.places.ensures at c.is_host.ensures) ∙ c.if-is_host.false)
