use mathlib.Core.Path.{refl, sym, ◌∙◌}
use Rattle.model.specs.Header.{size_of}
use Rattle.door_admit.proofs.header.size_of.Goals as goal

pub returns-then-has_hosts : goal.returns-then-has_hosts
unfolding size_of
returns-then-has_hosts c = rw (
  sym c.has_hosts.ensures ∙ c.if-has_hosts.true,
  ← c.rows_end-end.ensures.0,
  ← c.pair_at.ensures,
) refl

pub returns : goal.returns
unfolding size_of
returns c = rw (sym c.has_hosts.ensures ∙ c.if-has_hosts.false) c.rows_end-end.ensures.0
