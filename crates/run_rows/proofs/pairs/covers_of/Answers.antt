use mathlib.Core.Path.{sym, ◌∙◌}
use Rattle.finite.specs.Logic.{◌and◌}
use Rattle.model.specs.Availability.{covers_of}
use Rattle.run_rows.proofs.pairs.covers_of.Goals as goal

pub returns-then-is_plain : goal.returns-then-is_plain
unfolding covers_of ◌and◌
returns-then-is_plain c = simp (sym c.is_plain.ensures ∙ c.if-is_plain.true) cc

pub returns : goal.returns
unfolding covers_of ◌and◌
returns c = simp (sym c.is_plain.ensures ∙ c.if-is_plain.false) cc
