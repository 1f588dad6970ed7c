use mathlib.Core.Path.{sym, ◌∙◌}
use Rattle.finite.specs.Logic.{◌or◌}
use Rattle.run_rows.specs.Forms.{sequence_off, sequence_on}
use Rattle.flags_sync.proofs.heads.sequence_at.Goals as goal

pub returns-then-not-follows_at : goal.returns-then-not-follows_at
returns-then-not-follows_at c = sequence_off _ _ _ _ _ _ (sym c.follows_at.ensures ∙ c.if-not-follows_at.true)

pub returns : goal.returns
unfolding ◌or◌
returns c = sequence_on _ _ _ _ _ _ _ (sym c.follows_at.ensures ∙ c.if-not-follows_at.false) c.is_ended.ensures
