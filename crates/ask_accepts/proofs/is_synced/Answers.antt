-- `is_synced` meets its contract: false where it isn't asked. Assumes nothing.
use mathlib.Core.Path.{sym, ◌∙◌}
use Rattle.finite.specs.Logic.{and_false_left, not_out, and_on}
use mathlib.Core.Path.{ap}
use borrow.Author.Tests.{ne_eqb}
use borrow.Author.Tests.{eq-eqb}
use mathlib.Core.Bool.{not}
use Rattle.ask_accepts.proofs.is_synced.Goals as goal

pub returns-then-not-case : goal.returns-then-not-case
returns-then-not-case c = sym (and_false_left _ _ (not_out _ (ap not (ne_eqb _ _ c.if-not-case.true))))

pub returns : goal.returns
returns c = c.sync_at.ensures ∙ sym (and_on _ _ (eq-eqb _ _ c.if-not-case.false))
