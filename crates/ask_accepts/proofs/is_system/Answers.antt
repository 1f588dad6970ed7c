-- `is_system` meets its contract: false where it isn't asked. Assumes nothing.
use mathlib.Core.Path.{sym}
use Rattle.finite.specs.Logic.{◌and◌, and_false_left, not_out}
use Rattle.run.specs.Layout.{rows_in, places_in}
use Rattle.ask_accepts.specs.Judging.{system_on}
use mathlib.Core.Path.{ap}
use borrow.Author.Tests.{ne_eqb}
use borrow.Author.Tests.{eq-eqb}
use mathlib.Core.Bool.{not}
use Rattle.ask_accepts.proofs.is_system.Goals as goal

pub returns-then-not-case : goal.returns-then-not-case
returns-then-not-case c = sym (and_false_left _ _ (not_out _ (ap not (ne_eqb _ _ c.if-not-case.true))))

pub returns : goal.returns
unfolding ◌and◌
returns c =
    system_on (rows_in c.args.t.now.bytes) (places_in c.args.t.now.bytes) _ c.args.t.now.rows c.args.case _ _ _ c.depends.ensures
    (eq-eqb _ _ c.if-not-case.false)
