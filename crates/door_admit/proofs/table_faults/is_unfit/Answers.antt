use Rattle.finite.specs.Logic.{◌or◌}
use Rattle.door_admit.proofs.Laws.{unfit_off, unfit_none, unfit_early, unfit_late}
use borrow.Author.Tests.{not-false}
use mathlib.Core.Path.{ap}
use mathlib.Core.Bool.{not}
use Rattle.door_admit.proofs.table_faults.is_unfit.Goals as goal

pub returns-then-not-counted : goal.returns-then-not-counted
returns-then-not-counted c = unfit_off _ _ _ c.if-not-counted.true

pub returns-then-not-is_ranked : goal.returns-then-not-is_ranked
returns-then-not-is_ranked c =
    unfit_none _ _ _ _ _ (not-false _ (ap not c.if-not-counted.false)) c.requires c.is_ranked.ensures c.if-not-is_ranked.true

pub returns-then-any_begins : goal.returns-then-any_begins
returns-then-any_begins c =
    unfit_early _ _ _ _ _ (not-false _ (ap not c.if-not-counted.false)) c.requires c.is_ranked.ensures
    (not-false _ (ap not c.if-not-is_ranked.false)) _ c.any_begins.ensures c.if-any_begins.true

pub returns : goal.returns
unfolding ◌or◌
returns c =
    unfit_late _ _ _ _ _ (not-false _ (ap not c.if-not-counted.false)) c.requires c.is_ranked.ensures
    (not-false _ (ap not c.if-not-is_ranked.false)) _ _ _ c.any_begins.ensures c.if-any_begins.false c.any_outside.ensures
    c.is_outside.ensures
