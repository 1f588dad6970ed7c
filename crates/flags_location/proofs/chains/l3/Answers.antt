use mathlib.Core.Path.{sym, ◌∙◌}
use borrow.Author.Tests.{not-false}
use Rattle.model.specs.Table.{decode}
use Rattle.flags_location.specs.Chains.{L3_off, L3_on}
use mathlib.Core.Path.{ap}
use mathlib.Core.Bool.{not}
use Rattle.flags_location.proofs.chains.l3.Goals as goal

pub returns-then-not-public_write : goal.returns-then-not-public_write
unfolding decode
returns-then-not-public_write c = sym (L3_off _ _ _ _ _ _ c.row-r.ensures c.row-q.ensures (sym c.public_write.ensures ∙ c.if-not-public_write.true))

pub returns : goal.returns
unfolding decode
returns c =
    L3_on _ _ _ _ _ _ _ c.row-r.ensures c.row-q.ensures (sym c.public_write.ensures ∙ not-false _ (ap not c.if-not-public_write.false)) c.some_carried.ensures
