use mathlib.Core.Path.{sym, ◌∙◌}
use borrow.Author.Tests.{not-false}
use Rattle.flags_location.specs.Chains.{or_on, or_neither, or_other}
use mathlib.Core.Path.{ap}
use mathlib.Core.Bool.{not}
use Rattle.flags_location.proofs.chains.ends_from.Goals as goal

pub returns-then-ends_at : goal.returns-then-ends_at
returns-then-ends_at c = or_on _ _ (sym c.ends_at.ensures ∙ c.if-ends_at.true)

pub returns-then-not-chains : goal.returns-then-not-chains
returns-then-not-chains c = or_neither _ _ _ (sym c.ends_at.ensures ∙ c.if-ends_at.false) (sym c.chains.ensures ∙ c.if-not-chains.true)

pub some_end-requires : goal.some_end-requires
some_end-requires c =
    let pre = c.requires in
    record { pair = pre.pair; row = pre.row; chains = sym c.chains.ensures ∙ not-false _ (ap not c.if-not-chains.false) }

pub returns : goal.returns
returns c = or_other _ _ _ _ (sym c.ends_at.ensures ∙ c.if-ends_at.false)
    (sym c.chains.ensures ∙ not-false _ (ap not c.if-not-chains.false)) c.some_end.ensures
