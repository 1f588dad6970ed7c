use mathlib.Core.Path.{sym, ◌∙◌}
use borrow.Author.Tests.{not-false}
use Rattle.flags_location.specs.Chains.{or_on, or_neither, or_other}
use mathlib.Core.Path.{ap}
use mathlib.Core.Bool.{not}
use Rattle.flags_location.proofs.chains.starts_at.Goals as goal

pub returns-then-seen_at : goal.returns-then-seen_at
returns-then-seen_at c = or_on _ _ (sym c.seen_at.ensures ∙ c.if-seen_at.true)

pub returns-then-not-chains : goal.returns-then-not-chains
returns-then-not-chains c = or_neither _ _ _ (sym c.seen_at.ensures ∙ c.if-seen_at.false) (sym c.chains.ensures ∙ c.if-not-chains.true)

pub some_start-requires : goal.some_start-requires
some_start-requires c =
    let pre = c.requires in
    record { element = pre.element; last = pre.last; chains = sym c.chains.ensures ∙ not-false _ (ap not c.if-not-chains.false) }

pub returns : goal.returns
returns c = or_other _ _ _ _ (sym c.seen_at.ensures ∙ c.if-seen_at.false)
    (sym c.chains.ensures ∙ not-false _ (ap not c.if-not-chains.false)) c.some_start.ensures
