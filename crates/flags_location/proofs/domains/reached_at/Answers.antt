use Rattle.flags_location.specs.Domains.{reached_off, reached_here, reached_over}
use borrow.Author.Tests.{not-false}
use mathlib.Core.Path.{sym, ◌∙◌}
use mathlib.Core.Path.{ap}
use mathlib.Core.Bool.{not}
use Rattle.flags_location.proofs.domains.reached_at.Goals as goal

pub returns-then-not-is_available : goal.returns-then-not-is_available
returns-then-not-is_available c =
    let pre = c.requires in
    reached_off pre c.kind-kind.ensures
    (sym c.is_available.ensures ∙ c.if-not-is_available.true)

pub returns-then-kind-is_host : goal.returns-then-kind-is_host
returns-then-kind-is_host c =
    let pre = c.requires in
    reached_here pre
    c.kind-kind.ensures
    (sym c.is_available.ensures
    ∙ not-false _ (ap not c.if-not-is_available.false)) c.agent-agent.ensures
    (rw c.places.ensures at c.is_host.ensures) c.if-kind-is_host.true c.grid_bit.ensures

pub returns : goal.returns
returns c =
    let pre = c.requires in
    reached_over pre
    c.kind-kind.ensures
    (sym c.is_available.ensures
    ∙ not-false _ (ap not c.if-not-is_available.false)) c.agent-agent.ensures
    (rw c.places.ensures at c.is_host.ensures) c.if-kind-is_host.false c.out_of.ensures c.is_onward.ensures
