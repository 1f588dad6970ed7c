use Rattle.flags_location.specs.Domains.{operation_at, met_off, met_read, met_other}
use borrow.Author.Tests.{not-false}
use mathlib.Core.Path.{sym, ◌∙◌}
use mathlib.Core.Path.{ap}
use mathlib.Core.Bool.{not}
use Rattle.flags_location.proofs.domains.met_at.Goals as goal

pub returns-then-not-operation_at : goal.returns-then-not-operation_at
unfolding operation_at
returns-then-not-operation_at c = met_off c.requires (sym c.operation_at.ensures ∙ c.if-not-operation_at.true)

pub returns-then-reads : goal.returns-then-reads
unfolding operation_at
returns-then-reads c =
    let pre = c.requires in
    met_read pre
    (sym c.operation_at.ensures
    ∙ not-false _ (ap not c.if-not-operation_at.false)) c.row-q.ensures
    (sym c.reads.ensures ∙ c.if-reads.true) c.visible_kind.ensures c.is_seen.ensures

pub returns : goal.returns
unfolding operation_at
returns c =
    let pre = c.requires in
    met_other pre
    (sym c.operation_at.ensures
    ∙ not-false _ (ap not c.if-not-operation_at.false)) c.row-q.ensures
    (sym c.reads.ensures ∙ c.if-reads.false) c.happens_bit.ensures
