use Rattle.flags_location.specs.Domains.{hosted_off, hosted_fourth, hosted_fifth}
use borrow.Author.Tests.{not-false}
use mathlib.Core.Path.{sym, ◌∙◌}
use mathlib.Core.Path.{ap}
use mathlib.Core.Bool.{not}
use Rattle.flags_location.proofs.hosted.hosted_at.Goals as goal

pub returns-then-not-may_share : goal.returns-then-not-may_share
returns-then-not-may_share c =
    let pre = c.requires in
    hosted_off pre c.row-r.ensures c.row-q.ensures
    (sym c.may_share.ensures ∙ c.if-not-may_share.true)

pub returns-then-l4 : goal.returns-then-l4
returns-then-l4 c =
    let pre = c.requires in
    hosted_fourth pre
    c.row-r.ensures
    c.row-q.ensures
    (sym c.may_share.ensures ∙ not-false _ (ap not c.if-not-may_share.false))
    c.grid_bit-s.ensures c.l4.ensures c.if-l4.true

pub returns : goal.returns
returns c =
    let pre = c.requires in
    hosted_fifth pre
    c.row-r.ensures
    c.row-q.ensures
    (sym c.may_share.ensures ∙ not-false _ (ap not c.if-not-may_share.false))
    c.grid_bit-s.ensures c.l4.ensures c.if-l4.false c.l5.ensures
