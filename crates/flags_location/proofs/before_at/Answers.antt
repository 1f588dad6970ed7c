use Rattle.flags_location.specs.Order.{before_off, before_first, before_third}
use Rattle.model.specs.Table.{decode}
use Rattle.finite.specs.Logic.{◌or◌}
use borrow.Author.Tests.{not-false}
use native.Mathlib.Omega.{arith}
use mathlib.Core.Path.{sym, ◌∙◌}
use mathlib.Core.Path.{ap}
use mathlib.Core.Bool.{not}
use Rattle.flags_location.proofs.before_at.Goals as goal

pub returns-then-not-common_of : goal.returns-then-not-common_of
unfolding decode
returns-then-not-common_of c = sym (before_off _ _ _ _ _ c.row-r.ensures c.row-q.ensures _ (sym c.common_of.ensures ∙ c.if-not-common_of.true))

pub returns-then-l1-l2 : goal.returns-then-l1-l2
unfolding decode ◌or◌
returns-then-l1-l2 c =
    let pre = c.requires in
    let h = c.happens_bit-h.ensures
    ∙ pre.holds.reaching.ordered.happening.cell _ _ (omega arith) (omega arith) in
    let g = c.grid_bit-g.ensures ∙ pre.holds.hosting.cell _ _ pre.first pre.second in
    let e = sym c.common_of.ensures ∙ not-false _ (ap not c.if-not-common_of.false) in
    before_first _ _ _ _ _ c.row-r.ensures c.row-q.ensures _ _ _ _ _ e h g c.l1.ensures c.l2.ensures c.if-l1-l2.true

pub l3-requires : goal.l3-requires
l3-requires c =
    let pre = c.requires in
    record { few = pre.few; room = pre.room; first = pre.first; second = pre.second; reaching = pre.holds.reaching }

pub returns : goal.returns
unfolding decode ◌or◌
returns c =
    let pre = c.requires in
    let h = c.happens_bit-h.ensures
    ∙ pre.holds.reaching.ordered.happening.cell _ _ (omega arith) (omega arith) in
    let g = c.grid_bit-g.ensures ∙ pre.holds.hosting.cell _ _ pre.first pre.second in
    let e = sym c.common_of.ensures
    ∙ not-false _ (ap not c.if-not-common_of.false) in
    before_third _ _ _ _ _ c.row-r.ensures c.row-q.ensures _ _ _ _ _ e h g _ c.l1.ensures
    c.l2.ensures c.if-l1-l2.false c.l3.ensures
