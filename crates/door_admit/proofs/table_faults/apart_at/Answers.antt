use Rattle.door_admit.proofs.Laws.{apart_other, apart_class, apart_agent, apart_scope}
use mathlib.Core.Path.{ap}
use mathlib.Core.Bool.{not}
use Rattle.door_admit.proofs.table_faults.apart_at.Goals as goal

pub returns-then-not-is_of_instance : goal.returns-then-not-is_of_instance
returns-then-not-is_of_instance c =
    let pre = c.requires in
    apart_other _ _ _ _ _ pre.0 pre.1 _ c.is_of_instance.ensures (ap not c.if-not-is_of_instance.true)

pub returns-then-row_byte-r : goal.returns-then-row_byte-r
returns-then-row_byte-r c =
    let pre = c.requires in
    apart_class _ _ _ _ _ pre.0 pre.1 _ c.is_of_instance.ensures
    (ap not c.if-not-is_of_instance.false) _ c.row_byte.ensures c.if-row_byte-r.true

pub returns-then-g-r : goal.returns-then-g-r
returns-then-g-r c =
    let pre = c.requires in
    apart_agent _ _ _ _ _ pre.0 pre.1 _ c.is_of_instance.ensures
    (ap not c.if-not-is_of_instance.false) _ c.read_agent-g.ensures c.if-g-r.true

pub returns : goal.returns
returns c =
    let pre = c.requires in
    apart_scope _ _ _ _ _ pre.0 pre.1 _ c.is_of_instance.ensures
    (ap not c.if-not-is_of_instance.false) _ _ _
    c.row_byte.ensures c.if-row_byte-r.false
    c.read_agent-g.ensures c.if-g-r.false c.shares_scope.ensures
