use Rattle.sets_of_rows.specs.First.{first_any}
use mathlib.Core.Path.{sym, ◌∙◌}
use native.Mathlib.Omega.{arith}
use Rattle.sets_of_rows.specs.Walk.{walk_less, search_begin, search_turn, search_end}
use Rattle.find_cycle.proofs.Closing.{marks_of, loop_off, loop_among, loop_found, loop_below, loop_not, loop_none}
use Rattle.find_cycle.proofs.first_looping.Goals as goal

pub below-requires : goal.below-requires
below-requires c = c.requires.0

pub get-requires : goal.get-requires
get-requires c = omega (arith, c.requires.1)

pub loop-x-init : goal.loop-x-init
loop-x-init c =
    let pre = c.requires in
    let rows = marks_of _ _ _ _ pre.0 c.below.ensures c.get.ensures c.bitand-left.ensures in
    search_begin _ _ (loop_off pre.2 rows)

pub leads_back-requires : goal.leads_back-requires
leads_back-requires c =
    let pre = c.requires in
    let rows = marks_of _ _ _ _ pre.0 c.below.ensures c.get.ensures c.bitand-left.ensures in
    let inv = c.loop-x.invariant in
    let low = c.in-Some.ensures in
    (pre.0, pre.1, loop_among pre.2 rows inv low)

pub returns-then-leads_back : goal.returns-then-leads_back
returns-then-leads_back c =
    let pre = c.requires in
    let rows = marks_of _ _ _ _ pre.0 c.below.ensures c.get.ensures c.bitand-left.ensures in
    (loop_below pre.2 rows c.loop-x.invariant c.in-Some.ensures, loop_found pre.2 rows c.loop-x.invariant c.in-Some.ensures _ c.leads_back.ensures c.if-leads_back.true)

pub but_first-left-requires : goal.but_first-left-requires
but_first-left-requires c = first_any c.in-Some.ensures

pub loop-x-smaller : goal.loop-x-smaller
loop-x-smaller c = walk_less c.in-Some.ensures c.but_first-left.ensures

pub loop-x-preserved : goal.loop-x-preserved
loop-x-preserved c =
    let pre = c.requires in
    let rows = marks_of _ _ _ _ pre.0 c.below.ensures c.get.ensures c.bitand-left.ensures in
    search_turn _ _ (loop_off pre.2 rows) c.loop-x.invariant c.in-Some.ensures c.but_first-left.ensures (loop_not pre.2 rows _ _ c.leads_back.ensures c.if-leads_back.false)

pub returns : goal.returns
returns c =
    let pre = c.requires in
    let rows = marks_of _ _ _ _ pre.0 c.below.ensures c.get.ensures c.bitand-left.ensures in
    sym (loop_none pre.2 rows pre.0 (search_end _ _ (loop_off pre.2 rows) _ (c.in_default.ensures) c.loop-x.invariant.1))
