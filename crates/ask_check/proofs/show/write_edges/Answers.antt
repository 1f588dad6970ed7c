use mathlib.Core.Path.{◌≡◌, refl}
use native.Mathlib.Omega.{arith}
use Rattle.ask_check.specs.Shown.{numbered_none, numbered_more, row_below, next_below, step_is}
use borrow.Author.Rules.{rules}
use Rattle.ask_check.proofs.show.write_edges.Goals as goal

pub loop-i-init : goal.loop-i-init
loop-i-init c = (search rules, refl, numbered_none _ _)

pub edge_number-e-requires : goal.edge_number-e-requires
edge_number-e-requires c =
    let pre = c.requires in
    let inv = c.loop-i.invariant in
    let row = row_below _ _ _ _ c.args.x _ _ _ inv.2 pre.0.few (omega arith) pre.0.rows _ c.wide-a.ensures in
    let next = next_below _ _ _ _ _ _ _ _ inv.2 pre.0.few (omega arith) pre.0.rows pre.0.start _ c.next_of-b.ensures in
    (record { first = row; second = next }, pre.1, pre.2)

pub loop-i-preserved : goal.loop-i-preserved
loop-i-preserved c =
    let pre = c.requires in
    let inv = c.loop-i.invariant in
    let e = step_is _ _ c.args.t.now.rows _ _ _ _ _
    inv.2 pre.0.few (omega arith) _ _ _ _ _ c.wide-a.ensures c.next_of-b.ensures
    c.edge_number-e.ensures in
    let more = numbered_more _ _ _ _ _ _ (omega arith) refl e inv.2 in
    (search rules, more.len, more)

pub returns : goal.returns
returns c =
    let e : c.loop-i.i ≡ c.args.size = omega arith in
    rw e at c.loop-i.invariant.2
