use mathlib.Core.Path.{sym, ◌∙◌}
use native.Mathlib.Omega.{arith}
use Rattle.find_cycle.proofs.Closing.{edges_of_lem, go_begin, go_less, go_turn, go_back, go_none}
use Rattle.find_cycle.proofs.leads_back.Goals as goal

pub get-requires : goal.get-requires
get-requires c = let pre = c.requires in omega (arith, pre.0, pre.2.few _ pre.2.own, pre.1)

pub loop-i-init : goal.loop-i-init
loop-i-init c = go_begin c.requires.0 (c.requires.2.few _ c.requires.2.own) c.requires.2 _ _ (edges_of_lem _ _ c.get.ensures) c.bitand-left.ensures

pub has-requires : goal.has-requires
has-requires c =
    let pre = c.requires in
    omega (arith, pre.0, pre.2.few _ pre.2.own)

pub returns-then-has : goal.returns-then-has
returns-then-has c =
    go_back c.requires.0 (c.requires.2.few _ c.requires.2.own) c.requires.2 c.loop-i.invariant (sym c.has.ensures ∙ c.if-has.true)

pub without-ahead-requires : goal.without-ahead-requires
without-ahead-requires c = c.in-Some.ensures.bound

pub get-requires-in-Some : goal.get-requires-in-Some
get-requires-in-Some c =
    omega (arith, c.in-Some.ensures.bound, c.requires.1)

pub loop-i-smaller : goal.loop-i-smaller
loop-i-smaller c =
    go_less c.requires.0 (c.requires.2.few _ c.requires.2.own) c.requires.2 c.loop-i.invariant c.in-Some.ensures _ c.without-ahead.ensures

pub loop-i-preserved : goal.loop-i-preserved
loop-i-preserved c =
    go_turn c.requires.0 (c.requires.2.few _ c.requires.2.own) c.requires.2 c.loop-i.invariant c.in-Some.ensures _ c.without-ahead.ensures _ _ _
    (sym c.has.ensures ∙ c.if-has.false) (edges_of_lem _ _ c.get-in-Some.ensures) c.bitor.ensures c.bitand-left-in-Some.ensures

pub returns : goal.returns
returns c =
    go_none c.requires.0 (c.requires.2.few _ c.requires.2.own) c.requires.2 c.loop-i.invariant (c.in_default.ensures)
