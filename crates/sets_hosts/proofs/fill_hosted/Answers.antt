use mathlib.Core.Path.{refl, sym, ◌∙◌}
use Rattle.bits.specs.Within.{within_cleared}
use Rattle.sets_of_rows.specs.Walk.{walk_less, walk_in}
use Rattle.sets_of_rows.specs.Rows.{rows_at}
use Rattle.sets_of_rows.specs.Filling.{fill_begin, fill_turn, fill_end}
use Rattle.sets_of_table.specs.Known.{says_rows}
use Rattle.sets_of_table.specs.Ask.{few}
use Rattle.sets_grids.specs.Filling.{member_in, filled_made}
use Rattle.sets_grids.specs.Regions.{HOSTED, HOSTED_END}
use Rattle.sets_hosts.specs.Hosts.{hosting_at, hosted_only, made_after}
use native.Mathlib.Omega.{arith}
use Rattle.sets_hosts.proofs.fill_hosted.Goals as goal

pub fill_met-requires : goal.fill_met-requires
fill_met-requires c = (c.requires.0.opened.space, c.requires.0.room)

pub clear-requires : goal.clear-requires
clear-requires c =
    let a = c.requires.0.room in let b = c.fill_met.ensures.frame.len in omega arith

pub rows-x-items-requires : goal.rows-x-items-requires
rows-x-items-requires c =
    let a = c.requires.0.opened.space in omega arith

pub loop-x-init : goal.loop-x-init
loop-x-init c =
    (refl, fill_begin _ _ _ _ (let a = c.requires.0.room in let b = c.fill_met.ensures.frame.len in omega arith) c.clear.ensures)

pub hosted_row-to-requires : goal.hosted_row-to-requires
hosted_row-to-requires c =
    let a = c.requires.0.room in
    let b = c.fill_met.ensures.frame.len in
    let d = (within_cleared HOSTED HOSTED_END (omega arith) c.clear.ensures).len in
    (c.in-Some.ensures.steps.0.bound, c.requires.0.opened.space, omega (arith, c.loop-x.invariant.0))

pub put-requires : goal.put-requires
put-requires c =
    let a = c.requires.0.room in
    let b = c.fill_met.ensures.frame.len in
    let d = (within_cleared HOSTED HOSTED_END (omega arith) c.clear.ensures).len in
    omega (arith, c.loop-x.invariant.0, c.in-Some.ensures.steps.0.bound)

pub loop-x-preserved : goal.loop-x-preserved
loop-x-preserved c =
    let pre = c.requires in
    let inv = c.loop-x.invariant in
    let m = member_in _ (rows_at (c.into_iter-x-iterator.ensures.into_iter_gives ∙ c.rows-x-items.ensures) (says_rows pre.0.opened.known.tested.accesses.access)) (walk_in inv.1.walk c.in-Some.ensures.steps.0) in
    let h = hosting_at pre.0 pre.1 pre.2 c.fill_met.ensures c.clear.ensures inv.1.frame in
    (c.put.ensures.frame.len ∙ inv.0, fill_turn _ _ _ _ inv.1 c.in-Some.ensures.steps.0 c.in-Some.ensures.steps.1 (c.hosted_row-to.ensures _ _ h m.0 m.1).is c.put.ensures)

pub shape_of-w : goal.shape_of-w
shape_of-w c =
    c.loop-x.invariant.0 ∙ (within_cleared HOSTED HOSTED_END (omega arith) c.clear.ensures).len ∙ c.fill_met.ensures.frame.len

pub returns : goal.returns
returns c =
    let o = c.requires.0.opened in
    made_after c.fill_met.ensures.frame
    (filled_made _ (few o) (rows_at (c.into_iter-x-iterator.ensures.into_iter_gives ∙ c.rows-x-items.ensures) (says_rows o.known.tested.accesses.access)) (λ i j l m e. hosted_only _ i j e)
    (fill_end _ _ _ _ c.clear.ensures c.in-None.ensures.steps.0 c.loop-x.invariant.1))
