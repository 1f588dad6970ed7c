use Rattle.sets_of_rows.specs.Rows.{started}
use mathlib.Core.Path.{refl, sym, ◌∙◌}
use Rattle.sets_of_rows.specs.Walk.{walk_less}
use Rattle.sets_hosts.specs.Hosts.{meet_begin, meet_turn, meet_end}
use native.Mathlib.Omega.{arith}
use Rattle.sets_hosts.proofs.fill_met.Goals as goal

pub get-hosts-requires : goal.get-hosts-requires
get-hosts-requires c = omega (arith, c.requires.0)

pub get-devices-requires : goal.get-devices-requires
get-devices-requires c = omega (arith, c.requires.0)

pub loop-a-init : goal.loop-a-init
loop-a-init c = (refl, meet_begin _ _ _)

pub has-host-requires : goal.has-host-requires
has-host-requires c = c.in-Some.ensures.steps.0.bound

pub met_in-requires : goal.met_in-requires
met_in-requires c =
    (c.in-Some.ensures.steps.0.bound, c.requires.0, omega (arith, c.loop-a.invariant.0, c.requires.1))

pub met_beyond-requires : goal.met_beyond-requires
met_beyond-requires c =
    (c.in-Some.ensures.steps.0.bound, c.requires.0, omega (arith, c.loop-a.invariant.0, c.requires.1))

pub put-requires : goal.put-requires
put-requires c =
    omega (arith, c.in-Some.ensures.steps.0.bound, c.loop-a.invariant.0, c.requires.1)

pub loop-a-preserved : goal.loop-a-preserved
loop-a-preserved c =
    let inv = c.loop-a.invariant in
    (c.put.ensures.frame.len ∙ inv.0, meet_turn _ _ _ _ _ inv.1 c.in-Some.ensures.steps.0 c.in-Some.ensures.steps.1 c.get-hosts.ensures c.has-host.ensures c.met_in.ensures c.met_beyond.ensures c.bitor-met.ensures c.put.ensures)

pub shape_of-w : goal.shape_of-w
shape_of-w c = c.loop-a.invariant.0

pub returns : goal.returns
returns c =
    meet_end _ _ _ _ c.get-hosts.ensures c.get-devices.ensures (started c.into_iter-a-iterator.ensures.into_iter_gives c.bitor-a-items.ensures) c.in-None.ensures.steps.0 c.loop-a.invariant.1
