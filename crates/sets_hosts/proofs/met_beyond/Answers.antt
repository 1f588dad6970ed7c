use Rattle.sets_of_rows.specs.Rows.{started}
use mathlib.Core.Path.{sym, ◌∙◌}
use Rattle.sets_of_rows.specs.Walk.{walk_less, gather_begin, gather_turn, gather_end}
use Rattle.sets_hosts.specs.Hosts.{beyond_off, beyond_on, carriers, beyond_rows}
use native.Mathlib.Omega.{arith}
use Rattle.sets_hosts.proofs.met_beyond.Goals as goal

pub of_kind-carrying-requires : goal.of_kind-carrying-requires
of_kind-carrying-requires c = (omega arith, omega arith, c.requires.1)

pub get-requires : goal.get-requires
get-requires c = omega (arith, c.requires.0, c.requires.2)

pub loop-d-init : goal.loop-d-init
loop-d-init c = λ t n g l. gather_begin _ _ (beyond_off t n _ _) _ c.none-met.ensures

pub met_in-requires : goal.met_in-requires
met_in-requires c =
    (c.in-Some.ensures.steps.0.bound, c.requires.1, c.requires.2)

pub loop-d-preserved : goal.loop-d-preserved
loop-d-preserved c =
    λ t n g l.
    gather_turn _ _ (beyond_off t n _ _) (c.loop-d.invariant t n g l) c.in-Some.ensures.steps.0 c.in-Some.ensures.steps.1
    (beyond_on t n _ _ _ _ _ _ (carriers g c.args.host _ l c.of_kind-carrying.ensures c.get.ensures (started c.into_iter-d-iterator.ensures.into_iter_gives c.bitand-d-items.ensures)) (c.met_in.ensures t n g) c.bitor_assign.ensures.after)

pub returns : goal.returns
returns c =
    λ t n g l.
    beyond_rows g _ _ _ _ (carriers g c.args.host _ l c.of_kind-carrying.ensures c.get.ensures (started c.into_iter-d-iterator.ensures.into_iter_gives c.bitand-d-items.ensures))
    (gather_end _ _ (beyond_off t n _ _) _ _ c.in-None.ensures.steps.0 (c.loop-d.invariant t n g l).1)
