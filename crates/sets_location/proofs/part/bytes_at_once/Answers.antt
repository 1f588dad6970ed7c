use mathlib.Core.Path.{sym, ◌∙◌}
use Rattle.sets_of_rows.specs.Walk.{walk_less, walk_in}
use Rattle.sets_grids.specs.Given.{fitting_few}
use Rattle.sets_location.specs.Elements.{bits_begin, bits_turn, bits_pass, bits_end, to_off, to_mask, to_none, has_is}
use native.Mathlib.Omega.{arith}
use Rattle.sets_location.proofs.part.bytes_at_once.Goals as goal

pub loop-a-init : goal.loop-a-init
loop-a-init c = rw c.into_iter-a-iterator.ensures.into_iter_gives (bits_begin _ _ (to_off _ _ _ _ _))

pub get-requires : goal.get-requires
get-requires c =
    let l = c.requires.2 _ (walk_in c.loop-a.invariant.0 c.in-Some.ensures.steps.0) in omega (arith, l, (fitting_few c.requires.1), c.requires.1.room)

pub has-requires : goal.has-requires
has-requires c =
    omega (arith, c.requires.0.second, (fitting_few c.requires.1))

pub shared-m-requires : goal.shared-m-requires
shared-m-requires c =
    (c.requires.0.first, c.requires.2 _ (walk_in c.loop-a.invariant.0 c.in-Some.ensures.steps.0), c.requires.1.fit)

pub loop-a-preserved-then-has : goal.loop-a-preserved-then-has
loop-a-preserved-then-has c =
    bits_turn _ _ (to_off _ _ _ _ _) c.loop-a.invariant c.in-Some.ensures.steps.0 c.in-Some.ensures.steps.1 (λ e. to_mask _ _ _ _ _ _ (has_is _ _ _ _ _ c.get.ensures c.has.ensures c.if-has.true) e c.shared-m.ensures)

pub loop-a-preserved : goal.loop-a-preserved
loop-a-preserved c =
    bits_pass _ _ (to_off _ _ _ _ _) c.loop-a.invariant c.in-Some.ensures.steps.0 c.in-Some.ensures.steps.1 (λ k. to_none _ _ _ _ _ _ k (has_is _ _ _ _ _ c.get.ensures c.has.ensures c.if-has.false))

pub returns : goal.returns
returns c = bits_end _ _ (to_off _ _ _ _ _) _ _ c.in-None.ensures.steps.0 c.loop-a.invariant.1
