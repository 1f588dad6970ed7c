use Rattle.sets_of_rows.specs.Walk.{walk_in}
use Rattle.sets_location.specs.Elements.{bits_begin, bits_turn, bits_end, byte_off, byte_mask}
use Rattle.sets_location.proofs.part.bytes_of.Goals as goal

pub loop-y-init : goal.loop-y-init
loop-y-init c = rw c.into_iter-y-iterator.ensures.into_iter_gives (bits_begin _ _ (byte_off _ _ _))

pub shared-m-requires : goal.shared-m-requires
shared-m-requires c = (c.requires.0, c.requires.1 _ (walk_in c.loop-y.invariant.0 c.in-Some.ensures.steps.0), c.requires.2)

pub loop-y-preserved : goal.loop-y-preserved
loop-y-preserved c =
    bits_turn _ _ (byte_off _ _ _) c.loop-y.invariant c.in-Some.ensures.steps.0 c.in-Some.ensures.steps.1 (λ e. byte_mask _ _ _ _ e c.shared-m.ensures)

pub returns : goal.returns
returns c = bits_end _ _ (byte_off _ _ _) _ _ c.in-None.ensures.steps.0 c.loop-y.invariant.1
