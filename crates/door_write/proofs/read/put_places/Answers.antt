use mathlib.Core.Path.{◌≡◌, refl}
use Prim.Native.Nat.{◌*◌}
use native.Mathlib.Omega.{arith}
use lib.ListN.{length-set}
use Rattle.finite.specs.Lists.{written_none}
use Rattle.door_write.specs.Parts.{PLACE_NUMBERS}
use Rattle.door_write.specs.Read.{place_numbers}
use Rattle.door_write.proofs.Laws.{number_put, numbers_put, place_number_is}
use borrow.Author.Rules.{rules}
use Rattle.door_write.proofs.read.put_places.Goals as goal

pub loop-k-init : goal.loop-k-init
loop-k-init c = (search rules, refl, written_none _ _)

pub loop-k-preserved : goal.loop-k-preserved
unfolding place_numbers
loop-k-preserved c =
    let inv = c.loop-k.invariant in
    (search rules, simp length-set inv.1, number_put _ _ _ _ (search rules) (search rules) (place_number_is _ _ c.number_of.ensures) inv.2)

pub returns : goal.returns
unfolding place_numbers
returns c =
    let e : c.loop-k.k ≡ PLACE_NUMBERS * c.args.n = omega arith in
    numbers_put _ _ (search rules) (rw e at c.loop-k.invariant.2)
