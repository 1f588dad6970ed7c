use mathlib.Core.Path.{sym, ◌∙◌}
use Rattle.model.specs.Table.{decode}
use Rattle.sets_of_rows.specs.Walk.{walk_less}
use Rattle.sets_of_rows.specs.Sift.{sift_begin, sift_turn, sift_end}
use Rattle.sets_of_table.specs.Ask.{few}
use Rattle.sets_control.specs.Passed.{start_is, instance_rows}
use Rattle.sets_grids.specs.Filling.{one_more}
use native.Mathlib.Omega.{arith}
use Rattle.sets_control.proofs.instance.Goals as goal

pub start-name-requires : goal.start-name-requires
start-name-requires c = let a = few c.requires.1 in omega (arith, c.requires.0)

pub get-d-items-requires : goal.get-d-items-requires
get-d-items-requires c = let a = c.requires.1.space in omega arith

pub loop-d-init : goal.loop-d-init
loop-d-init c = sift_begin _ _ _ c.none-all.ensures

pub start-requires : goal.start-requires
start-requires c = c.in-Some.ensures.steps.0.bound

pub bit-requires : goal.bit-requires
bit-requires c = c.in-Some.ensures.steps.0.bound

pub loop-d-preserved : goal.loop-d-preserved
unfolding decode
loop-d-preserved c =
    sift_turn _ _ _ c.loop-d.invariant c.in-Some.ensures.steps.0 c.in-Some.ensures.steps.1 (start_is _ _ _ _ _ c.start.ensures.0 c.start-name.ensures.0) (one_more _ _ _ _ _ _ c.bit.ensures c.only_if.ensures c.bitor_assign.ensures.after)

pub returns : goal.returns
unfolding decode
returns c =
    instance_rows c.requires.1 _ _ _ (c.into_iter-d-iterator.ensures.into_iter_gives ∙ c.get-d-items.ensures) (sift_end _ _ _ _ c.in-None.ensures.steps.0 c.loop-d.invariant.1)
