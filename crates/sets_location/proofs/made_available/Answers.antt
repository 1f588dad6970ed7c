use mathlib.Core.Path.{sym, ◌∙◌}
use Rattle.model.specs.Table.{decode}
use Rattle.sets_of_rows.specs.Walk.{walk_less}
use Rattle.sets_of_rows.specs.Rows.{rows_at}
use Rattle.sets_of_table.specs.Ask.{few}
use Rattle.sets_location.specs.Carried.{agent_code, class_code, grasp_begin, grasp_whole, grasp_part, grasp_all, grasp_end}
use native.Mathlib.Omega.{arith}
use Rattle.sets_location.proofs.made_available.Goals as goal

pub agent-requires : goal.agent-requires
agent-requires c = let b = few c.requires.1.given.opened in omega (arith, c.requires.0.low, b)

pub overflow_mul-k : goal.overflow_mul-k
unfolding decode
overflow_mul-k c = omega (arith, agent_code c.requires.1.given.opened c.requires.0.low c.agent.ensures)

pub class-requires : goal.class-requires
class-requires c = let b = few c.requires.1.given.opened in omega (arith, c.requires.0.low, b)

pub overflow_add-k : goal.overflow_add-k
unfolding decode
overflow_add-k c =
    omega (arith, agent_code c.requires.1.given.opened c.requires.0.low c.agent.ensures, class_code c.requires.1.given.opened c.requires.0.low c.requires.0.is c.class.ensures)

pub get-to-requires : goal.get-to-requires
unfolding decode
get-to-requires c =
    omega (arith, c.requires.2.room, agent_code c.requires.1.given.opened c.requires.0.low c.agent.ensures, class_code c.requires.1.given.opened c.requires.0.low c.requires.0.is c.class.ensures)

pub overflow_add-k-2 : goal.overflow_add-k-2
unfolding decode
overflow_add-k-2 c =
    omega (arith, agent_code c.requires.1.given.opened c.requires.0.low c.agent.ensures, class_code c.requires.1.given.opened c.requires.0.low c.requires.0.is c.class.ensures)

pub get-by-requires : goal.get-by-requires
unfolding decode
get-by-requires c =
    omega (arith, c.requires.2.room, agent_code c.requires.1.given.opened c.requires.0.low c.agent.ensures, class_code c.requires.1.given.opened c.requires.0.low c.requires.0.is c.class.ensures)

pub plain_available-a-items-requires : goal.plain_available-a-items-requires
plain_available-a-items-requires c =
    (c.requires.0, c.requires.1)

pub loop-a-init : goal.loop-a-init
loop-a-init c = grasp_begin _ _ _ _ _ _ _

pub covers-requires : goal.covers-requires
covers-requires c =
    let b = few c.requires.1.given.opened in (c.in-Some.ensures.steps.0.bound, omega (arith, c.requires.0.low, b))

pub get-requires : goal.get-requires
get-requires c =
    omega (arith, c.in-Some.ensures.steps.0.bound, c.requires.1.given.room)

pub get-requires-then-covers : goal.get-requires-then-covers
get-requires-then-covers c =
    omega (arith, c.in-Some.ensures.steps.0.bound, c.requires.1.given.room)

pub loop-a-preserved-then-covers : goal.loop-a-preserved-then-covers
unfolding decode
loop-a-preserved-then-covers c =
    grasp_whole _ _ _ _ _ _ _ c.loop-a.invariant c.in-Some.ensures.steps.0 c.in-Some.ensures.steps.1 _ _ _ _ (sym c.covers.ensures ∙ c.if-covers.true) c.get.ensures c.get-then-covers.ensures c.bitor_assign.ensures.after c.bitor_assign-then-covers.ensures.after

pub bit-requires : goal.bit-requires
bit-requires c = c.in-Some.ensures.steps.0.bound

pub loop-a-preserved : goal.loop-a-preserved
unfolding decode
loop-a-preserved c =
    grasp_part _ _ _ _ _ _ _ c.loop-a.invariant c.in-Some.ensures.steps.0 c.in-Some.ensures.steps.1 _ _ (sym c.covers.ensures ∙ c.if-covers.false) c.bit.ensures c.bitor_assign-else-covers.ensures.after

pub returns : goal.returns
unfolding decode
returns c =
    grasp_end c.requires.1.given.opened _ c.requires.0.low (rows_at c.into_iter-a-iterator.ensures.into_iter_gives c.plain_available-a-items.ensures) _ _ c.requires.1.locating c.requires.2 c.requires.0.is c.agent.ensures c.class.ensures c.get-to.ensures c.get-by.ensures c.none-parts.ensures (grasp_all _ _ _ _ _ _ _ _ _ _ _ c.in-None.ensures.steps.0 c.loop-a.invariant.1)
