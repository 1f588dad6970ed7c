use mathlib.Core.Path.{sym, ◌∙◌}
use Rattle.sets_of_rows.specs.Walk.{walk_less, walk_in, search_begin, search_turn, search_end}
use Rattle.sets_grids.specs.Grid.{grid_at}
use Rattle.sets_grids.specs.Given.{given_few}
use Rattle.sets_closure.specs.Widest.{synced_off, synced_at, synced_found, synced_end}
use native.Mathlib.Omega.{arith}
use Rattle.sets_closure.proofs.is_synced.Goals as goal

pub loop-a-init : goal.loop-a-init
loop-a-init c = rw c.into_iter-a-iterator.ensures.into_iter_gives (search_begin _ _ (λ i e. synced_off _ _ _ i e))

pub get-requires : goal.get-requires
get-requires c =
    let a = c.requires.0.room in let b = c.in-Some.ensures.steps.0.bound in omega arith

pub returns-then-has_any : goal.returns-then-has_any
returns-then-has_any c =
    let m = walk_in c.loop-a.invariant.0 c.in-Some.ensures.steps.0 in
    synced_found _ _ _ _ (c.requires.2 _ m)
    (sym (synced_at _ _ _ _ _ _ _ (given_few c.requires.0) m (grid_at c.requires.1 (c.requires.2 _ m) c.get.ensures) c.bitand.ensures c.has_any.ensures) ∙ c.if-has_any.true)

pub loop-a-preserved : goal.loop-a-preserved
loop-a-preserved c =
    let m = walk_in c.loop-a.invariant.0 c.in-Some.ensures.steps.0 in
    search_turn _ _ (λ i e. synced_off _ _ _ i e) c.loop-a.invariant c.in-Some.ensures.steps.0 c.in-Some.ensures.steps.1
    (sym (synced_at _ _ _ _ _ _ _ (given_few c.requires.0) m (grid_at c.requires.1 (c.requires.2 _ m) c.get.ensures) c.bitand.ensures c.has_any.ensures) ∙ c.if-has_any.false)

pub returns : goal.returns
returns c =
    synced_end _ _ _ (given_few c.requires.0) (search_end _ _ (λ i e. synced_off _ _ _ i e) _ c.in-None.ensures.steps.0 c.loop-a.invariant.1)
