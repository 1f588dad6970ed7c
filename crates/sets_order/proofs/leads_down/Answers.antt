use mathlib.Core.Path.{sym, ◌∙◌}
use Rattle.sets_of_rows.specs.Walk.{walk_less, walk_in, search_begin, search_turn, search_end}
use Rattle.sets_order.specs.Down.{upward_off, upward_at, upward_found, upward_end}
use native.Mathlib.Omega.{arith}
use Rattle.sets_order.proofs.leads_down.Goals as goal

pub loop-a-init : goal.loop-a-init
loop-a-init c = rw c.into_iter-a-iterator.ensures.into_iter_gives (search_begin _ _ (λ i e. upward_off _ _ _ i e))

pub get-requires : goal.get-requires
get-requires c =
    let a = c.requires in let b = c.in-Some.ensures.steps.0.bound in omega arith

pub above-requires : goal.above-requires
above-requires c = c.in-Some.ensures.steps.0.bound

pub returns-then-has_any : goal.returns-then-has_any
returns-then-has_any c =
    let m = walk_in c.loop-a.invariant.0 c.in-Some.ensures.steps.0 in
    upward_found _ _ _ _ c.in-Some.ensures.steps.0.bound (sym (upward_at _ _ _ _ _ _ _ _ m c.get.ensures c.above.ensures c.sub.ensures c.has_any.ensures) ∙ c.if-has_any.true)

pub loop-a-preserved : goal.loop-a-preserved
loop-a-preserved c =
    let m = walk_in c.loop-a.invariant.0 c.in-Some.ensures.steps.0 in
    search_turn _ _ (λ i e. upward_off _ _ _ i e) c.loop-a.invariant c.in-Some.ensures.steps.0 c.in-Some.ensures.steps.1
    (sym (upward_at _ _ _ _ _ _ _ _ m c.get.ensures c.above.ensures c.sub.ensures c.has_any.ensures) ∙ c.if-has_any.false)

pub returns : goal.returns
returns c = upward_end _ _ _ (search_end _ _ (λ i e. upward_off _ _ _ i e) _ c.in-None.ensures.steps.0 c.loop-a.invariant.1)
