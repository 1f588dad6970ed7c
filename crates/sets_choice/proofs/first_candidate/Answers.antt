use mathlib.Core.Path.{sym, ◌∙◌}
use native.Mathlib.Omega.{arith}
use Rattle.sets_of_rows.specs.Walk.{walk_less, walk_in, search_begin, search_turn, search_found, search_end}
use Rattle.sets_grids.specs.Filling.{member_in}
use Rattle.sets_choice.specs.Choosing.{candidate_off, candidate_first, candidate_none, candidate_on, candidate_not}
use Rattle.sets_choice.proofs.first_candidate.Goals as goal

pub loop-source-init : goal.loop-source-init
loop-source-init c = rw c.into_iter-source-iterator.ensures.into_iter_gives (search_begin _ _ (candidate_off c.requires))

pub is_candidate-requires : goal.is_candidate-requires
is_candidate-requires c =
    (walk_in c.loop-source.invariant.0 c.in-Some.ensures.steps.0, c.requires)

pub returns-then-is_candidate : goal.returns-then-is_candidate
returns-then-is_candidate c =
    let pre = c.requires in
    let m = member_in _ pre.earlier (walk_in c.loop-source.invariant.0 c.in-Some.ensures.steps.0) in
    let l = m.0 in
    let hit = candidate_on pre _ _ l c.is_candidate.ensures c.if-is_candidate.true in
    (candidate_first pre _ l (search_found _ _ (candidate_off pre) c.loop-source.invariant c.in-Some.ensures.steps.0 hit) hit, omega (arith, l))

pub loop-source-preserved : goal.loop-source-preserved
loop-source-preserved c =
    let pre = c.requires in
    search_turn _ _ (candidate_off pre) c.loop-source.invariant c.in-Some.ensures.steps.0 c.in-Some.ensures.steps.1
    (candidate_not pre _ _ c.is_candidate.ensures c.if-is_candidate.false)

pub returns : goal.returns
returns c =
    let pre = c.requires in
    (candidate_none pre (search_end _ _ (candidate_off pre) _ c.in-None.ensures.steps.0 c.loop-source.invariant.1), omega arith)
