use mathlib.Core.Path.{refl, sym, ◌∙◌}
use native.Mathlib.Omega.{arith}
use Rattle.finite.specs.Below.{finds_some, finds_none}
use Rattle.model.specs.Table.{decode}
use Rattle.sets_grids.specs.Given.{given_few}
use Rattle.sets_grids.specs.Grid.{grid_made}
use Rattle.ask_check.specs.Answers.{edges_held}
use Rattle.ask_check.specs.Engine.{judge_kept}
use Rattle.ask_fill.specs.Parts.{cyclic_told, acyclic_found}
use Rattle.ask_fill.proofs.by_sets.is_consistent.Goals as goal

pub returns-then-is_some : goal.returns-then-is_some
unfolding decode
returns-then-is_some c =
    let l = finds_some _ _ _ c.cycle_start.ensures.0 (sym c.is_some.ensures ∙ c.if-is_some.true) in
    cyclic_told _ _ _ _ _ _ _ refl (grid_made (given_few c.requires.1.given) c.fill_edges.ensures) refl c.cycle_start.ensures.1 (λ e. omega arith)

pub first_overwrite-requires : goal.first_overwrite-requires
first_overwrite-requires c =
    let pre = c.requires in
    let small = given_few pre.1.given in
    let frame = (edges_held (grid_made small c.fill_edges.ensures) c.cycle_start.ensures.1).1 in
    (pre.0.each, judge_kept frame pre.1)

pub returns : goal.returns
unfolding decode
returns c =
    let none = finds_none _ _ _ c.cycle_start.ensures.0 (sym c.is_some.ensures ∙ c.if-is_some.false) in
    acyclic_found _ _ _ _ _ _ _ refl (grid_made (given_few c.requires.1.given) c.fill_edges.ensures) refl c.cycle_start.ensures.1 none _ c.first_overwrite.ensures
    _ c.is_none.ensures
