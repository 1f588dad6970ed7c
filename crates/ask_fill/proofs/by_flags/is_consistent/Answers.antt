use mathlib.Core.Path.{refl, sym, ◌∙◌}
use native.Mathlib.Omega.{arith}
use Rattle.finite.specs.Below.{finds_some, finds_none, finds_test}
use Rattle.model.specs.Table.{decode}
use Rattle.ask_check.specs.Answers.{known_kept, edges_held}
use Rattle.ask_fill.specs.Parts.{turned, cyclic_told, acyclic_told}
use Rattle.ask_fill.proofs.by_flags.is_consistent.Goals as goal

pub returns-then-is_some : goal.returns-then-is_some
unfolding decode
returns-then-is_some c =
    let l = finds_some _ _ _ c.cycle_start.ensures.0 (sym c.is_some.ensures ∙ c.if-is_some.true) in
    cyclic_told _ _ _ _ _ _ _ refl c.fill_edges.ensures refl c.cycle_start.ensures.1 (λ e. omega arith)

pub over_reader-requires : goal.over_reader-requires
over_reader-requires c =
    let pre = c.requires in (
      pre.0,
      known_kept (omega arith) pre.1
          (edges_held c.fill_edges.ensures
          c.cycle_start.ensures.1).1,
    )

pub returns : goal.returns
unfolding decode
returns c =
    let none = finds_none _ _ _ c.cycle_start.ensures.0 (sym c.is_some.ensures ∙ c.if-is_some.false) in
    let told = acyclic_told _ _ _ _ _ _ _ refl c.fill_edges.ensures refl c.cycle_start.ensures.1 none _ refl in
    (turned _ _ c.is_none.ensures ∙ finds_test _ _ _ c.over_reader.ensures ∙ told.0, told.1)
