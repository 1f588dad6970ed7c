use mathlib.Core.Path.{◌≡◌, refl, sym, ◌∙◌}
use native.Mathlib.Omega.{arith}
use Rattle.finite.specs.Below.{finds_some, finds_none, least_none, least_found, least_more}
use Rattle.model.specs.Table.{decode}
use Rattle.model.specs.Edge.{over_writer}
use Rattle.find_axioms.specs.Overwritten.{overwriting_is}
use borrow.Author.Rules.{rules}
use Rattle.find_axioms.proofs.overwritten.over_writer.Goals as goal

pub loop-z-init : goal.loop-z-init
loop-z-init c = (search rules, least_none _)

pub returns-then-is_some : goal.returns-then-is_some
unfolding over_writer decode
returns-then-is_some c =
    let hit = finds_some _ _ _ c.over_nth.ensures (sym c.is_some.ensures ∙ c.if-is_some.true) in
    let on = (overwriting_is _ _ _ _ _ refl).0 hit in
    (c.loop-z-test.true, sym (least_found _ _ _ c.loop-z.invariant.1 on c.loop-z-test.true))

pub loop-z-preserved : goal.loop-z-preserved
loop-z-preserved c =
    let none = finds_none _ _ _ c.over_nth.ensures (sym c.is_some.ensures ∙ c.if-is_some.false) in
    (search rules, least_more _ _ c.loop-z.invariant.1 ((overwriting_is _ _ _ _ _ refl).1 (omega arith)))

pub returns : goal.returns
unfolding over_writer decode
returns c = let e : c.loop-z.z ≡ c.args.t.now.rows = omega arith in rw e at c.loop-z.invariant.1
