use Rattle.find_axioms.specs.Overwritten.{overwritten_is}
use Rattle.model.specs.Edge.{over_reader}
use Rattle.finite.specs.Below.{finds_some, finds_none, least_none, least_found, least_more}
use Rattle.model.specs.Table.{decode}
use native.Mathlib.Omega.{arith}
use mathlib.Core.Path.{◌≡◌, refl, sym, ◌∙◌}
use borrow.Author.Rules.{rules}
use Rattle.find_axioms.proofs.overwritten.over_reader.Goals as goal

pub loop-y-init : goal.loop-y-init
loop-y-init c = (search rules, least_none _)

pub returns-then-is_some : goal.returns-then-is_some
unfolding over_reader decode
returns-then-is_some c =
    let hit = finds_some _ _ _ c.over_writer.ensures (sym c.is_some.ensures ∙ c.if-is_some.true) in
    (c.loop-y-test.true, sym (least_found _ _ _ c.loop-y.invariant.1 ((overwritten_is _ _ _ _ _ refl refl).0 hit) c.loop-y-test.true))

pub loop-y-preserved : goal.loop-y-preserved
unfolding decode
loop-y-preserved c =
    let none = finds_none _ _ _ c.over_writer.ensures (sym c.is_some.ensures ∙ c.if-is_some.false) in
    (search rules, least_more _ _ c.loop-y.invariant.1 ((overwritten_is _ _ _ _ _ refl refl).1 (omega arith)))

pub returns : goal.returns
unfolding over_reader decode
returns c = let e : c.loop-y.y ≡ c.args.t.now.rows = omega arith in rw e at c.loop-y.invariant.1
