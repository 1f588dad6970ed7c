use mathlib.Core.Path.{ap, ◌∙◌}
use mathlib.Core.Bool.{Bool, not}
use Rattle.finite.specs.Logic.{◌and◌}
use Rattle.sets_of_rows.specs.declared.Set.{Set}
use Rattle.sets_of_rows.specs.Member.{in_set}
use Rattle.sets_closure.proofs.reach.ahead.Goals as goal

pub returns : goal.returns
returns c =
    let a = c.args in
    λ y. c.sub.ensures y ∙ ap (λ (b : Bool). b and not (in_set a.seen y)) (c.bitand.ensures y ∙ ap (λ (s : Set). in_set s y and in_set a.nodes y) c.get.ensures)
