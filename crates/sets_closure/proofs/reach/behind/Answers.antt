use mathlib.Core.Path.{ap₂, ◌∙◌}
use mathlib.Core.Bool.{Bool, not}
use Rattle.finite.specs.Logic.{◌and◌, ◌or◌}
use Rattle.sets_of_rows.specs.declared.Set.{Set}
use Rattle.sets_of_rows.specs.Member.{in_set}
use Rattle.sets_closure.proofs.reach.behind.Goals as goal

pub returns : goal.returns
returns c =
    λ y. c.bitor.ensures y ∙ ap₂ ◌or◌ (c.bit.ensures y)
    (c.only_if.ensures y ∙ ap₂ (λ (b : Bool) (s : Set). not b and in_set s y) c.has.ensures c.get.ensures)
