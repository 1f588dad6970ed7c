use mathlib.Core.Path.{refl}
use Rattle.sets_of_table.specs.Number.{Grown}
use native.Mathlib.Omega.{arith}
use Rattle.sets_of_table.proofs.number.grow.Goals as goal

pub returns-then-f-l : goal.returns-then-f-l
unfolding Grown
returns-then-f-l c = ((λ h. refl, λ h. absurd (omega arith)), omega arith)

pub returns-else-f-l : goal.returns-else-f-l
unfolding Grown
returns-else-f-l c = ((λ h. absurd (omega arith), λ h. refl), omega arith)
