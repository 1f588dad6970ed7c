use mathlib.Core.Path.{refl}
use Rattle.model.specs.Availability.{same_reference}
use Rattle.run_rows.proofs.pairs.same_reference.Goals as goal

pub returns : goal.returns
unfolding same_reference
returns c = refl
