use mathlib.Core.Path.{refl}
use Rattle.sets_of_rows.specs.Kept.{set_at}
use Rattle.sets_of_rows.proofs.kept.get.Goals as goal

pub returns : goal.returns
unfolding set_at
returns c = refl
