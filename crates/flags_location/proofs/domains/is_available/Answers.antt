use Rattle.flags_location.specs.Domains.{is_available}
use Rattle.finite.specs.Logic.{◌or◌}
use mathlib.Core.Path.{refl}
use Rattle.flags_location.proofs.domains.is_available.Goals as goal

pub returns : goal.returns
unfolding is_available ◌or◌
returns c = refl
