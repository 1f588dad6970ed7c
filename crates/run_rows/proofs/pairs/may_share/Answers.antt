use mathlib.Core.Path.{refl}
use Rattle.finite.specs.Logic.{◌and◌}
use Rattle.run_rows.specs.Shared.{may_share}
use Rattle.run_rows.proofs.pairs.may_share.Goals as goal

pub returns : goal.returns
unfolding may_share ◌and◌
returns c = refl
