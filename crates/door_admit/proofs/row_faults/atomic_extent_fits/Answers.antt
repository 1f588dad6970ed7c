use mathlib.Core.Path.{refl}
use Rattle.finite.specs.Logic.{◌and◌, ◌or◌}
use Rattle.model.specs.RowFault.{atomic_extent_fits}
use Rattle.door_admit.proofs.row_faults.atomic_extent_fits.Goals as goal

pub returns : goal.returns
unfolding atomic_extent_fits ◌and◌ ◌or◌
returns c = refl
