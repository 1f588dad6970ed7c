use Rattle.model.specs.Synchronizes.{sync_atomics}
use Rattle.model.specs.Table.{decode}
use Rattle.finite.specs.Logic.{◌and◌}
use Rattle.flags_sync.proofs.sync.sync_atomics.Goals as goal

pub returns : goal.returns
unfolding sync_atomics decode ◌and◌
returns c = cc
