use Rattle.finite.specs.Logic.{◌and◌}
use Rattle.model.specs.Table.{decode}
use Rattle.model.specs.TableFault.{writer_fits}
use Rattle.door_admit.proofs.table_faults.is_writer_of.Goals as goal

pub returns : goal.returns
unfolding writer_fits decode ◌and◌
returns c = cc
