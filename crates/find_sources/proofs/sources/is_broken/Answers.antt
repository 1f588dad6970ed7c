use Rattle.find_sources.specs.Sources.{broken_told}
use Rattle.finite.specs.Logic.{◌and◌}
use Rattle.find_sources.proofs.sources.is_broken.Goals as goal

pub returns : goal.returns
unfolding ◌and◌
returns c = broken_told _ _ _ _ _ _ _ _ _ _ c.from-own.ensures c.row-r.ensures c.reads.ensures (rw c.row_bytes.ensures at c.source_fits.ensures)
