use Rattle.model.specs.Synchronizes.{continues}
use Rattle.run_rows.proofs.sequences.is_continued.Goals as goal

pub returns : goal.returns
unfolding continues
returns c = cc
