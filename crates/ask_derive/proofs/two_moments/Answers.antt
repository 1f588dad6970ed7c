-- `two_moments` meets its contract: it is the test itself. Assumes nothing.
use Rattle.finite.specs.Logic.{◌and◌}
use Rattle.ask_derive.specs.Whole.{two_is}
use Rattle.ask_derive.proofs.two_moments.Goals as goal

pub returns : goal.returns
unfolding ◌and◌
returns c = rw (two_is _ _ _ _ _ _) cc
