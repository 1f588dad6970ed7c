-- `step_number` meets its contract: the bit that is read is synchronizes-with. Assumes nothing.
use native.Mathlib.Omega.{arith}
use Rattle.ask_derive.specs.Cases.{number_is}
use Rattle.ask_derive.proofs.chains.step_number.Goals as goal

pub returns : goal.returns
returns c =
    number_is _ _ _ _ _ _ _ _ _ _ _ c.requires.2 c.requires.0.first c.requires.0.second (omega arith) c.get-b.ensures c.case_at-d.ensures.1
