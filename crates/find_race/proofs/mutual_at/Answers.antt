use Rattle.bits.specs.Stage.{holds_bit}
use native.Mathlib.Omega.{arith}
use mathlib.Core.Path.{◌∙◌}
use Rattle.find_race.proofs.mutual_at.Goals as goal

pub returns : goal.returns
returns c =
    c.get.ensures ∙ holds_bit c.requires.2.3.mutuals _ _ _ (omega arith) c.requires.0 c.requires.1
