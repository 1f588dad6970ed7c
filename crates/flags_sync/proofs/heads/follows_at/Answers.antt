use mathlib.Core.Path.{◌∙◌}
use native.Mathlib.Omega.{arith}
use Rattle.finite.specs.Logic.{◌and◌}
use Rattle.model.specs.Scope.{follows}
use Rattle.model.specs.Table.{decode}
use Rattle.bits.specs.Stage.{holds_bit}
use Rattle.flags_sync.proofs.heads.follows_at.Goals as goal

pub returns : goal.returns
unfolding follows decode ◌and◌
returns c =
    let f = c.get-b.ensures ∙ holds_bit c.requires.2 _ c.args.i c.args.j (omega arith) (omega arith) (omega arith) in
    cc
