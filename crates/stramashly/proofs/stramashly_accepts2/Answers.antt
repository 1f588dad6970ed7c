use mathlib.Core.Path.{ap, ◌∙◌}
use Rattle.stramashly.specs.Packed.{accept_number, pack_accept}
use Rattle.stramashly.proofs.Laws.{mapped}
use Rattle.stramashly.proofs.stramashly_accepts2.Goals as goal

pub returns : goal.returns
unfolding pack_accept
returns c =
    let number = mapped accept_number _ _ (λ a b e. ap accept_number e) _ _ c.map.ensures.cases in
    rw (← c.reason_of.ensures) (c.pack.ensures ∙ number ∙ ap pack_accept c.accepts_both-answer.ensures)
