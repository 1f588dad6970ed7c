use mathlib.Core.Path.{ap, ◌∙◌}
use Rattle.stramashly.specs.Packed.{pack_result, write_number, pack_write}
use Rattle.stramashly.proofs.Laws.{mapped}
use Rattle.stramashly.proofs.stramashly_write.Goals as goal

pub returns : goal.returns
unfolding pack_write
returns c =
    let told = c.write_parts-answer.ensures in
    let number = mapped write_number _ _ (λ a b e. ap write_number e) _ _ c.map.ensures.cases in
    (c.pack.ensures ∙ number ∙ ap (pack_result write_number) told.0, told.1)
