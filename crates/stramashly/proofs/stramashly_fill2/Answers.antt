use mathlib.Core.Path.{ap₂, ◌∙◌}
use Rattle.stramashly.specs.Packed.{pack_fill}
use Rattle.stramashly.proofs.stramashly_fill2.Goals as goal

pub returns : goal.returns
returns c =
    let filled = c.fill_both-answer.ensures in
    (c.pack_fill.ensures ∙ ap₂ pack_fill filled.0.0 c.count_both.ensures, filled.0.1, filled.0.2, filled.1, filled.2)
