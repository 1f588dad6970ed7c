use mathlib.Core.Path.{sym, ap, ◌∙◌}
use Rattle.stramashly.specs.Packed.{pack_result}
use Rattle.stramashly.proofs.packed.ResultRefusalPacked.pack.Goals as goal

pub returns-in-Ok : goal.returns-in-Ok
unfolding pack_result
returns-in-Ok g c = c.pack.ensures ∙ sym (ap (pack_result g.T.Packed.packed_as) c.in-Ok.is)

pub returns-in-Err : goal.returns-in-Err
unfolding pack_result
returns-in-Err g c = c.pack-in-Err.ensures ∙ sym (ap (pack_result g.T.Packed.packed_as) c.in-Err.is)
