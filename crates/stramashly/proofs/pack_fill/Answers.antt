use mathlib.Core.Path.{sym, ap, ◌∙◌}
use Rattle.stramashly.specs.Packed.{fill_number, pack_result, pack_fill}
use Rattle.stramashly.proofs.pack_fill.Goals as goal

pub returns-in-Ok : goal.returns-in-Ok
unfolding pack_fill pack_result
returns-in-Ok c = c.pack.ensures ∙ sym (ap (pack_result (fill_number c.args.rows)) c.in-Ok.is)

pub returns-in-Err : goal.returns-in-Err
unfolding pack_fill pack_result
returns-in-Err c = c.pack-in-Err.ensures ∙ sym (ap (pack_result (fill_number c.args.rows)) c.in-Err.is)
