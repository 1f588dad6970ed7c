use mathlib.Core.Path.{sym, ap, ◌∙◌}
use Rattle.stramashly.specs.Packed.{fill_number}
use Rattle.stramashly.proofs.packed.FillOfPacked.pack.Goals as goal

pub returns-in-Race : goal.returns-in-Race
unfolding fill_number
returns-in-Race c = c.pack.ensures ∙ sym (ap (fill_number c.args.self.rows) c.in-Race.is)

pub returns-in-None : goal.returns-in-None
unfolding fill_number
returns-in-None c = c.pack-in-None.ensures ∙ sym (ap (fill_number c.args.self.rows) c.in-None.is)

pub returns-in-Filled : goal.returns-in-Filled
unfolding fill_number
returns-in-Filled c = c.pack-in-Filled.ensures ∙ sym (ap (fill_number c.args.self.rows) c.in-Filled.is)
