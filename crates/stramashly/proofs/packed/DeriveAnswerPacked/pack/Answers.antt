use mathlib.Core.Path.{sym, ap, ◌∙◌}
use Rattle.stramashly.specs.Packed.{derive_number}
use Rattle.stramashly.proofs.packed.DeriveAnswerPacked.pack.Goals as goal

pub returns-in-ProgramOrder : goal.returns-in-ProgramOrder
unfolding derive_number
returns-in-ProgramOrder c = c.pack.ensures ∙ sym (ap derive_number c.in-ProgramOrder.is)

pub returns-in-Chain : goal.returns-in-Chain
unfolding derive_number
returns-in-Chain c = c.pack-in-Chain.ensures ∙ sym (ap derive_number c.in-Chain.is)

pub returns-in-NotBefore : goal.returns-in-NotBefore
unfolding derive_number
returns-in-NotBefore c = c.pack-in-NotBefore.ensures ∙ sym (ap derive_number c.in-NotBefore.is)
