use borrow.Author.Tests.{eq-eqb, ne_eqb}
use Rattle.stramashly.specs.Packed.{reason_of}
use Rattle.stramashly.proofs.reason_of.Goals as goal

pub returns-then-classes-eq-PROGRAM_ORDER : goal.returns-then-classes-eq-PROGRAM_ORDER
unfolding reason_of
returns-then-classes-eq-PROGRAM_ORDER c = simp (eq-eqb _ _ c.if-classes-eq-PROGRAM_ORDER.true)

pub returns : goal.returns
unfolding reason_of
returns c = simp (ne_eqb _ _ c.if-classes-eq-PROGRAM_ORDER.false)
