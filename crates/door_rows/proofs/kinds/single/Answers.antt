use Rattle.std.proofs.Common.{eq-eqb, ne_eqb}
use Rattle.model.specs.Row.{single}
use Rattle.door_rows.proofs.kinds.single.Goals as goal

pub returns-then-class-eq0 : goal.returns-then-class-eq0
unfolding single
returns-then-class-eq0 c = simp (eq-eqb _ _ c.if-class-eq0.true)

pub returns-then-class-eq1 : goal.returns-then-class-eq1
unfolding single
returns-then-class-eq1 c = simp (ne_eqb _ _ c.if-class-eq0.false, eq-eqb _ _ c.if-class-eq1.true)

pub returns-then-class-eq2 : goal.returns-then-class-eq2
unfolding single
returns-then-class-eq2 c = simp (ne_eqb _ _ c.if-class-eq0.false, ne_eqb _ _ c.if-class-eq1.false, eq-eqb _ _ c.if-class-eq2.true)

pub returns : goal.returns
unfolding single
returns c = simp (ne_eqb _ _ c.if-class-eq0.false, ne_eqb _ _ c.if-class-eq1.false, ne_eqb _ _ c.if-class-eq2.false)
