use Rattle.flags_location.specs.Domains.{out_of}
use borrow.Author.Tests.{eq-eqb, ne_eqb}
use Rattle.flags_location.proofs.domains.out_of.Goals as goal

pub returns-then-kind-eq-AVAILABLE_HOST : goal.returns-then-kind-eq-AVAILABLE_HOST
unfolding out_of
returns-then-kind-eq-AVAILABLE_HOST c = simp (eq-eqb _ _ c.if-kind-eq-AVAILABLE_HOST.true)

pub returns-else-kind-eq-AVAILABLE_HOST : goal.returns-else-kind-eq-AVAILABLE_HOST
unfolding out_of
returns-else-kind-eq-AVAILABLE_HOST c = simp (ne_eqb _ _ c.if-kind-eq-AVAILABLE_HOST.false)
