-- `may_loop` meets its contract. Assumes nothing.
use mathlib.Core.Path.{refl}
use Rattle.find_cycle.proofs.Marking.{asked_on, asked_rest}
use Rattle.find_cycle.proofs.marks.may_loop.Goals as goal

pub returns-then-first_both-x : goal.returns-then-first_both-x
returns-then-first_both-x c = asked_on _ _

pub returns : goal.returns
returns c =
    let at = c.at-at.ensures in
    asked_rest _ _ _ _ _ (rw at at c.first_both.ensures) c.if-first_both-x.false (rw at at c.first_both-2.ensures) refl
