use native.Mathlib.Omega.{arith}
use Rattle.model.specs.Table.{decode}
use Rattle.sets_grids.specs.Given.{given_few}
use Rattle.sets_grids.specs.Location.{judged}
use Rattle.find_sources.specs.Choice.{unwritten, found}
use Rattle.sets_choice.specs.Choosing.{written_some}
use Rattle.sets_choice.proofs.choice_of.Goals as goal

pub returns-then-not-has_any : goal.returns-then-not-has_any
returns-then-not-has_any c =
    let pre = c.requires in
    let w = written_some _ _ _ pre.1.given.opened.rows (given_few pre.1.given) c.writers_before-writers.ensures c.has_any.ensures in
    unwritten _ _ _ w c.if-not-has_any.true

pub first_candidate-requires : goal.first_candidate-requires
unfolding decode
first_candidate-requires c =
    let pre = c.requires in
    record { judged = judged pre.1; reader = pre.0; earlier = c.writers_before-writers.ensures }

pub overflow_cast-result : goal.overflow_cast-result
overflow_cast-result c =
    omega (arith, c.first_candidate.ensures.1, given_few c.requires.1.given)

pub returns : goal.returns
unfolding decode
returns c =
    let pre = c.requires in
    let w = written_some _ _ _ pre.1.given.opened.rows (given_few pre.1.given) c.writers_before-writers.ensures c.has_any.ensures in
    found _ _ _ w c.if-not-has_any.false _ c.first_candidate.ensures.0
