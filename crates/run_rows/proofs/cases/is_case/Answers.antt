-- `is_case` meets its contract: a number is one of the three, or none. Assumes nothing.
use Rattle.finite.specs.Logic.{◌and◌}
use Rattle.run_rows.specs.Cases.{told_one, told_two, told_three, told_none}
use Rattle.run_rows.proofs.cases.is_case.Goals as goal

pub returns-then-case-eq1 : goal.returns-then-case-eq1
unfolding ◌and◌
returns-then-case-eq1 c = told_one _ _ _ _ _ _ _ _ c.if-case-eq1.true c.holding_of.ensures c.holding_of-then-case-eq1.ensures

pub returns-then-case-eq2 : goal.returns-then-case-eq2
unfolding ◌and◌
returns-then-case-eq2 c = told_two _ _ _ _ _ _ _ _ c.if-case-eq2.true c.holding_of-then-case-eq2.ensures
    c.releases.ensures c.concerns_of.ensures

pub returns-then-case-eq3 : goal.returns-then-case-eq3
unfolding ◌and◌
returns-then-case-eq3 c = told_three _ _ _ _ _ _ _ _ c.if-case-eq3.true c.holding_of-then-case-eq3.ensures
    c.acquires.ensures c.concerns_of-then-case-eq3.ensures

pub returns : goal.returns
returns c = told_none _ _ _ _ _ _ _ _ c.if-case-eq1.false c.if-case-eq2.false c.if-case-eq3.false
