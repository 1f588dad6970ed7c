use native.Mathlib.Omega.{arith}
use Rattle.flags_order.specs.System.{past_first, past_second, added_put}
use Rattle.flags_order.proofs.steps.put_dependency.Goals as goal

pub returns-then-t-x : goal.returns-then-t-x
returns-then-t-x c = past_first _ _ _ _ _ _ c.first_of-x.ensures c.second_of-y.ensures c.if-t-x.true

pub returns-then-t-y : goal.returns-then-t-y
returns-then-t-y c = past_second _ _ _ _ _ _ c.first_of-x.ensures c.second_of-y.ensures c.if-t-y.true

pub returns : goal.returns
returns c =
    added_put _ _ _ _ _ _ c.first_of-x.ensures c.second_of-y.ensures _ _ c.requires.0 c.requires.1 (omega arith)
    (omega arith) (omega arith) c.put.ensures
