use mathlib.Core.Path.{sym}
use native.Mathlib.Omega.{arith}
use Rattle.finite.specs.Below.{any_not}
use Rattle.door_admit.proofs.Laws.{class_more, class_found}
use borrow.Author.Rules.{rules}
use Rattle.door_admit.proofs.table_faults.any_other_class.Goals as goal

pub loop-j-init : goal.loop-j-init
loop-j-init c = (search rules, λ k l m. absurd (omega arith))

pub returns-then-is_of_reference : goal.returns-then-is_of_reference
returns-then-is_of_reference c =
    class_found _ _ _ _ _ _ c.requires.0 c.is_of_reference.ensures c.if-is_of_reference.true c.read_class.ensures (omega arith)
    c.requires.1
    c.loop-j.invariant.1

pub loop-j-preserved : goal.loop-j-preserved
loop-j-preserved c =
    (search rules, class_more _ _ _ _ _ c.requires.0 c.is_of_reference.ensures c.if-is_of_reference.false c.loop-j.invariant.1)

pub returns : goal.returns
returns c = sym (any_not _ _ (λ k l. c.loop-j.invariant.1 k (omega arith) l))
