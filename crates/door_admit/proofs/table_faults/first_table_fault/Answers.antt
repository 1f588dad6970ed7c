use mathlib.Core.Path.{◌≡◌, refl, sym}
use native.Mathlib.Omega.{arith}
use Rattle.finite.specs.Below.{least_none, least_more, least_found}
use Rattle.door_admit.proofs.Laws.{fault_counts, fault_here, fault_none, refused_here, refused_none, classes_clear}
use borrow.Author.Rules.{rules}
use Rattle.door_admit.proofs.table_faults.first_table_fault.Goals as goal

pub loop-i-init : goal.loop-i-init
loop-i-init c = (search rules, least_none _)

pub table_fault-requires : goal.table_fault-requires
table_fault-requires c = classes_clear _ _ _ _ _ _ _ (sym c.loop-i.invariant.1)

pub returns-in-Err : goal.returns-in-Err
returns-in-Err c =
    let here = fault_here _ _ _ c.in-Err.ensures (fault_counts _) in
    let first = least_found _ _ _ c.loop-i.invariant.1 here c.loop-i-test.true in
    rw (c.at.ensures, c.in-Err.ensures) (sym (refused_here _ _ _ first c.loop-i-test.true))

pub loop-i-preserved : goal.loop-i-preserved
loop-i-preserved c = (search rules, least_more _ _ c.loop-i.invariant.1 (fault_none _ _ _ c.in_default.ensures refl))

pub returns : goal.returns
returns c =
    let done : c.loop-i.i ≡ c.args.n = omega arith in
    sym (refused_none _ _ (rw done at c.loop-i.invariant.1))
