use mathlib.Core.Path.{◌≡◌, sym, ap, ◌∙◌}
use Prim.Native.Nat.{suc}
use native.Mathlib.Numerals.{add-one}
use native.Mathlib.Omega.{arith}
use Rattle.finite.specs.Below.{least_none, least_more, least_found}
use Rattle.model.specs.Happens.{ROW_CASES}
use Rattle.run_rows.specs.Cases.{nth_case_rows}
use Rattle.ask_derive.specs.Cases.{lowest_rows}
use borrow.Author.Rules.{rules}
use Rattle.ask_derive.proofs.chains.case_of.Goals as goal

pub loop-k-init : goal.loop-k-init
loop-k-init c = (search rules, least_none _)

pub returns-then-is_case : goal.returns-then-is_case
unfolding lowest_rows nth_case_rows
returns-then-is_case c =
    add-one _
    ∙ ap suc (sym (least_found _ _ _ c.loop-k.invariant.1
    (rw add-one at (sym c.is_case.ensures ∙ c.if-is_case.true)) c.loop-k-test.true))

pub loop-k-preserved : goal.loop-k-preserved
unfolding nth_case_rows
loop-k-preserved c =
    (search rules, least_more _ _ c.loop-k.invariant.1 (rw add-one at (sym c.is_case.ensures ∙ c.if-is_case.false)))

pub returns : goal.returns
unfolding lowest_rows
returns c =
    let e : c.loop-k.k ≡ ROW_CASES = omega arith in
    ap suc (sym (rw e at c.loop-k.invariant.1))
