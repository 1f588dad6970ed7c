use mathlib.Core.Path.{◌≡◌, refl, sym, ap, ◌∙◌}
use mathlib.Core.List.{List}
use Prim.Native.Nat.{ℕ}
use native.Mathlib.Omega.{arith}
use lib.ListN.{get_or, length-set}
use Rattle.finite.specs.Lists.{written_none, written_more}
use Rattle.work_walks.specs.Layers.{next_to}
use Rattle.work_walks.specs.Left.{along_first, left_none, left_more}
use borrow.Author.Rules.{rules}
use Rattle.find_cycle.proofs.write_rows.Goals as goal

pub loop-i-init : goal.loop-i-init
loop-i-init c =
    (search rules, c.requires.1.row, refl, written_none _ _, left_none _ _ _ _ _ c.requires.1.leads)

pub loop-i-preserved : goal.loop-i-preserved
loop-i-preserved c =
    let inv = c.loop-i.invariant in
    let less = c.loop-i-test.true in
    let more = left_more _ _ _ _ _ _ _ _ less inv.4 (c.next-z.ensures ∙ next_to c.requires.1.made _ _ (omega arith)) in
    let row = sym (ap (λ (l : List ℕ). get_or l c.loop-i.i 0) (along_first _ _)) ∙ more.1 (λ a b. a) in
    (search rules, more.0, simp length-set inv.2, written_more _ _ (search rules) row inv.3, more.2)

pub returns : goal.returns
returns c =
    let e : c.loop-i.i ≡ c.args.size = omega arith in
    rw e at c.loop-i.invariant.3
