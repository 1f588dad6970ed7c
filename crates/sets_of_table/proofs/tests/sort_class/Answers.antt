use mathlib.Core.Path.{◌≡◌, ap, ◌∙◌}
use Prim.Native.Nat.{◌+◌, ◌*◌}
use native.Mathlib.Omega.{arith}
use Rattle.sets_of_rows.specs.Kept.{set_at}
use Rattle.sets_of_table.specs.Sorted.{class_sorted}
use borrow.Author.Rules.{rules}
use Rattle.sets_of_table.proofs.tests.sort_class.Goals as goal

pub returns : goal.returns
returns c =
    let q = c.args.q in
    let e : 168 + 2 * q ≡ 0 + 2 * (84 + q) = omega arith in
    class_sorted _ (search rules) _ _ _ _ c.holding-a.ensures c.get.ensures (c.get-2.ensures ∙ ap (set_at _) e) c.bitand-b.ensures c.put.ensures c.put-2.ensures
