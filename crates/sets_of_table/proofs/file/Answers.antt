use mathlib.Core.Path.{◌≡◌, refl, sym, subst, ◌∙◌}
use Prim.Native.Nat.{◌*◌}
use native.Mathlib.Omega.{arith}
use Rattle.bits.specs.Within.{within_refl, within_trans, within_cleared}
use Rattle.sets_of_table.specs.Filed.{FILED, Coded, filed_clear, filed_more}
use borrow.Author.Rules.{rules}
use Rattle.sets_of_table.proofs.file.Goals as goal

pub loop-i-init : goal.loop-i-init
loop-i-init c = (search rules, refl, filed_clear _ _ _ (search rules) c.clear.ensures, within_refl _ _ _)

pub file_row-requires : goal.file_row-requires
file_row-requires c =
    let pre = c.requires in
    (search rules, search rules, subst Coded (sym c.row-r.ensures) (pre.2.each _ (search rules)))

pub loop-i-preserved : goal.loop-i-preserved
loop-i-preserved c =
    let inv = c.loop-i.invariant in
    let f = c.file_row.ensures in
    (search rules, f.frame.len ∙ inv.1, filed_more _ _ _ _ _ c.row-r.ensures inv.2 f, within_trans inv.3 f.frame)

pub returns : goal.returns
returns c =
    let inv = c.loop-i.invariant in
    let e : c.loop-i.i ≡ c.args.t.now.rows = omega arith in
    record {
      sets = rw e at inv.2;
      frame = within_trans (within_cleared 0 (2 * FILED) (omega arith) c.clear.ensures) inv.3;
    }
