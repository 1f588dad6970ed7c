use mathlib.Core.Path.{sym, ◌∙◌}
use native.Mathlib.Omega.{arith}
use Rattle.finite.specs.Logic.{not_out}
use Rattle.model.specs.Table.{decode}
use Rattle.sets_of_rows.specs.Rows.{rows_at, rows_in_lem}
use Rattle.sets_of_table.specs.Known.{says_rows}
use Rattle.sets_of_table.specs.Ask.{few, there}
use Rattle.sets_sync.specs.Sync.{carried_own, carried_after}
use mathlib.Core.Path.{ap}
use mathlib.Core.Bool.{not}
use Rattle.sets_sync.proofs.carried.Goals as goal

pub rows-requires : goal.rows-requires
rows-requires c = let a = c.requires.1.opened.space in omega arith

pub has-requires : goal.has-requires
has-requires c = let b = few c.requires.1.opened in omega (arith, c.requires.0)

pub get-requires : goal.get-requires
get-requires c =
    let b = few c.requires.1.opened in let r = c.requires.1.room in omega (arith, c.requires.0)

pub returns-then-not-has : goal.returns-then-not-has
unfolding decode
returns-then-not-has c =
    let pre = c.requires in
    let o = pre.1.opened in
    let e = c.has.ensures ∙ rows_in_lem (rows_at c.rows.ensures (says_rows o.known.tested.kinds.barrier)) _ pre.0 in
    carried_own _ _ _ pre.0 (sym e ∙ not_out _ (ap not c.if-not-has.true)) pre.2 c.get.ensures

pub classes-requires : goal.classes-requires
classes-requires c =
    let b = few c.requires.1.opened in omega (arith, c.requires.0)

pub of_classes-classes-requires : goal.of_classes-classes-requires
unfolding decode
of_classes-classes-requires c =
    let pre = c.requires in
    let o = pre.1.opened in
    let k = (o.fit.coded _ (there o _ pre.0)).classes in
    let e = c.classes.ensures in
    (omega arith, o)

pub after-requires : goal.after-requires
after-requires c =
    (c.requires.0, c.requires.1.opened)

pub rows-requires-2 : goal.rows-requires-2
rows-requires-2 c =
    let a = c.requires.1.opened.space in omega arith

pub union-requires : goal.union-requires
union-requires c =
    let r = c.requires.1.room in omega arith

pub returns : goal.returns
unfolding decode
returns c =
    let pre = c.requires in
    let o = pre.1.opened in
    let e = c.has.ensures ∙ rows_in_lem (rows_at c.rows.ensures (says_rows o.known.tested.kinds.barrier)) _ pre.0 in
    let m = c.of_classes-classes.ensures in
    carried_after o pre.2 _ _ _ _ _ _ _ (sym e ∙ c.if-not-has.false) c.after.ensures c.rows-2.ensures c.bitand-writers.ensures (rw c.classes.ensures at m) c.bitand.ensures c.union.ensures
