use mathlib.Core.Path.{sym, ◌∙◌}
use Rattle.model.specs.Table.{decode}
use Rattle.sets_of_rows.specs.Rows.{rows_in_lem}
use Rattle.sets_of_table.specs.Ask.{few}
use Rattle.sets_control.specs.Passed.{control_rows, member_low, passes_rows, passes_none}
use native.Mathlib.Omega.{arith}
use Rattle.sets_control.proofs.passes_to.Goals as goal

pub get-requires : goal.get-requires
get-requires c = let a = c.requires.1.space in omega arith

pub has-requires : goal.has-requires
has-requires c = let a = few c.requires.1 in omega (arith, c.requires.0)

pub joining-requires : goal.joining-requires
unfolding decode
joining-requires c = (c.requires.0, sym (rows_in_lem (control_rows c.requires.1 c.get.ensures) _ c.requires.0) ∙ sym c.has.ensures ∙ c.if-has.true, c.requires.1)

pub arrivals-requires : goal.arrivals-requires
arrivals-requires c =
    (member_low c.joining.ensures, c.requires.1)

pub returns-then-has : goal.returns-then-has
returns-then-has c =
    passes_rows c.requires.1 _ _ _ (sym (rows_in_lem (control_rows c.requires.1 c.get.ensures) _ c.requires.0) ∙ sym c.has.ensures ∙ c.if-has.true) c.joining.ensures c.arrivals.ensures

pub returns : goal.returns
returns c =
    passes_none _ _ _ (sym (rows_in_lem (control_rows c.requires.1 c.get.ensures) _ c.requires.0) ∙ sym c.has.ensures ∙ c.if-has.false) c.none.ensures
