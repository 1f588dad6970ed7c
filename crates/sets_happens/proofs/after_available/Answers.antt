use mathlib.Core.Path.{sym, ◌∙◌}
use Rattle.sets_grids.specs.Filling.{member_in}
use Rattle.sets_of_rows.specs.Rows.{rows_in_lem}
use Rattle.sets_happens.specs.Program.{behind_plain, behind_other, plain_set}
use Rattle.sets_happens.proofs.after_available.Goals as goal

pub returns-then-has : goal.returns-then-has
returns-then-has c =
    behind_plain _ _ (member_in _ (plain_set c.requires.1 c.rows.ensures) (sym c.has.ensures ∙ c.if-has.true)).1 c.after.ensures

pub returns : goal.returns
returns c =
    behind_other _ _ (sym (rows_in_lem (plain_set c.requires.1 c.rows.ensures) _ c.requires.0) ∙ sym c.has.ensures ∙ c.if-has.false) c.onward.ensures
