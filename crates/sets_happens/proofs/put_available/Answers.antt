use mathlib.Core.Path.{◌∙◌}
use Rattle.sets_grids.specs.Given.{given_few}
use Rattle.sets_happens.specs.Program.{puts_three, to_visible_lem, to_available_lem, visible_set, available_set}
use native.Mathlib.Omega.{arith}
use Rattle.sets_happens.proofs.put_available.Goals as goal

pub rows-requires-2 : goal.rows-requires-2
rows-requires-2 c =
    let a = c.requires.1.opened.space in omega arith

pub put-requires-3 : goal.put-requires-3
put-requires-3 c =
    let a = c.requires.1.room in let b = given_few c.requires.1 in let d = c.put.ensures.frame.len in let e = c.put-2.ensures.frame.len in omega (arith, c.requires.0)

pub shape_of-w : goal.shape_of-w
shape_of-w c =
    c.put-3.ensures.frame.len ∙ c.put-2.ensures.frame.len ∙ c.put.ensures.frame.len

pub returns : goal.returns
returns c =
    let o = c.requires.1.opened in
    let b = given_few c.requires.1 in
    puts_three _ _ _ (omega (arith, c.requires.0)) c.after_available-from.ensures (to_visible_lem _ _ c.after_available-from.ensures (visible_set o c.rows.ensures) c.bitand-visible.ensures)
    (to_available_lem _ _ c.after-after.ensures (available_set o c.rows-2.ensures) c.bitand-available.ensures) c.put.ensures c.put-2.ensures c.put-3.ensures
