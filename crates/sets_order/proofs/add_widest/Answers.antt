use mathlib.Core.Path.{sym, ◌∙◌}
use Rattle.sets_order.specs.Inter.{widest_off, widest_on}
use Rattle.sets_order.proofs.add_widest.Goals as goal

pub is_widest-requires : goal.is_widest-requires
is_widest-requires c = (c.requires.0, c.requires.1.given.opened)

pub returns-then-not-is_widest : goal.returns-then-not-is_widest
returns-then-not-is_widest c = widest_off c.requires.1.given.opened.rows (sym c.is_widest.ensures ∙ c.if-not-is_widest.true)

pub add_inter_thread-requires : goal.add_inter_thread-requires
add_inter_thread-requires c =
    c.requires

pub shape_of-w : goal.shape_of-w
shape_of-w c = c.add_inter_thread.ensures.frame.len

pub returns : goal.returns
returns c =
    widest_on c.requires.1.given.opened.rows (sym c.is_widest.ensures ∙ c.if-not-is_widest.false) c.add_inter_thread.ensures
