use mathlib.Core.Path.{refl}
use borrow.Author.Tests.{le-leb, lt-leb}
use Rattle.door_pieces.specs.Pieces.{count_both}
use Rattle.door_pieces.proofs.count_both.Goals as goal

pub returns-then-n-gt-ROWS : goal.returns-then-n-gt-ROWS
unfolding count_both
returns-then-n-gt-ROWS c = rw (← c.rows_both-n.ensures, lt-leb _ _ c.if-n-gt-ROWS.true) refl

pub returns : goal.returns
unfolding count_both
returns c = rw (← c.rows_both-n.ensures, le-leb _ _ c.if-n-gt-ROWS.false) refl
