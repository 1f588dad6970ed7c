use mathlib.Core.Path.{sym}
use native.Mathlib.Nat.{le_of_eq}
use lib.ListN.{drop, length-drop, drop_of_length-le}
use lib.Seq.{take_all}
use Rattle.run.proofs.part.Goals as goal

pub returns-then-s-at : goal.returns-then-s-at
returns-then-s-at c = sym (drop_of_length-le c.args.s.now c.if-s-at.true)

pub returns : goal.returns
returns c = take_all _ (drop c.args.at c.args.s.now) (le_of_eq (length-drop c.args.at c.args.s.now))
