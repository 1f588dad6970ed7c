use Rattle.find_race.specs.Bytes.{before_low, before_high, before_bit}
use Rattle.model.specs.Table.{decode}
use native.Mathlib.Omega.{arith}
use mathlib.Core.Path.{◌∙◌}
use borrow.Author.Rules.{rules}
use Rattle.find_race.proofs.before_byte.Goals as goal

pub returns-then-b-start : goal.returns-then-b-start
unfolding decode
returns-then-b-start c =
    before_low _ _ _ _ _ c.requires.2.2 c.requires.0 c.start-start.ensures c.if-b-start.true

pub returns-then-k-ge-PAIR : goal.returns-then-k-ge-PAIR
unfolding decode
returns-then-k-ge-PAIR c =
    before_high _ _ _ _ _ c.requires.2.2 c.requires.0 c.start-start.ensures c.if-k-ge-PAIR.true

pub returns : goal.returns
unfolding decode
returns c =
    c.get.ensures ∙ before_bit _ _ _ _ _ _ _ _ c.requires.2.3 c.requires.0 c.requires.1 c.start-start.ensures
    (search rules) (search rules) (omega arith)
