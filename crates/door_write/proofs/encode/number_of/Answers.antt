use Rattle.door_write.specs.Encode.{number_of}
use Rattle.door_write.proofs.Laws.{number_past}
use mathlib.Core.Path.{refl, sym}
use borrow.Author.Rules.{rules}
use Rattle.door_write.proofs.encode.number_of.Goals as goal

pub returns-then-a-lt-AGENTS : goal.returns-then-a-lt-AGENTS
unfolding number_of
returns-then-a-lt-AGENTS c = refl

pub returns-else-a-lt-AGENTS : goal.returns-else-a-lt-AGENTS
returns-else-a-lt-AGENTS c = sym (number_past _ _ _ (search rules))
