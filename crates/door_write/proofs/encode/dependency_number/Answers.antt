use Rattle.door_write.proofs.Laws.{number_count, number_first, number_second}
use mathlib.Core.Path.{sym}
use Rattle.door_write.proofs.encode.dependency_number.Goals as goal

pub returns-then-k-lt2 : goal.returns-then-k-lt2
returns-then-k-lt2 c = sym (number_count _ _ c.if-k-lt2.true)

pub returns-then-k-lt2-2 : goal.returns-then-k-lt2-2
returns-then-k-lt2-2 c = sym (number_first _ _ c.if-k-lt2.false c.if-k-lt2-2.true)

pub returns : goal.returns
returns c = sym (number_second _ _ c.if-k-lt2.false c.if-k-lt2-2.false)
