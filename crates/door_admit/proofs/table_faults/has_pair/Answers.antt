use native.Mathlib.Omega.{arith}
use Rattle.door_admit.proofs.Laws.{pair_last, pair_first}
use borrow.Author.Rules.{rules}
use Rattle.door_admit.proofs.table_faults.has_pair.Goals as goal

pub returns-then-row_byte-x : goal.returns-then-row_byte-x
returns-then-row_byte-x c = pair_last _ _ _ _ _ c.row_byte.ensures (search rules) c.if-row_byte-x.true

pub returns : goal.returns
returns c = pair_first _ _ _ _ _ _ c.row_byte.ensures (omega arith) c.row_byte-2.ensures (omega arith)
