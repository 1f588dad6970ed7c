use native.Mathlib.Omega.{arith}
use lib.ListN.{get_or-eq_default}
use Rattle.ask_fill.proofs.first_byte.Goals as goal

pub returns-then-piece-gt0 : goal.returns-then-piece-gt0
returns-then-piece-gt0 c = λ k. omega (arith, c.type_inv.piece k)

pub returns-else-piece-gt0 : goal.returns-else-piece-gt0
returns-else-piece-gt0 c = λ k. let e = get_or-eq_default c.args.piece.now 0 {n = k} (omega arith) in omega arith
