use native.Mathlib.Omega.{arith}
use Rattle.sets_sequences.proofs.first_byte.Goals as goal

pub returns : goal.returns
returns c = λ k. omega (arith, c.type_inv.rows k)
