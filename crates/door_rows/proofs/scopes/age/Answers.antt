use Rattle.std.proofs.Common.{◌≡◌, ℕ, ◌+◌, ◌-◌, ◌%◌, ◌<◌, arith}
use Rattle.model.specs.Scope.{age}
use Rattle.door_rows.proofs.scopes.age.Goals as goal

-- the difference is the remainder that it leaves
difference : (r a b : ℕ) → r < 65536 → b < 65536 → (r + b) % 65536 ≡ a → r ≡ (a + 65536 - b) % 65536
difference r a b p q e = omega arith

pub returns : goal.returns
unfolding age
returns c = difference c.wrapping_sub_u16.result c.args.a c.args.b (omega arith) (omega arith) c.wrapping_sub_u16.ensures.value
