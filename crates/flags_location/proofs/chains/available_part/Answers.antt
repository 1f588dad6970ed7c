use mathlib.Core.Path.{refl, sym, ◌∙◌}
use native.Mathlib.Omega.{arith}
use Rattle.flags_location.specs.Chains.{available_part}
use Rattle.flags_location.proofs.chains.available_part.Goals as goal

pub returns-then-is_plain : goal.returns-then-is_plain
unfolding available_part
returns-then-is_plain c = let e = sym c.is_plain.ensures ∙ c.if-is_plain.true in (rw e refl, omega arith)

pub returns-else-is_plain : goal.returns-else-is_plain
unfolding available_part
returns-else-is_plain c = let e = sym c.is_plain.ensures ∙ c.if-is_plain.false in (rw e refl, omega arith)
