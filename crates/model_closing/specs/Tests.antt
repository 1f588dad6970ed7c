-- Connectives on tests: what stands at several places. Assumes nothing.
use Rattle.std.specs.Prelude.{◌≡◌, refl, Bool, true, false}
use Rattle.finite.specs.Logic.{◌and◌, ◌or◌}

-- ---- laws

pub or_off_left : (a b : Bool) → a ≡ false → (a or b) ≡ b
unfolding ◌or◌
or_off_left a b e = rw e refl

pub or_four : {a b c d a' b' c' d' : Bool} → a ≡ a' → b ≡ b' → c ≡ c' → d ≡ d' → (a or b or c or d) ≡ (a' or b' or c' or d')
or_four p q r u = rw (p, q, r, u) refl

-- where the first passes, the second may be another
pub and_under : (a b c : Bool) → (a ≡ true → b ≡ c) → (a and b) ≡ (a and c)
unfolding ◌and◌
and_under true b c f = f refl
and_under false b c f = refl

pub and_assoc : (a b c : Bool) → (a and b and c) ≡ (a and (b and c))
unfolding ◌and◌
and_assoc true b c = refl
and_assoc false b c = refl
