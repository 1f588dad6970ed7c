-- Connectives on tests, and what they say.
-- They stay shut, so that a proof need not write out what stands at their two places; they associate to the left, as `&` and
-- `|` do in code. Assumes nothing.
use Rattle.std.specs.Prelude.{◌≡◌, refl, Bool, true, false, not, ◌&&◌, ◌||◌, ◌⊎◌}
use Rattle.std.proofs.Common.{sym, ◌∙◌, true≢false, inl, inr}

infixl 35 ◌and◌
infixl 30 ◌or◌
unfoldable pub ◌and◌ : Bool → Bool → Bool
true and b = b
false and b = false

unfoldable pub ◌or◌ : Bool → Bool → Bool
true or b = true
false or b = b

-- ---- a test is true or false

pub which : (b : Bool) → (b ≡ true) ⊎ (b ≡ false)
which true = inl refl
which false = inr refl

pub not_both : {A : Type 0} {b : Bool} → b ≡ true → b ≡ false → A
not_both p q = absurd (true≢false (sym p ∙ q))

-- two tests that imply each other are equal
pub bool_ext : (a b : Bool) → (a ≡ true → b ≡ true) → (b ≡ true → a ≡ true) → a ≡ b
bool_ext true b f g = sym (f refl)
bool_ext false true f g = g refl
bool_ext false false f g = refl

-- what is not true is false
pub not_so : (b : Bool) → (b ≡ true → ⊥) → b ≡ false
not_so true f = absurd (f refl)
not_so false f = refl

pub not_in : {b : Bool} → b ≡ false → not b ≡ true
not_in p = rw p refl

pub not_out : (b : Bool) → not b ≡ true → b ≡ false
not_out true e = sym e
not_out false e = refl

-- ---- and

pub and_left : (a b : Bool) → (a and b) ≡ true → a ≡ true
unfolding ◌and◌
and_left true b e = refl
and_left false b e = e

pub and_right : (a b : Bool) → (a and b) ≡ true → b ≡ true
unfolding ◌and◌
and_right true b e = e
and_right false b e = not_both e refl

pub split : {a b : Bool} → (a and b) ≡ true → (a ≡ true) × (b ≡ true)
split {a} {b} e = (and_left a b e, and_right a b e)

pub and_true : {a b : Bool} → a ≡ true → b ≡ true → (a and b) ≡ true
unfolding ◌and◌
and_true p q = rw (p, q) refl

pub and_false_left : (a b : Bool) → a ≡ false → (a and b) ≡ false
unfolding ◌and◌
and_false_left a b e = rw e refl

pub and_false_right : (a b : Bool) → b ≡ false → (a and b) ≡ false
unfolding ◌and◌
and_false_right true b e = e
and_false_right false b e = refl

-- ---- or

pub or_cases : (a b : Bool) → (a or b) ≡ true → (a ≡ true) ⊎ (b ≡ true)
unfolding ◌or◌
or_cases true b e = inl refl
or_cases false b e = inr e

pub or_left : {a : Bool} (b : Bool) → a ≡ true → (a or b) ≡ true
unfolding ◌or◌
or_left b p = rw p refl

pub or_right : (a : Bool) {b : Bool} → b ≡ true → (a or b) ≡ true
unfolding ◌or◌
or_right true p = refl
or_right false p = p

pub or_false : (a b : Bool) → (a or b) ≡ false → (a ≡ false) × (b ≡ false)
unfolding ◌or◌
or_false true b e = not_both refl e
or_false false b e = (refl, e)

pub or_none : {a b : Bool} → a ≡ false → b ≡ false → (a or b) ≡ false
unfolding ◌or◌
or_none p q = rw (p, q) refl

pub or_off : (a b : Bool) → b ≡ false → (a or b) ≡ a
unfolding ◌or◌
or_off true b e = refl
or_off false b e = e

pub or_assoc : (a b c : Bool) → ((a or b) or c) ≡ (a or (b or c))
unfolding ◌or◌
or_assoc true b c = refl
or_assoc false b c = refl

-- ---- laws: a test that passes says nothing more

pub and_on : (a b : Bool) → a ≡ true → (a and b) ≡ b
unfolding ◌and◌
and_on a b e = rw e refl

pub and_on_right : (a b : Bool) → b ≡ true → (a and b) ≡ a
unfolding ◌and◌
and_on_right true b e = e
and_on_right false b e = refl

pub through_on : (x a b : Bool) → a ≡ true → (x or b) ≡ (x or (a and b))
unfolding ◌and◌
through_on x a b e = rw e refl

-- ---- laws: one of the two within the other

pub and_or : (a b c : Bool) → ((a and b) or (a and c)) ≡ (a and (b or c))
unfolding ◌and◌ ◌or◌
and_or true b c = refl
and_or false b c = refl

pub and_same : (a : Bool) → (a and a) ≡ a
unfolding ◌and◌
and_same true = refl
and_same false = refl

pub absorb : (a b : Bool) → (a or (b and a)) ≡ a
unfolding ◌and◌ ◌or◌
absorb true b = refl
absorb false true = refl
absorb false false = refl

-- ---- laws: the connectives of code

pub and_both : (a b : Bool) → (a && b) ≡ (a and b)
unfolding ◌and◌
and_both true b = refl
and_both false b = refl

pub or_both : (a b : Bool) → (a || b) ≡ (a or b)
unfolding ◌or◌
or_both true b = refl
or_both false b = refl
