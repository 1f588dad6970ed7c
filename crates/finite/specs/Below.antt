-- Tests on the numbers below a bound: some, all, the least, the first pair; and what each says.
-- Each recurses on the bound, so that a loop that counts up goes one `suc` at a time. Assumes nothing.
use Rattle.std.specs.Prelude.{Option, None, Some, MatchOption, ◌≡◌, Bool, true, false, not, ◌⊎◌, ltb, eqb}
use Rattle.std.proofs.Math.Path.{refl}
use Rattle.std.specs.Option.{is_some}
use Rattle.std.proofs.Common.{sym, ◌∙◌, inl, inr, not-suc-le-zero, eq-or-lt_of_le, le_of_suc-le-suc, ltb-true, ltb-false, lt-ltb, le-ltb, eqb-true, eq-eqb, ne_eqb}
use Rattle.std.proofs.Math.Logic.{⊎_elim}
use Prim.Native.Nat.{ℕ, zero, suc, ◌+◌, ◌≤◌, ◌<◌}
use Rattle.std.proofs.Math.Numerals.{add-one}
use Rattle.std.proofs.Math.Decide.{dec_lt, ℕ_discrete}
use native.Mathlib.Omega.{arith}
use Rattle.finite.specs.Logic.{◌and◌, ◌or◌, which, bool_ext, not_both, and_left, and_right, and_true, or_cases, or_left, or_right}
use Rattle.finite.specs.Logic.{or_none, or_off}

-- ---- definitions

-- some number below n passes
unfoldable pub any_below : ℕ → (ℕ → Bool) → Bool
any_below zero p = false
any_below (suc n) p = any_below n p or p n

-- each number below n passes
unfoldable pub all_below : ℕ → (ℕ → Bool) → Bool
all_below zero p = true
all_below (suc n) p = all_below n p and p n

abbrev pub onward : Bool → ℕ → ℕ
onward true k = k
onward false k = suc k

-- the least number below n that passes, n where none does
unfoldable pub least : ℕ → (ℕ → Bool) → ℕ
least zero p = zero
least (suc n) p = onward (p (least n p)) (least n p)

-- what a search below n gives: the number v; or none, where v is n
abbrev pub Finds : ℕ → ℕ → Option ℕ → Type 0
Finds n v r = MatchOption r (v ≡ n) (λ k. (k < n) × (k ≡ v))

-- what the least is
pub record Least (n : ℕ) (p : ℕ → Bool) (l : ℕ) : Type 0 where
  pub bound : l ≤ n
  pub hit : l < n → p l ≡ true
  pub miss : (k : ℕ) → k < l → p k ≡ false

-- ---- laws

pub below_cases : {i n : ℕ} → i < suc n → (i ≡ n) ⊎ (i < n)
below_cases h = eq-or-lt_of_le (le_of_suc-le-suc h)

module _ (p : ℕ → Bool) where
  -- ---- some

  pub any_in : (n k : ℕ) → k < n → p k ≡ true → any_below n p ≡ true
  unfolding any_below
  any_in zero k h e = absurd (not-suc-le-zero h)
  any_in (suc n) k h e =
      ⊎_elim (λ q. or_right (any_below n p) (rw (← q) e)) (λ l. or_left (p n) (any_in n k l e)) (below_cases h)

  pub any_out : (n : ℕ) → any_below n p ≡ true → (k : ℕ) × (k < n) × (p k ≡ true)
  unfolding any_below
  any_out zero e = not_both e refl
  any_out (suc n) e =
      ⊎_elim (λ h. let r = any_out n h in let l = r.1 in (r.0, omega arith, r.2)) (λ h. (n, omega arith, h)) (or_cases (any_below n p) (p n) e)

  pub any_off : (n : ℕ) → any_below n p ≡ false → (k : ℕ) → k < n → p k ≡ false
  any_off n e k h = ⊎_elim (λ t. not_both (any_in n k h t) e) (λ f. f) (which (p k))

  pub any_not : (n : ℕ) → ((k : ℕ) → k < n → p k ≡ false) → any_below n p ≡ false
  any_not n f = ⊎_elim (λ t. let r = any_out n t in not_both r.2 (f r.0 r.1)) (λ e. e) (which (any_below n p))

  -- a loop that found nothing so far
  pub any_none : any_below 0 p ≡ false
  unfolding any_below
  any_none = refl

  pub any_more : (n : ℕ) → any_below n p ≡ false → p n ≡ false → any_below (n + 1) p ≡ false
  unfolding any_below
  any_more n e h = rw add-one (or_none e h)

  -- ---- all

  pub all_in : (n : ℕ) → ((k : ℕ) → k < n → p k ≡ true) → all_below n p ≡ true
  unfolding all_below
  all_in zero f = refl
  all_in (suc n) f = and_true (all_in n (λ k h. f k (omega arith))) (f n (omega arith))

  pub all_out : (n : ℕ) → all_below n p ≡ true → (k : ℕ) → k < n → p k ≡ true
  unfolding all_below
  all_out zero e k h = absurd (not-suc-le-zero h)
  all_out (suc n) e k h =
      ⊎_elim (λ q. rw q (and_right (all_below n p) (p n) e)) (λ l. all_out n (and_left (all_below n p) (p n) e) k l) (below_cases h)

  -- ---- the least

  least_step : (n l : ℕ) → Least n p l → Least (suc n) p (onward (p l) l)
  least_step n l r = ⊎_elim found on (which (p l))
    where
      found : p l ≡ true → Least (suc n) p (onward (p l) l)
      found e = rw e (record { bound = omega (arith, r.bound); hit = λ h. e; miss = r.miss })

      on : p l ≡ false → Least (suc n) p (onward (p l) l)
      on e = rw e (record { bound = up; hit = λ h. not_both (r.hit (omega (arith, h, r.bound))) e; miss = before })
        where
          up : suc l ≤ suc n
          up = omega (arith, r.bound)

          before : (k : ℕ) → k < suc l → p k ≡ false
          before k h = ⊎_elim (λ q. rw q e) (λ m. r.miss k m) (below_cases h)

  pub least_is : (n : ℕ) → Least n p (least n p)
  unfolding least
  least_is zero = record { bound = omega arith; hit = λ h. absurd (not-suc-le-zero h); miss = λ k h. absurd (not-suc-le-zero h) }
  least_is (suc n) = least_step n (least n p) (least_is n)

  -- a number that passes is no lower than the least
  pub least_low : (n k : ℕ) → p k ≡ true → least n p ≤ k
  least_low n k e = go (dec_lt k (least n p))
    where
      go : Dec (k < least n p) → least n p ≤ k
      go (yes h) = not_both e ((least_is n).miss k h)
      go (no h) = omega arith

  -- some number passes exactly when the least is below the bound
  pub least_hit : (n : ℕ) → any_below n p ≡ true → (least n p < n) × (p (least n p) ≡ true)
  least_hit n e =
      let r = any_out n e in
      let h = r.1 in
      let l : least n p < n = omega (arith, least_low n r.0 r.2) in
      (l, (least_is n).hit l)

  -- a number that passes, with none below it, is the least
  pub least_unique : (n k : ℕ) → k < n → p k ≡ true → ((j : ℕ) → j < k → p j ≡ false) → least n p ≡ k
  least_unique n k h e f = go (dec_lt (least n p) k)
    where
      low : least n p ≤ k
      low = least_low n k e

      go : Dec (least n p < k) → least n p ≡ k
      go (yes l) = not_both ((least_is n).hit (omega arith)) (f (least n p) l)
      go (no l) = omega (arith, low)

  -- none passes
  pub least_off : (n : ℕ) → ((k : ℕ) → k < n → p k ≡ false) → least n p ≡ n
  least_off n f = go (dec_lt (least n p) n)
    where
      go : Dec (least n p < n) → least n p ≡ n
      go (yes l) = not_both ((least_is n).hit l) (f (least n p) l)
      go (no l) = omega (arith, (least_is n).bound)

  -- a loop that found nothing so far
  pub least_none : least 0 p ≡ 0
  unfolding least
  least_none = refl

  pub least_more : (i : ℕ) → least i p ≡ i → p i ≡ false → least (i + 1) p ≡ i + 1
  unfolding least
  least_more i e h = rw (add-one, e, h) refl

  pub least_found : (i n : ℕ) → least i p ≡ i → p i ≡ true → i < n → least n p ≡ i
  unfolding least
  least_found i zero e h l = absurd (not-suc-le-zero l)
  least_found i (suc n) e h l = ⊎_elim (λ q. rw (← q, e, h) refl) (λ m. rw (least_found i n e h m, h) refl) (below_cases l)

-- ---- tests that agree below the bound

pub any_cong : (p q : ℕ → Bool) (n : ℕ) → ((k : ℕ) → k < n → p k ≡ q k) → any_below n p ≡ any_below n q
unfolding any_below
any_cong p q zero h = refl
any_cong p q (suc n) h = rw (any_cong p q n (λ k l. h k (omega arith)), h n (omega arith)) refl

pub least_cong : (p q : ℕ → Bool) (n : ℕ) → ((k : ℕ) → k < n → p k ≡ q k) → least n p ≡ least n q
unfolding least
least_cong p q zero h = refl
least_cong p q (suc n) h =
    let e : least n p ≡ least n q = least_cong p q n (λ k l. h k (omega arith)) in
    rw (e, h (least n q) (omega (arith, (least_is q n).bound))) refl

-- ---- the least below a lower bound

module _ {m n k : ℕ} {p : ℕ → Bool} (low : n ≤ m) (h : Least m p k) where
  pub least_inside : k < n → k ≡ least n p
  least_inside l = sym (least_unique p n k l (h.hit (omega arith)) h.miss)

  pub least_outside : n ≤ k → n ≡ least n p
  least_outside l = sym (least_off p n (λ j o. h.miss j (omega arith)))

-- ---- whether the least is below the bound

pub least_any : (n : ℕ) (p : ℕ → Bool) → ltb (least n p) n ≡ any_below n p
least_any n p =
    bool_ext (ltb (least n p) n) (any_below n p) (λ e. let l = ltb-true (least n p) n e in any_in p n (least n p) l ((least_is p n).hit l))
    (λ e. lt-ltb (least n p) n (least_hit p n e).0)

pub least_stops : (n : ℕ) (p : ℕ → Bool) → eqb (least n p) n ≡ not (any_below n p)
least_stops n p = go (which (any_below n p))
  where
    go : (any_below n p ≡ true) ⊎ (any_below n p ≡ false) → eqb (least n p) n ≡ not (any_below n p)
    go (inl e) = rw e (off (least_hit p n e).0)
      where
        off : least n p < n → eqb (least n p) n ≡ false
        off l = bool_ext (eqb (least n p) n) false (λ h. let q = eqb-true (least n p) n h in absurd (omega arith)) (λ h. not_both refl (sym h))
    go (inr e) = rw e (eq-eqb (least n p) n (at (ltb-false (least n p) n (least_any n p ∙ e))))
      where
        at : n ≤ least n p → least n p ≡ n
        at l = let b : least n p ≤ n = (least_is p n).bound in omega arith

-- ---- laws: one number, and those below another

-- one more number passes
pub turn : (i x : ℕ) (b : Bool) → ((ltb i x and b) or (eqb i x and b)) ≡ (ltb i (x + 1) and b)
unfolding ◌and◌ ◌or◌
turn i x b = go (ℕ_discrete i x) (dec_lt i x)
  where
    go : Dec (i ≡ x) → Dec (i < x) → ((ltb i x and b) or (eqb i x and b)) ≡ (ltb i (x + 1) and b)
    go (yes e) d = rw (eq-eqb i x e, le-ltb i x (omega arith), lt-ltb i (x + 1) (omega arith)) refl
    go (no e) (yes l) = rw (ne_eqb i x e, lt-ltb i x l, lt-ltb i (x + 1) (omega arith)) (or_off _ _ refl)
    go (no e) (no l) = rw (ne_eqb i x e, le-ltb i x (omega arith), le-ltb i (x + 1) (omega arith)) refl

-- under a test that holds of one number alone
pub at_one : (i x : ℕ) (b c : Bool) → (i ≡ x → b ≡ c) → (eqb i x and b) ≡ (eqb i x and c)
unfolding ◌and◌
at_one i x b c h = go (ℕ_discrete i x)
  where
    go : Dec (i ≡ x) → (eqb i x and b) ≡ (eqb i x and c)
    go (yes e) = rw (eq-eqb i x e) (h e)
    go (no e) = rw (ne_eqb i x e) refl

-- ---- what a search gives

pub finds_some : (n v : ℕ) (r : Option ℕ) → Finds n v r → is_some r ≡ true → v < n
finds_some n v None h e = not_both e refl
finds_some n v (Some k) h e = let l = h.0 in let q = h.1 in omega arith

pub finds_none : (n v : ℕ) (r : Option ℕ) → Finds n v r → is_some r ≡ false → v ≡ n
finds_none n v None h e = h
finds_none n v (Some k) h e = not_both refl e

pub finds_test : (n v : ℕ) (r : Option ℕ) → Finds n v r → not (is_some r) ≡ eqb v n
finds_test n v None h = sym (eq-eqb v n h)
finds_test n v (Some k) h = let l = h.0 in let q = h.1 in sym (ne_eqb v n (λ e. omega arith))
