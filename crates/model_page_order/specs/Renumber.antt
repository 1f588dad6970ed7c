-- Rows renumbered: what is said of some row, of all rows and of paths stays. Assumes nothing.
use Rattle.std.specs.Prelude.{◌≡◌, refl, Bool, true, ltb, eqb}
use Rattle.std.proofs.Common.{sym, ap, ◌∙◌, subst, subst₂, arith, ltb-true, lt-ltb, eqb-true, eq-eqb}
use Rattle.std.proofs.Math.Path.{ap₂}
use Prim.Native.Nat.{ℕ, zero, suc, ◌+◌, ◌*◌, ◌/◌, ◌%◌, ◌≤◌, ◌<◌}
use Rattle.std.proofs.Math.Decide.{dec_lt}
use Rattle.finite.specs.Logic.{◌and◌, bool_ext}
use Rattle.finite.specs.Below.{any_below, any_in, any_out, least, least_is, least_low, any_cong}
use Rattle.finite.specs.Closure.{Reach, one, more, through, through_reach}
use Rattle.finite.specs.Walk.{walk, on_cycle}

-- ---- definitions

-- a renumbering of n rows: one to one, and every other number stays
pub record Renumbering (n : ℕ) : Type 0 where
  pub to : ℕ → ℕ
  pub back : ℕ → ℕ
  pub back_to : (k : ℕ) → back (to k) ≡ k
  pub to_back : (k : ℕ) → to (back k) ≡ k
  pub others : (k : ℕ) → n ≤ k → to k ≡ k

-- the moments of the renumbered rows: three to a row
unfoldable pub moment_to : (ℕ → ℕ) → ℕ → ℕ
moment_to f m = 3 * f (m / 3) + m % 3

pub row_of : (f : ℕ → ℕ) (m : ℕ) → moment_to f m / 3 ≡ f (m / 3)
unfolding moment_to
row_of f m = let l : m % 3 < 3 = omega arith in omega arith

pub part_of : (f : ℕ → ℕ) (m : ℕ) → moment_to f m % 3 ≡ m % 3
unfolding moment_to
part_of f m = let l : m % 3 < 3 = omega arith in omega arith

pub moment_at : (f : ℕ → ℕ) (x : ℕ) → moment_to f (3 * x + 1) ≡ 3 * f x + 1
unfolding moment_to
moment_at f x = let a : (3 * x + 1) / 3 ≡ x = omega arith in let b : (3 * x + 1) % 3 ≡ 1 = omega arith in rw (a, b) refl

pub moment_part : (f : ℕ → ℕ) (x k : ℕ) → k < 3 → moment_to f (3 * x + k) ≡ 3 * f x + k
unfolding moment_to
moment_part f x k l = let a : (3 * x + k) / 3 ≡ x = omega arith in let b : (3 * x + k) % 3 ≡ k = omega arith in rw (a, b) refl

pub opened : (g : ℕ → ℕ) (k : ℕ) → moment_to g k ≡ 3 * g (k / 3) + k % 3
unfolding moment_to
opened g k = refl

pub moment_back : (f g : ℕ → ℕ) → ((k : ℕ) → g (f k) ≡ k) → (m : ℕ) → moment_to g (moment_to f m) ≡ m
moment_back f g h m = opened g (moment_to f m) ∙ ap (λ (z : ℕ). 3 * z + moment_to f m % 3) (ap g (row_of f m) ∙ h (m / 3)) ∙ whole
  where
    whole : 3 * (m / 3) + moment_to f m % 3 ≡ m
    whole = rw (part_of f m) (omega arith)

-- ---- numbers

module _ {n : ℕ} (π : Renumbering n) where
  pub one_to_one : (x y : ℕ) → π.to x ≡ π.to y → x ≡ y
  one_to_one x y e = sym (π.back_to x) ∙ ap π.back e ∙ π.back_to y

  pub to_below : (k : ℕ) → k < n → π.to k < n
  to_below k l = go (dec_lt (π.to k) n)
    where
      go : Dec (π.to k < n) → π.to k < n
      go (yes h) = h
      go (no h) = let e = one_to_one (π.to k) k (π.others (π.to k) (omega arith)) in absurd (omega arith)

  pub back_below : (k : ℕ) → k < n → π.back k < n
  back_below k l = go (dec_lt (π.back k) n)
    where
      go : Dec (π.back k < n) → π.back k < n
      go (yes h) = h
      go (no h) = let e : k ≡ π.back k = sym (π.to_back k) ∙ π.others (π.back k) (omega arith) in absurd (omega arith)

  pub eqb_to : (x y : ℕ) → eqb (π.to x) (π.to y) ≡ eqb x y
  eqb_to x y =
      bool_ext (eqb (π.to x) (π.to y)) (eqb x y) (λ e. eq-eqb x y (one_to_one x y (eqb-true (π.to x) (π.to y) e)))
      (λ e. eq-eqb (π.to x) (π.to y) (ap π.to (eqb-true x y e)))

  -- a number that stays
  pub eqb_stays : (x k : ℕ) → n ≤ k → eqb (π.to x) k ≡ eqb x k
  eqb_stays x k l = subst (λ (z : ℕ). eqb (π.to x) z ≡ eqb x k) (π.others k l) (eqb_to x k)

  pub ltb_to : (x : ℕ) → ltb (π.to x) n ≡ ltb x n
  ltb_to x =
      bool_ext (ltb (π.to x) n) (ltb x n) (λ e. lt-ltb x n (subst (λ (z : ℕ). z < n) (π.back_to x) (back_below (π.to x) (ltb-true (π.to x) n e))))
      (λ e. lt-ltb (π.to x) n (to_below x (ltb-true x n e)))

  -- ---- some, all

  pub any_to : (p q : ℕ → Bool) → ((k : ℕ) → q (π.to k) ≡ p k) → any_below n q ≡ any_below n p
  any_to p q f =
      bool_ext (any_below n q) (any_below n p)
      (λ e.
      let r = any_out q n e in
      any_in p n (π.back r.0) (back_below r.0 r.1) (sym (f (π.back r.0)) ∙ ap q (π.to_back r.0) ∙ r.2))
      (λ e. let r = any_out p n e in any_in q n (π.to r.0) (to_below r.0 r.1) (f r.0 ∙ r.2))

  -- ---- paths

  module _ (r d : ℕ → ℕ → Bool) (same : (x y : ℕ) → d (π.to x) (π.to y) ≡ r x y) where
    pub reach_to : {x y : ℕ} → Reach r n x y → Reach d n (π.to x) (π.to y)
    reach_to {x} {y} (one e) = one (same x y ∙ e)
    reach_to {x} {y} (more {m = m} e l p) = more (same x m ∙ e) (to_below m l) (reach_to p)

    step_back : (x y : ℕ) → d x y ≡ r (π.back x) (π.back y)
    step_back x y = subst₂ (λ (a b : ℕ). d a b ≡ r (π.back x) (π.back y)) (π.to_back x) (π.to_back y) (same (π.back x) (π.back y))

    pub reach_back : {x y : ℕ} → Reach d n x y → Reach r n (π.back x) (π.back y)
    reach_back {x} {y} (one e) = one (sym (step_back x y) ∙ e)
    reach_back {x} {y} (more {m = m} e l p) = more (sym (step_back x m) ∙ e) (back_below m l) (reach_back p)

    -- the closure of the renumbered relation is the renumbered closure
    pub through_to : (x y : ℕ) → through d n (π.to x) (π.to y) ≡ through r n x y
    through_to x y =
        bool_ext (through d n (π.to x) (π.to y)) (through r n x y)
        (λ e. (through_reach r n x y).1 (subst₂ (Reach r n) (π.back_to x) (π.back_to y) (reach_back ((through_reach d n (π.to x) (π.to y)).0 e))))
        (λ e. (through_reach d n (π.to x) (π.to y)).1 (reach_to ((through_reach r n x y).0 e)))

  -- ---- the one that passes

  -- where at most one number passes, the least that passes is renumbered
  pub least_to : (p q : ℕ → Bool) → ((k : ℕ) → q (π.to k) ≡ p k) → ((i j : ℕ) → i < n → j < n → p i ≡ true → p j ≡ true → i ≡ j)
      → least n q ≡ π.to (least n p)
  least_to p q f single = go (dec_lt (least n p) n)
    where
      lq : least n q ≤ n
      lq = (least_is q n).bound

      lp : least n p ≤ n
      lp = (least_is p n).bound

      found : least n p < n → Dec (least n q < n) → least n q ≡ π.to (least n p)
      found l (yes m) =
          sym (π.to_back (least n q))
          ∙ ap π.to
          (single (π.back (least n q)) (least n p) (back_below (least n q) m) l
          (sym (f (π.back (least n q))) ∙ ap q (π.to_back (least n q)) ∙ (least_is q n).hit m) ((least_is p n).hit l))
      found l (no m) =
          let a : least n q ≤ π.to (least n p) = least_low q n (π.to (least n p)) (f (least n p) ∙ (least_is p n).hit l) in
          let b : π.to (least n p) < n = to_below (least n p) l in
          absurd (omega arith)

      missed : n ≤ least n p → Dec (least n q < n) → least n q ≡ π.to (least n p)
      missed l (yes m) =
          let a : least n p ≤ π.back (least n q) = least_low p n (π.back (least n q))
          (sym (f (π.back (least n q))) ∙ ap q (π.to_back (least n q)) ∙ (least_is q n).hit m) in
          let b : π.back (least n q) < n = back_below (least n q) m in
          absurd (omega arith)
      missed l (no m) = let e : π.to (least n p) ≡ least n p = π.others (least n p) l in omega (arith, lq, lp)

      go : Dec (least n p < n) → least n q ≡ π.to (least n p)
      go (yes l) = found l (dec_lt (least n q) n)
      go (no l) = missed (omega arith) (dec_lt (least n q) n)

-- the moments of renumbered rows are renumbered
unfoldable pub thrice : {n : ℕ} → Renumbering n → Renumbering (3 * n)
thrice {n} π =
    record {
      to = moment_to π.to;
      back = moment_to π.back;
      back_to = moment_back π.to π.back π.back_to;
      to_back = moment_back π.back π.to π.to_back;
      others = λ k l. stays k l;
    }
  where
    stays : (k : ℕ) → 3 * n ≤ k → moment_to π.to k ≡ k
    stays k l = opened π.to k ∙ ap (λ (z : ℕ). 3 * z + k % 3) (π.others (k / 3) (omega arith)) ∙ omega arith

-- ---- cycles

module _ {n : ℕ} (π : Renumbering n) (r d : ℕ → ℕ → Bool) (same : (x y : ℕ) → d (π.to x) (π.to y) ≡ r x y) where
  walk_to : (x k z : ℕ) → walk n d (π.to x) k (π.to z) ≡ walk n r x k z
  unfolding walk
  walk_to x zero z = eqb_to π z x
  walk_to x (suc k) z = any_to π (λ w. r z w and walk n r x k w) (λ w. d (π.to z) w and walk n d (π.to x) k w) (λ w. ap₂ ◌and◌ (same z w) (walk_to x k w))

  cycle_to : (x : ℕ) → on_cycle n d (π.to x) ≡ on_cycle n r x
  unfolding on_cycle
  cycle_to x = any_cong (λ k. walk n d (π.to x) (suc k) (π.to x)) (λ k. walk n r x (suc k) x) n (λ k l. walk_to x (suc k) x)

  pub some_cycle_to : any_below n (on_cycle n d) ≡ any_below n (on_cycle n r)
  some_cycle_to = any_to π (on_cycle n r) (on_cycle n d) cycle_to
