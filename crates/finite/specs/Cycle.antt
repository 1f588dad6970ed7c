-- The cycle that is shown: that there is one exactly where some number reaches itself, and which of them it is.
-- Assumes nothing.
use Rattle.std.specs.Prelude.{◌≡◌, ◌-◌, true, false, ◌↔◌, eqb, length, get_or}
use Rattle.std.proofs.Math.Path.{refl, ap, subst}
use Rattle.std.proofs.Common.{sym, ◌∙◌, not-suc-le-zero, eq-or-lt_of_le, suc-add}
use Rattle.std.proofs.Math.Bool.{Bool}
use Rattle.std.proofs.Math.Logic.{⊎_elim}
use mathlib.Core.List.{List, [], ◌∷◌}
use Prim.Native.Nat.{ℕ, zero, suc, ◌+◌, ◌≤◌, ◌<◌}
use Rattle.std.proofs.Math.Decide.{dec_lt, ℕ_discrete}
use native.Mathlib.Omega.{arith}
use borrow.Author.Tests.{eqb-true, eqb-false, eq-eqb, ne_eqb}
use Rattle.finite.specs.Logic.{◌and◌, which, split, and_true, and_false_right}
use Rattle.finite.specs.Below.{any_below, least, any_in, any_out, any_off, any_not, any_cong, least_is, least_low, least_hit, least_cong}
use Rattle.finite.specs.Closure.{Reach, one, more}
use Rattle.finite.specs.Walk.{walk, on_cycle, cycle_start, cycle_size, trail, cycle, along}

-- ---- definitions

-- the first list comes no later than the second: they are equal, or it is smaller at the first place where they differ, or
-- ends there
pub data Lex : List ℕ → List ℕ → Type 0 where
  done : {m : List ℕ} → Lex [] m
  less : {a b : ℕ} {l m : List ℕ} → a < b → Lex (a ∷ l) (b ∷ m)
  same : {a : ℕ} {l m : List ℕ} → Lex l m → Lex (a ∷ l) (a ∷ m)

module _ (n : ℕ) (e : ℕ → ℕ → Bool) where
  -- from z the numbers of the list lead to x, each by a step to the next, the last by a step to x; a cycle through x is a way
  -- from x to x that is not empty
  pub data Way (x : ℕ) : ℕ → List ℕ → Type 0 where
    there : Way x x []
    onward : {z w : ℕ} {l : List ℕ} → w < n → e z w ≡ true → Way x w l → Way x z (z ∷ l)

  -- the cycle that is shown: at the lowest number on any cycle, of those through it one with the fewest numbers, of those the
  -- least list; no number stands in it twice
  pub record Canonical (l : List ℕ) : Type 0 where
    pub way : Way (cycle_start n e) (cycle_start n e) l
    pub some : 1 ≤ length l
    pub rows : length l ≤ n
    pub lowest : (x : ℕ) → x < n → Reach e n x x → cycle_start n e ≤ x
    pub fewest : (m : List ℕ) → Way (cycle_start n e) (cycle_start n e) m → 1 ≤ length m → length l ≤ length m
    pub first : (m : List ℕ) → Way (cycle_start n e) (cycle_start n e) m → length m ≡ length l → Lex l m
    pub below : (k : ℕ) → k < length l → get_or l k 0 < n
    pub once : (i j : ℕ) → i < j → j < length l → get_or l i 0 ≡ get_or l j 0 → ⊥

-- ---- more places than values: some value stands at two

-- a, but c for a that is n
abbrev swap : (c : ℕ) {a n : ℕ} → Dec (a ≡ n) → ℕ
swap c (yes q) = c
swap c {a} (no q) = a

swap_low : (c : ℕ) {a n : ℕ} (d : Dec (a ≡ n)) → a < suc n → c < suc n → (a ≡ c → ⊥) → swap c d < n
swap_low c (yes q) h k m = omega arith
swap_low c (no q) h k m = omega arith

swap_one : (c : ℕ) {a b n : ℕ} (d : Dec (a ≡ n)) (f : Dec (b ≡ n)) → (a ≡ c → ⊥) → (b ≡ c → ⊥) → swap c d ≡ swap c f → a ≡ b
swap_one c (yes p) (yes q) first_apart second_apart equal = omega arith
swap_one c (yes p) (no q) first_apart second_apart equal = omega arith
swap_one c (no p) (yes q) first_apart second_apart equal = omega arith
swap_one c (no p) (no q) first_apart second_apart equal = equal

pub twice : (n : ℕ) (f : ℕ → ℕ) → ((k : ℕ) → k ≤ n → f k < n) → (i : ℕ) × (j : ℕ) × (i < j) × (j ≤ n) × (f i ≡ f j)
twice zero f h = absurd (not-suc-le-zero (h 0 (omega arith)))
twice (suc n) f h = ⊎_elim found (go (twice n)) (which (any_below (suc n) last))
  where
    c : ℕ
    c = f (suc n)

    last : ℕ → Bool
    last i = eqb (f i) c

    d : (k : ℕ) → Dec (f k ≡ n)
    d k = ℕ_discrete (f k) n

    Twice : ℕ → (ℕ → ℕ) → Type 0
    Twice m g = (i : ℕ) × (j : ℕ) × (i < j) × (j ≤ m) × (g i ≡ g j)

    found : any_below (suc n) last ≡ true → Twice (suc n) f
    found t = let r = any_out last (suc n) t in (r.0, suc n, r.1, omega arith, eqb-true _ _ r.2)

    go : ((g : ℕ → ℕ) → ((k : ℕ) → k ≤ n → g k < n) → Twice n g) → any_below (suc n) last ≡ false → Twice (suc n) f
    go ih t =
        let r = ih (λ k. swap c (d k)) (λ k l. swap_low c (d k) (h k (omega arith)) (h (suc n) (omega arith)) (apart k (omega arith))) in
        let i = r.0 in
        let j = r.1 in
        let a = r.2 in
        let b = r.3 in
        (i, j, a, omega arith, swap_one c (d i) (d j) (apart i (omega arith)) (apart j (omega arith)) r.4)
      where
        apart : (k : ℕ) → k < suc n → f k ≡ c → ⊥
        apart k l = eqb-false _ _ (any_off last (suc n) t k l)

-- ---- laws

module _ (n : ℕ) (e : ℕ → ℕ → Bool) where
  -- ---- walks are ways

  way_walk : {x z : ℕ} {l : List ℕ} → Way n e x z l → walk n e x (length l) z ≡ true
  unfolding walk
  way_walk {x} there = eq-eqb x x refl
  way_walk {x} (onward {z} {w} {l} h a p) = any_in (λ v. e z v and walk n e x (length l) v) n w h (and_true a (way_walk p))

  pub length_trail : (x k z : ℕ) → length (trail n e x k z) ≡ k
  unfolding trail
  length_trail x zero z = refl
  length_trail x (suc k) z = ap suc (length_trail x k _)

  pub trail_way : (x k z : ℕ) → walk n e x k z ≡ true → Way n e x z (trail n e x k z)
  unfolding trail walk
  trail_way x zero z h = subst (λ (v : ℕ). Way n e x v []) (sym (eqb-true z x h)) there
  trail_way x (suc k) z h =
      let r = least_hit (λ w. e z w and walk n e x k w) n h in
      onward r.0 (split r.1).0 (trail_way x k _ (split r.1).1)

  pub walk_way : (x k z : ℕ) → (walk n e x k z ≡ true) ↔ ((l : List ℕ) × (length l ≡ k) × Way n e x z l)
  walk_way x k z = (λ h. (trail n e x k z, length_trail x k z, trail_way x k z h), λ r. subst (λ (i : ℕ). walk n e x i z ≡ true) r.1 (way_walk r.2))

  -- no walk ends outside the bound
  pub walk_out : (x k z : ℕ) → n ≤ x → z < n → walk n e x k z ≡ false
  unfolding walk
  walk_out x zero z h l = ne_eqb z x (λ q. omega arith)
  walk_out x (suc k) z h l = any_not (λ w. e z w and walk n e x k w) n (λ w m. and_false_right (e z w) _ (walk_out x k w h m))

  -- ---- a way with a number twice has a shorter one

  way_below : {x z : ℕ} {l : List ℕ} → Way n e x z l → z < n → (k : ℕ) → k < length l → get_or l k 0 < n
  way_below there b k h = absurd (not-suc-le-zero h)
  way_below (onward d a p) b zero h = b
  way_below (onward d a p) b (suc k) h = way_below p d k (omega arith)

  -- from place j on
  rest : {x z : ℕ} {l : List ℕ} → Way n e x z l → (j : ℕ) → j < length l → (m : List ℕ) × (length m + j ≡ length l) × Way n e x (get_or l j 0) m
  rest there j h = absurd (not-suc-le-zero h)
  rest (onward {z} {l = l} d a p) zero h = (z ∷ l, omega arith, onward d a p)
  rest (onward d a p) (suc j) h = let r = rest p j (omega arith) in let q = r.1 in (r.0, omega arith, r.2)

  -- up to place i, and from there another way
  detour : {x z : ℕ} {l : List ℕ} → Way n e x z l → (i : ℕ) → i < length l → (m : List ℕ) → Way n e x (get_or l i 0) m
      → (k : List ℕ) × (length k ≡ length m + i) × Way n e x z k
  detour there i h m q = absurd (not-suc-le-zero h)
  detour (onward d a p) zero h m q = (m, omega arith, q)
  detour (onward {z} d a p) (suc i) h m q = let r = detour p i (omega arith) m q in let s = r.1 in (z ∷ r.0, omega arith, onward d a r.2)

  shorter : {x z : ℕ} {l : List ℕ} → Way n e x z l → (i j : ℕ) → i < j → j < length l → get_or l i 0 ≡ get_or l j 0
      → (m : List ℕ) × (1 ≤ length m) × (length m < length l) × Way n e x z m
  shorter {x} p i j h k q =
      let r = rest p j k in
      let s = detour p i (omega arith) r.0 (subst (λ (v : ℕ). Way n e x v r.0) (sym q) r.2) in
      let a = r.1 in
      let b = s.1 in
      (s.0, omega arith, omega arith, s.2)

  -- n steps are enough; c bounds the length of the way that is cut
  enough : (c : ℕ) {x z : ℕ} {l : List ℕ} → length l ≤ c → z < n → 1 ≤ length l → Way n e x z l → (m : List ℕ) × (1 ≤ length m) × (length m ≤ n) × Way n e x z m
  enough zero h b s p = absurd (omega arith)
  enough (suc c) {x} {z} {l} h b s p = go (dec_lt n (length l)) (λ m. enough c {l = m})
    where
      Short : Type 0
      Short = (m : List ℕ) × (1 ≤ length m) × (length m ≤ n) × Way n e x z m

      go : Dec (n < length l) → ((m : List ℕ) → length m ≤ c → z < n → 1 ≤ length m → Way n e x z m → Short) → Short
      go (no d) ih = (l, s, omega arith, p)
      go (yes d) ih =
          let t = twice n (λ k. get_or l k 0) (λ k k≤n. way_below p b k (omega arith)) in
          let u = t.3 in
          let r = shorter p t.0 t.1 t.2 (omega arith) t.4 in
          let v = r.2 in
          ih r.0 (omega arith) b r.1 r.3

  -- ---- a walk of at most n steps is there exactly where a number is reached; a cycle, where one reaches itself

  way_reach : {x z : ℕ} {l : List ℕ} → 1 ≤ length l → Way n e x z l → Reach e n z x
  way_reach h there = absurd (not-suc-le-zero h)
  way_reach h (onward d a there) = one a
  way_reach h (onward d a (onward f b p)) = more a d (way_reach (omega arith) (onward f b p))

  reach_way : {x z : ℕ} → x < n → Reach e n z x → (l : List ℕ) × (1 ≤ length l) × Way n e x z l
  reach_way b (one {i} a) = (i ∷ [], omega arith, onward b a there)
  reach_way b (more {i} a d p) = let r = reach_way b p in (i ∷ r.0, omega arith, onward d a r.2)

  pub walk_reach : (x z : ℕ) → x < n → z < n → (any_below n (λ k. walk n e x (suc k) z) ≡ true) ↔ Reach e n z x
  walk_reach x z b d = (out, λ p. into (reach_way b p))
    where
      p : ℕ → Bool
      p k = walk n e x (suc k) z

      out : any_below n p ≡ true → Reach e n z x
      out t = let r = any_out p n t in let w = (walk_way x (suc r.0) z).0 r.2 in let q = w.1 in way_reach (omega arith) w.2

      into : (l : List ℕ) × (1 ≤ length l) × Way n e x z l → any_below n p ≡ true
      into w = go (enough (length w.0) (omega arith) d w.1 w.2)
        where
          go : (l : List ℕ) × (1 ≤ length l) × (length l ≤ n) × Way n e x z l → any_below n p ≡ true
          go ([], h, k, q) = absurd (not-suc-le-zero h)
          go (v ∷ l, h, k, q) = any_in p n (length l) k (way_walk q)

  pub on_cycle_is : (x : ℕ) → x < n → (on_cycle n e x ≡ true) ↔ Reach e n x x
  unfolding on_cycle
  on_cycle_is x b = walk_reach x x b b

  pub cycle_exists : (cycle_start n e < n) ↔ ((x : ℕ) × (x < n) × Reach e n x x)
  unfolding cycle_start
  cycle_exists = (
    λ h. (cycle_start n e, h, (on_cycle_is _ h).0 ((least_is (on_cycle n e) n).hit h)),
    λ r. (least_hit (on_cycle n e) n (any_in (on_cycle n e) n r.0 r.1 ((on_cycle_is r.0 r.1).1 r.2))).0,
  )

  pub cycle_none : (cycle_start n e ≡ n) ↔ ((x : ℕ) → x < n → Reach e n x x → ⊥)
  unfolding cycle_start
  cycle_none = (λ q x h p. let l = cycle_exists.1 (x, h, p) in omega arith, λ f. go f (dec_lt (cycle_start n e) n))
    where
      go : ((x : ℕ) → x < n → Reach e n x x → ⊥) → Dec (cycle_start n e < n) → cycle_start n e ≡ n
      go f (yes h) = let r = cycle_exists.0 h in absurd (f r.0 r.1 r.2)
      go f (no h) = omega (arith, (least_is (on_cycle n e) n).bound)

  -- ---- the trail is the least list

  -- a trail from a lower number comes first
  lower : {x c w : ℕ} {l : List ℕ} → c ≤ w → Way n e x w l → Lex (trail n e x (length l) w) l → Lex (trail n e x (length l) c) l
  unfolding trail
  lower h there t = done
  lower {x} h (onward {z} {l = l} d a p) t =
      ⊎_elim (λ q. subst (λ (v : ℕ). Lex (trail n e x (suc (length l)) v) (z ∷ l)) (sym q) t) (λ b. less b) (eq-or-lt_of_le h)

  trail_first : {x z : ℕ} {l : List ℕ} → Way n e x z l → Lex (trail n e x (length l) z) l
  unfolding trail
  trail_first there = done
  trail_first {x} (onward {z} {w} {l} d a p) =
      same (lower (least_low (λ v. e z v and walk n e x (length l) v) n w (and_true a (way_walk p))) p (trail_first p))

  -- ---- the cycle that is shown

  size_hit : (x : ℕ) → on_cycle n e x ≡ true → (cycle_size n e x ≤ n) × (walk n e x (cycle_size n e x) x ≡ true)
  unfolding on_cycle cycle_size
  size_hit x t = least_hit (λ k. walk n e x (suc k) x) n t

  size_low : {x : ℕ} {m : List ℕ} → Way n e x x m → 1 ≤ length m → cycle_size n e x ≤ length m
  unfolding cycle_size
  size_low {x} {m} p h =
      let q : suc (length m - 1) ≡ length m = omega arith in
      omega (arith, q, least_low (λ k. walk n e x (suc k) x) n (length m - 1) (subst (λ (k : ℕ). walk n e x k x ≡ true) (sym q) (way_walk p)))

  pub cycle_canonical : cycle_start n e < n → Canonical n e (cycle n e)
  unfolding cycle_start cycle_size cycle
  cycle_canonical b =
      record {
        way = way;
        some = omega (arith, len);
        rows = omega (arith, hit.0, len);
        lowest = λ x h p. least_low (on_cycle n e) n x ((on_cycle_is x h).1 p);
        fewest = few;
        first = λ m w q. subst (λ (k : ℕ). Lex (trail n e s k s) m) (q ∙ len) (trail_first w);
        below = way_below way b;
        once = λ i j h k q. let r = shorter way i j h k q in let u = r.2 in absurd (omega (arith, few r.0 r.3 r.1));
      }
    where
      s : ℕ
      s = cycle_start n e

      hit : (cycle_size n e s ≤ n) × (walk n e s (cycle_size n e s) s ≡ true)
      hit = size_hit s ((least_is (on_cycle n e) n).hit b)

      len : length (trail n e s (cycle_size n e s) s) ≡ cycle_size n e s
      len = length_trail s (cycle_size n e s) s

      way : Way n e s s (trail n e s (cycle_size n e s) s)
      way = trail_way s (cycle_size n e s) s hit.1

      few : (m : List ℕ) → Way n e s s m → 1 ≤ length m → length (trail n e s (cycle_size n e s) s) ≤ length m
      few m w h = rw len (size_low w h)

-- ---- relations that agree below the bound

module _ (n : ℕ) (e f : ℕ → ℕ → Bool) (agree : (i j : ℕ) → i < n → j < n → e i j ≡ f i j) where
  pub walk_cong : (x k z : ℕ) → z < n → walk n e x k z ≡ walk n f x k z
  unfolding walk
  walk_cong x zero z h = refl
  walk_cong x (suc k) z h =
      any_cong (λ w. e z w and walk n e x k w) (λ w. f z w and walk n f x k w) n (λ w l. rw (agree z w h l, walk_cong x k w l) refl)

  pub on_cycle_cong : (x : ℕ) → x < n → on_cycle n e x ≡ on_cycle n f x
  unfolding on_cycle
  on_cycle_cong x h = any_cong (λ k. walk n e x (suc k) x) (λ k. walk n f x (suc k) x) n (λ k l. walk_cong x (suc k) x h)

  pub cycle_start_cong : cycle_start n e ≡ cycle_start n f
  unfolding cycle_start
  cycle_start_cong = least_cong (on_cycle n e) (on_cycle n f) n on_cycle_cong

  pub cycle_size_cong : (x : ℕ) → x < n → cycle_size n e x ≡ cycle_size n f x
  unfolding cycle_size
  cycle_size_cong x h = ap suc (least_cong (λ k. walk n e x (suc k) x) (λ k. walk n f x (suc k) x) n (λ k l. walk_cong x (suc k) x h))

  -- where the walk is there: past a missing step the trail reads outside the bound
  pub trail_cong : (x k z : ℕ) → z < n → walk n e x k z ≡ true → trail n e x k z ≡ trail n f x k z
  unfolding trail walk
  trail_cong x zero z h t = refl
  trail_cong x (suc k) z h t =
      let p : ℕ → Bool = λ w. e z w and walk n e x k w in
      let r = least_hit p n t in
      let q = least_cong p (λ w. f z w and walk n f x k w) n (λ w l. rw (agree z w h l, walk_cong x k w l) refl) in
      ap (λ (l : List ℕ). z ∷ l) (trail_cong x k (least n p) r.0 (split r.1).1 ∙ ap (trail n f x k) q)

  -- where no cycle is, the relation does not matter
  next_out : (x k z : ℕ) → n ≤ x → (w : ℕ) → w < n → (e z w and walk n e x k w) ≡ (f z w and walk n f x k w)
  next_out x k z h w l = and_false_right (e z w) _ (walk_out n e x k w h l) ∙ sym (and_false_right (f z w) _ (walk_out n f x k w h l))

  size_out : (x : ℕ) → n ≤ x → cycle_size n e x ≡ cycle_size n f x
  unfolding cycle_size walk
  size_out x h =
      ap suc (least_cong (λ k. walk n e x (suc k) x) (λ k. walk n f x (suc k) x) n
      (λ k l. any_cong (λ w. e x w and walk n e x k w) (λ w. f x w and walk n f x k w) n (next_out x k x h)))

  trail_out : (x k z : ℕ) → n ≤ x → trail n e x k z ≡ trail n f x k z
  unfolding trail
  trail_out x zero z h = refl
  trail_out x (suc k) z h =
      ap (λ (l : List ℕ). z ∷ l) (trail_out x k _ h
      ∙ ap (trail n f x k) (least_cong (λ w. e z w and walk n e x k w) (λ w. f z w and walk n f x k w) n (next_out x k z h)))

  pub cycle_cong : cycle n e ≡ cycle n f
  unfolding cycle cycle_start
  cycle_cong = rw (← cycle_start_cong) (go (dec_lt (cycle_start n e) n))
    where
      s : ℕ
      s = cycle_start n e

      go : Dec (s < n) → trail n e s (cycle_size n e s) s ≡ trail n f s (cycle_size n f s) s
      go (yes h) = rw (← cycle_size_cong s h) (trail_cong s (cycle_size n e s) s h (size_hit n e s ((least_is (on_cycle n e) n).hit h)).1)
      go (no h) = rw (← size_out s (omega arith)) (trail_out s (cycle_size n e s) s (omega arith))

-- ---- along a list

module _ (f : ℕ → ℕ → ℕ) (x : ℕ) where
  pub length_along : (l : List ℕ) → length (along f x l) ≡ length l
  unfolding along
  length_along [] = refl
  length_along (a ∷ []) = refl
  length_along (a ∷ (b ∷ l)) = ap suc (length_along (b ∷ l))

  pub along_at : (l : List ℕ) (k : ℕ) → k + 1 < length l → get_or (along f x l) k 0 ≡ f (get_or l k 0) (get_or l (k + 1) 0)
  unfolding along
  along_at [] k h = absurd (not-suc-le-zero h)
  along_at (a ∷ []) k h = absurd (omega arith)
  along_at (a ∷ (b ∷ l)) zero h = refl
  along_at (a ∷ (b ∷ l)) (suc k) h = rw (suc-add k 1) (along_at (b ∷ l) k (omega arith))

  pub along_last : (l : List ℕ) (k : ℕ) → k + 1 ≡ length l → get_or (along f x l) k 0 ≡ f (get_or l k 0) x
  unfolding along
  along_last [] k h = absurd (omega arith)
  along_last (a ∷ []) zero h = refl
  along_last (a ∷ []) (suc k) h = absurd (omega arith)
  along_last (a ∷ (b ∷ l)) zero h = absurd (omega arith)
  along_last (a ∷ (b ∷ l)) (suc k) h = along_last (b ∷ l) k (omega arith)

-- ---- between two different numbers fewer than n steps are enough

module _ (n : ℕ) (e : ℕ → ℕ → Bool) where
  -- a way's numbers, its end after the last
  passed_below : {x z : ℕ} {l : List ℕ} → Way n e x z l → x < n → z < n → (k : ℕ) → get_or l k x < n
  passed_below there a b zero = a
  passed_below there a b (suc k) = a
  passed_below (onward d f p) a b zero = b
  passed_below (onward d f p) a b (suc k) = passed_below p a d k

  passed_in : (x : ℕ) (l : List ℕ) (k : ℕ) → k < length l → get_or l k x ≡ get_or l k 0
  passed_in x [] k h = absurd (not-suc-le-zero h)
  passed_in x (a ∷ l) zero h = refl
  passed_in x (a ∷ l) (suc k) h = passed_in x l k (omega arith)

  passed_end : (x : ℕ) (l : List ℕ) → get_or l (length l) x ≡ x
  passed_end x [] = refl
  passed_end x (a ∷ l) = passed_end x l

  -- a way that passes its end has a shorter one
  ends : {x z : ℕ} {l : List ℕ} → Way n e x z l → (z ≡ x → ⊥) → (i : ℕ) → i < length l → get_or l i 0 ≡ x
      → (m : List ℕ) × (1 ≤ length m) × (length m < length l) × Way n e x z m
  ends there apart i s r = absurd (not-suc-le-zero s)
  ends (onward d f w) apart zero s r = absurd (apart r)
  ends {x} (onward d f w) apart (suc i) s r =
      let t = detour n e (onward d f w) (suc i) s [] (subst (λ (v : ℕ). Way n e x v []) (sym r) there) in
      let u = t.1 in
      (t.0, omega arith, omega arith, t.2)

  -- and so has one that passes any number twice, its end among them
  cut : {x z : ℕ} {l : List ℕ} → Way n e x z l → (z ≡ x → ⊥) → (i j : ℕ) → i < j → j ≤ length l → get_or l i x ≡ get_or l j x
      → (m : List ℕ) × (1 ≤ length m) × (length m < length l) × Way n e x z m
  cut {x} {z} {l} way apart i j earlier inside equal = go (dec_lt j (length l))
    where
      go : Dec (j < length l) → (m : List ℕ) × (1 ≤ length m) × (length m < length l) × Way n e x z m
      go (yes s) = shorter n e way i j earlier s (sym (passed_in x l i (omega arith)) ∙ equal ∙ passed_in x l j s)
      go (no s) =
          let t : j ≡ length l = omega arith in
          ends way apart i (omega arith) (sym (passed_in x l i (omega arith)) ∙ equal ∙ ap (λ (v : ℕ). get_or l v x) t ∙ passed_end x l)

  -- the fewest steps from z to x
  pub least_apart : (x z : ℕ) → x < n → z < n → (z ≡ x → ⊥) → any_below n (λ j. walk n e x (suc j) z) ≡ true
      → suc (least n (λ j. walk n e x (suc j) z)) < n
  least_apart x z a b apart t = go (dec_lt (suc k) n)
    where
      p : ℕ → Bool
      p j = walk n e x (suc j) z

      k : ℕ
      k = least n p

      hit : (k < n) × (p k ≡ true)
      hit = least_hit p n t

      l : List ℕ
      l = trail n e x (suc k) z

      len : length l ≡ suc k
      len = length_trail n e x (suc k) z

      way : Way n e x z l
      way = trail_way n e x (suc k) z hit.1

      low : (m : List ℕ) → 1 ≤ length m → length m < length l → Way n e x z m → ⊥
      low [] h s w = not-suc-le-zero h
      low (v ∷ m) h s w = let d : k ≤ length m = least_low p n (length m) (way_walk n e w) in omega (arith, len)

      go : Dec (suc k < n) → suc k < n
      go (yes h) = h
      go (no h) =
          let f = hit.0 in
          let s = twice n (λ (i : ℕ). get_or l i x) (λ i c. passed_below way a b i) in
          let u = s.3 in
          let r = cut way apart s.0 s.1 s.2 (omega (arith, len)) s.4 in
          absurd (low r.0 r.1 r.2 r.3)
