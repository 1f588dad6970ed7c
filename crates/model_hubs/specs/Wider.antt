-- A class set all of whose holders hold a wider one adds nothing that the wider one does not: its direct cases are among the other's.
-- For any table. Assumes nothing.
use Rattle.std.specs.Prelude.{◌≡◌, refl, Bool, not, cond, ◌⊎◌, ℕ, zero, suc, ◌+◌, ◌*◌, ◌/◌, ◌%◌, ◌≤◌, ◌<◌, min, eqb}
use Rattle.std.proofs.Common.{sym, ap, ap₂, ◌∙◌, inl, inr, arith, eqb-true, eq-eqb}
use Rattle.std.proofs.Math.Bool.{true, false}
use Rattle.std.proofs.Math.Arith.{bin_ind}
use Rattle.std.specs.Int.Bits.{bit_and, and_step}
use Rattle.std.proofs.lemmas.Nat.{and_shr, and_comm}
use Rattle.finite.specs.Logic.{◌and◌, ◌or◌, not_both, not_so, not_in, not_out, split, and_true, or_cases, or_left, or_right}
use Rattle.finite.specs.Closure.{Reach, one, more, through_reach}
use Rattle.model.specs.declared.Row.{Row}
use Rattle.model.specs.Row.{access, holds, meets, class_in, single}
use Rattle.model.specs.Limits.{CLASS_SETS}
use Rattle.model.specs.Table.{Table}
use Rattle.model.specs.Moment.{AT, row_in, part, classes_of}
use Rattle.model.specs.Happens.{holding_of, concerns_of, holding, concerns, by_sync, to_release, from_acquire, by_system, step, inter_thread}
use Rattle.model_laws.specs.CaseLaws.{step_cases, step_out}

-- ---- definitions

-- the classes c, less those that k has not, where k holds all of s
unfoldable pub less_by : ℕ → ℕ → ℕ → ℕ
less_by s c k = cond (holds k s) (bit_and c k) c

-- the classes that each of the first n rows has, of those that hold all of s
unfoldable pub shared_by : Table → ℕ → ℕ → ℕ
shared_by t s zero = CLASS_SETS
shared_by t s (suc n) = less_by s (shared_by t s n) (t.row n).classes

-- ---- laws: what two numbers share

and_half : (a b : ℕ) → bit_and a b / 2 ≡ bit_and (a / 2) (b / 2)
and_half a b = and_shr a b 1

and_odd : (a b : ℕ) → bit_and a b % 2 ≡ min (a % 2) (b % 2)
and_odd a b =
    let e = and_step a b in
    let l : min (a % 2) (b % 2) < 2 = omega arith in
    omega (arith, e, l)

pub and_assoc : (a b c : ℕ) → bit_and (bit_and a b) c ≡ bit_and a (bit_and b c)
and_assoc a =
    bin_ind (λ (n : ℕ). (b c : ℕ) → bit_and (bit_and n b) c ≡ bit_and n (bit_and b c)) (λ b c. refl)
    (λ n ih b c. and_step (bit_and n b) c
    ∙ ap₂ (λ (x y : ℕ). bit_and x (c / 2) * 2 + min y (c % 2)) (and_half n b) (and_odd n b)
    ∙ ap₂ (λ (x y : ℕ). x * 2 + y) (ih (b / 2) (c / 2)) (min_assoc (n % 2) (b % 2) (c % 2))
    ∙ sym (ap₂ (λ (x y : ℕ). bit_and (n / 2) x * 2 + min (n % 2) y) (and_half b c) (and_odd b c))
    ∙ sym (and_step n (bit_and b c))) a
  where
    min_assoc : (x y z : ℕ) → min (min x y) z ≡ min x (min y z)
    min_assoc x y z = omega arith

-- ---- laws: class sets

pub holds_is : (c s : ℕ) → holds c s ≡ true → bit_and c s ≡ s
unfolding holds
holds_is c s e = eqb-true (bit_and c s) s e

-- what shares nothing with c shares nothing with s
apart_wider : (c s x : ℕ) → holds c s ≡ true → bit_and x c ≡ 0 → bit_and x s ≡ 0
apart_wider c s x h z =
    let e : bit_and x (bit_and c s) ≡ bit_and x s = ap (bit_and x) (holds_is c s h) in
    let f : bit_and (bit_and x c) s ≡ bit_and 0 s = ap (λ (y : ℕ). bit_and y s) z in
    sym e ∙ sym (and_assoc x c s) ∙ f

meets_wider : (c s x : ℕ) → holds c s ≡ true → meets x s ≡ true → meets x c ≡ true
unfolding meets
meets_wider c s x h e = not_in (not_so (eqb (bit_and x c) 0) none)
  where
    none : eqb (bit_and x c) 0 ≡ true → ⊥
    none z = not_both (eq-eqb (bit_and x s) 0 (apart_wider c s x h (eqb-true (bit_and x c) 0 z))) (not_out (eqb (bit_and x s) 0) e)

meets_swap : (a b : ℕ) → meets a b ≡ meets b a
unfolding meets
meets_swap a b = ap (λ (z : ℕ). not (eqb z 0)) (and_comm a b)

wider_meets : (c s x : ℕ) → holds c s ≡ true → meets s x ≡ true → meets c x ≡ true
wider_meets c s x h e = meets_swap c x ∙ meets_wider c s x h (meets_swap x s ∙ e)

-- ---- laws: direct cases

module _ (t : Table) (s c : ℕ) (sub : holds c s ≡ true)
    (all : (x : ℕ) → x < t.rows → holds (t.row x).classes s ≡ true → holds (t.row x).classes c ≡ true) where
  holding_wider : (m : ℕ) → m < 3 * t.rows → holding t s m ≡ true → holding t c m ≡ true
  unfolding holding holding_of
  holding_wider m l e = let a = split e in and_true a.0 (all (row_in m) (omega arith) a.1)

  touching : (b : Bool) (r : Row) → cond b (access r and class_in r s) (meets (classes_of r) s) ≡ true
      → cond b (access r and class_in r c) (meets (classes_of r) c) ≡ true
  unfolding class_in
  touching true r e = let a = split e in and_true a.0 (wider_meets c s (single r.class) sub a.1)
  touching false r e = meets_wider c s (classes_of r) sub e

  concerns_wider : (m : ℕ) → m < 3 * t.rows → concerns t s m ≡ true → concerns t c m ≡ true
  unfolding concerns concerns_of holding
  concerns_wider m l e = go (or_cases _ _ e)
    where
      go : (cond (eqb (part m) AT) (access (t.row (row_in m)) and class_in (t.row (row_in m)) s) (meets (classes_of (t.row (row_in m))) s) ≡ true)
          ⊎ (holding_of s (t.row (row_in m)) (part m) ≡ true) → concerns t c m ≡ true
      go (inl a) = or_left _ (touching (eqb (part m) AT) (t.row (row_in m)) a)
      go (inr a) = or_right _ (holding_wider m l a)

  step_wider : (m k : ℕ) → m < 3 * t.rows → k < 3 * t.rows → step t s m k ≡ true → step t c m k ≡ true
  unfolding by_sync to_release from_acquire
  step_wider m k l o e = rw (step_cases t c m k) (go (step_out t s m k e))
    where
      go : (by_sync t s m k ≡ true) ⊎ ((to_release t s m k ≡ true) ⊎ ((from_acquire t s m k ≡ true) ⊎ (by_system t m k ≡ true)))
          → (by_sync t c m k or to_release t c m k or from_acquire t c m k or by_system t m k) ≡ true
      go (inl a) =
          let u = split a in
          let v = split u.0 in
          or_left _ (or_left _ (or_left _ (and_true (and_true (holding_wider m l v.0) (holding_wider k o v.1)) u.1)))
      go (inr (inl a)) =
          let u = split a in
          let v = split u.0 in
          let z = split v.0 in
          or_left _ (or_left _ (or_right _ (and_true (and_true (and_true (holding_wider k o z.0) z.1) (concerns_wider m l v.1)) u.1)))
      go (inr (inr (inl a))) =
          let u = split a in
          let v = split u.0 in
          let z = split v.0 in
          or_left _ (or_right _ (and_true (and_true (and_true (holding_wider m l z.0) z.1) (concerns_wider k o v.1)) u.1))
      go (inr (inr (inr a))) = or_right _ a

  reach_wider : {m k : ℕ} → m < 3 * t.rows → k < 3 * t.rows → Reach (step t s) (3 * t.rows) m k → Reach (step t c) (3 * t.rows) m k
  reach_wider {m} {k} l o (one e) = one (step_wider m k l o e)
  reach_wider {m} {k} l o (more {m = a} e h q) = more (step_wider m a l h e) h (reach_wider h o q)

  -- inter-thread order for s is inter-thread order for c
  pub inter_wider : (m k : ℕ) → m < 3 * t.rows → k < 3 * t.rows → inter_thread t s m k ≡ true → inter_thread t c m k ≡ true
  unfolding inter_thread
  inter_wider m k l o e =
      (through_reach (step t c) (3 * t.rows) m k).1 (reach_wider l o ((through_reach (step t s) (3 * t.rows) m k).0 e))

-- ---- laws: the classes that all holders share

-- they have all of s, are no more than there are, and each holder has them
record Shared (t : Table) (s n c : ℕ) : Type 0 where
  low : c ≤ CLASS_SETS
  sub : holds c s ≡ true
  all : (x : ℕ) → x < n → holds (t.row x).classes s ≡ true → holds (t.row x).classes c ≡ true
