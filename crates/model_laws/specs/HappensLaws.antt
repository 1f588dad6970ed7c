-- Happens-before is what M6 and M7 say, for any number of rows: program order, or for some class set the transitive closure of the
-- direct cases. Class sets that no row holds need not be asked. Assumes nothing.
use Rattle.std.specs.Prelude.{◌≡◌, refl, Bool, true, false, ◌⊎◌, ◌↔◌, ℕ, zero, suc, ◌*◌, ◌/◌, ◌≤◌, ◌<◌, eqb}
use Rattle.std.proofs.Math.Logic.{inl, inr}
use Rattle.std.proofs.Common.{⊎_elim, arith}
use Rattle.finite.specs.Logic.{◌and◌, ◌or◌, bool_ext, split, and_true, or_cases, or_left, or_right, which, not_both}
use Rattle.finite.specs.Below.{any_below, any_in, any_out}
use Rattle.finite.specs.Closure.{Reach, one, more, through, through_reach}
use Rattle.model.specs.Limits.{CLASS_SETS}
use Rattle.model.specs.Row.{holds}
use Rattle.model.specs.Table.{Table}
use Rattle.model.specs.Moment.{program_order}
use Rattle.model.specs.Happens.{holding_of, holding, by_sync, to_release, from_acquire, by_system, step, inter_thread, inter_thread_by, happens}
use Rattle.model.specs.Words.{HappensBefore}
use Rattle.model_laws.specs.CaseLaws.{step_last, step_out}

-- ---- definitions

unfoldable pub holds_all : Table → ℕ → ℕ → Bool
holds_all t s i = holds (t.row i).classes s

-- the class sets that an engine asks: the first, and those that some row holds
unfoldable pub live : Table → ℕ → Bool
live t s = eqb s 1 or any_below t.rows (holds_all t s)

-- inter-thread order for class set k + 1, if it is asked
unfoldable pub live_by : Table → ℕ → ℕ → ℕ → Bool
live_by t m n k = live t (suc k) and inter_thread t (suc k) m n

-- ---- M7, for any number of rows

pub happens_is : (t : Table) (m n : ℕ) → (happens t m n ≡ true) ↔ HappensBefore t m n
unfolding happens inter_thread_by inter_thread
happens_is t m n = (forth, back)
  where
    by : ℕ → Bool
    by k = through (step t (suc k)) (3 * t.rows) m n

    forth : (program_order t m n or any_below CLASS_SETS by) ≡ true → HappensBefore t m n
    forth e =
        ⊎_elim (λ h. inl h)
        (λ h. let r = any_out by CLASS_SETS h in
        let l = r.1 in
        inr (suc r.0, omega arith, omega arith, (through_reach (step t (suc r.0)) (3 * t.rows) m n).0 r.2))
        (or_cases (program_order t m n) (any_below CLASS_SETS by) e)

    some : (s : ℕ) → 1 ≤ s → s ≤ CLASS_SETS → Reach (step t s) (3 * t.rows) m n → any_below CLASS_SETS by ≡ true
    some zero a b r = absurd (omega arith)
    some (suc k) a b r = any_in by CLASS_SETS k (omega arith) ((through_reach (step t (suc k)) (3 * t.rows) m n).1 r)

    back : HappensBefore t m n → (program_order t m n or any_below CLASS_SETS by) ≡ true
    back d = ⊎_elim (λ h. or_left _ h) (λ w. or_right (program_order t m n) (some w.0 w.1 w.2 w.3)) d

-- ---- a direct case needs a row that holds the class set, unless it is the fourth, which the first class set has too

module _ (t : Table) (s : ℕ) where
  holding_live : (m : ℕ) → m < 3 * t.rows → holding t s m ≡ true → live t s ≡ true
  unfolding holding holding_of live holds_all
  holding_live m l h = or_right (eqb s 1) (any_in (λ i. holds (t.row i).classes s) t.rows (m / 3) (omega arith) (split h).1)

  step_live : (m n : ℕ) → m < 3 * t.rows → n < 3 * t.rows → step t s m n ≡ true → (live t s ≡ true) ⊎ (by_system t m n ≡ true)
  unfolding by_sync to_release from_acquire
  step_live m n p q e = go (step_out t s m n e)
    where
      go : (by_sync t s m n ≡ true) ⊎ ((to_release t s m n ≡ true) ⊎ ((from_acquire t s m n ≡ true) ⊎ (by_system t m n ≡ true)))
          → (live t s ≡ true) ⊎ (by_system t m n ≡ true)
      go (inl a) = inl (holding_live m p (split (split a).0).0)
      go (inr (inl a)) = inl (holding_live n q (split (split (split a).0).0).0)
      go (inr (inr (inl a))) = inl (holding_live m p (split (split (split a).0).0).0)
      go (inr (inr (inr a))) = inr a

  system_step : (m n : ℕ) → by_system t m n ≡ true → step t 1 m n ≡ true
  system_step m n e = rw (step_last t 1 m n) (or_right _ e)

  -- a class set that isn't live reaches no more than the first one
  module _ (off : live t s ≡ false) where
    first_step : (m n : ℕ) → m < 3 * t.rows → n < 3 * t.rows → step t s m n ≡ true → step t 1 m n ≡ true
    first_step m n p q e = ⊎_elim (λ a. not_both a off) (λ b. system_step m n b) (step_live m n p q e)

    reach_first : {m n : ℕ} → m < 3 * t.rows → n < 3 * t.rows → Reach (step t s) (3 * t.rows) m n → Reach (step t 1) (3 * t.rows) m n
    reach_first {m} {n} p q (one e) = one (first_step m n p q e)
    reach_first {m} {n} p q (more {m = k} e l r) = more (first_step m k p l e) l (reach_first l q r)

first_live : (t : Table) → live t 1 ≡ true
unfolding live
first_live t = or_left _ refl

-- M7 by the class sets that are asked
pub happens_live : (t : Table) (m n : ℕ) → m < 3 * t.rows → n < 3 * t.rows
    → (program_order t m n or any_below CLASS_SETS (live_by t m n)) ≡ happens t m n
unfolding happens inter_thread_by inter_thread live_by
happens_live t m n p q = bool_ext _ _ forth back
  where
    all : ℕ → Bool
    all k = through (step t (suc k)) (3 * t.rows) m n

    asked : ℕ → Bool
    asked k = live t (suc k) and through (step t (suc k)) (3 * t.rows) m n

    forth : (program_order t m n or any_below CLASS_SETS asked) ≡ true → (program_order t m n or any_below CLASS_SETS all) ≡ true
    forth e =
        ⊎_elim (λ h. or_left _ h)
        (λ h. let r = any_out asked CLASS_SETS h in or_right (program_order t m n) (any_in all CLASS_SETS r.0 r.1 (split r.2).1))
        (or_cases (program_order t m n) (any_below CLASS_SETS asked) e)

    some : (k : ℕ) → k < CLASS_SETS → all k ≡ true → any_below CLASS_SETS asked ≡ true
    some k l e = ⊎_elim
        (λ on. any_in asked CLASS_SETS k l (and_true on e))
        (λ off. any_in asked CLASS_SETS 0 (omega arith) (and_true (first_live t) ((through_reach (step t 1) (3 * t.rows) m n).1
        (reach_first t (suc k) off p q ((through_reach (step t (suc k)) (3 * t.rows) m n).0 e)))))
        (which (live t (suc k)))

    back : (program_order t m n or any_below CLASS_SETS all) ≡ true → (program_order t m n or any_below CLASS_SETS asked) ≡ true
    back e =
        ⊎_elim (λ h. or_left _ h)
        (λ h. let r = any_out all CLASS_SETS h in or_right (program_order t m n) (some r.0 r.1 r.2))
        (or_cases (program_order t m n) (any_below CLASS_SETS all) e)
