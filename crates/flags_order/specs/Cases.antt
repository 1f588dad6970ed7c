-- The three direct cases of M6 that go by rows, on rows that are decoded already, and that they are the table's. Assumes nothing.
use Rattle.std.specs.Prelude.{◌≡◌, Bool, true, false, not, ◌⊎◌, List, ℕ, ◌*◌, ◌/◌, ◌%◌, ◌<◌}
use Rattle.std.proofs.Math.Path.{refl, sym}
use Rattle.std.proofs.Common.{◌∙◌, arith, eqb-true, eq-eqb, ne_eqb}
use Rattle.std.proofs.Math.Logic.{inl, inr}
use Rattle.bits.specs.Matrix.{rel}
use Rattle.work_area.specs.Regions.{SYNC, GRID}
use Rattle.work_area.specs.Synced.{Synced}
use Rattle.finite.specs.Logic.{◌and◌, ◌or◌, split, and_false_right, not_out, or_cases, or_left, or_none, or_false}
use Rattle.finite.specs.Below.{any_below, any_cong}
use Rattle.model.specs.declared.Row.{Row}
use Rattle.model.specs.Row.{releases, acquires}
use Rattle.model.specs.Table.{Mode, decode, row_of}
use Rattle.model.specs.Moment.{AT, row_in, part, program_order}
use Rattle.model.specs.Synchronizes.{synchronizes}
use Rattle.model.specs.Happens.{holding_of, concerns_of, holding, by_sync, to_release, from_acquire, ROW_CASES}
use Rattle.model_laws.specs.HappensLaws.{holds_all, live}
use Rattle.model_laws.specs.CaseLaws.{row_cases}
use Rattle.model_laws.specs.HostLaws.{step₁}
use Rattle.run_rows.specs.Cases.{holds_at, nth_case_rows, case_one, case_two, case_three, nth_is}

-- ---- definitions

-- M6: one of these from the moment `from` of r to the moment `to` of q; b says that r synchronizes-with q, o that the one moment is
-- program-ordered before the other
unfoldable pub step_rows : ℕ → ℕ → ℕ → Row → Row → Bool → Bool → Bool
step_rows s from to r q b o = any_below ROW_CASES (nth_case_rows s from to r q b o)

-- ---- laws: of two rows

module _ (s from to : ℕ) (r q : Row) (b o : Bool) where
  -- each of them in full
  steps_are : step_rows s from to r q b o
      ≡ (holding_of s r from and holding_of s q to and b or holding_of s q to and releases q and concerns_of s r from and o
      or holding_of s r from and acquires r and concerns_of s q to and o)
  unfolding step_rows any_below nth_case_rows ◌or◌
  steps_are = rw (case_one s from to r q b o, case_two s from to r q b o, case_three s from to r q b o) refl

  -- neither moment holds all of s: none of them
  pub step_off : (h g : Bool) → h ≡ holding_of s r from → g ≡ holding_of s q to → not (h or g) ≡ true → false ≡ step_rows s from to r q b o
  unfolding ◌and◌ ◌or◌
  step_off h g x y f =
      let z = or_false h g (not_out (h or g) f) in
      rw (steps_are, sym x ∙ z.0, sym y ∙ z.1) refl

-- neither synchronizes-with nor program order: none of them
pub step_apart : (s from to : ℕ) (r q : Row) (b o v : Bool) → o ≡ v → not (b or o) ≡ true → false ≡ step_rows s from to r q b v
step_apart s from to r q b o v e f =
    let z = or_false b o (not_out (b or o) f) in
    sym (steps_are s from to r q b v ∙ or_none (or_none (and_false_right _ _ z.0) (and_false_right _ _ (sym e ∙ z.1))) (and_false_right _ _ (sym e ∙ z.1)))

-- on rows and order that were read
pub step_told : (s from to : ℕ) (r q x y : Row) (b o v d : Bool) → d ≡ step_rows s from to r q b o → r ≡ x → q ≡ y → o ≡ v → d ≡ step_rows s from to x y b v
step_told s from to r q x y b o v d f e g h = rw (← e, ← g, ← h) f

-- ---- laws: of a table

module _ (b : List ℕ) (p : List (List ℕ)) (mode : Mode) (n : ℕ) where
  pub step_is : (s m k : ℕ)
      → step₁ (decode b p mode n) s m k
      ≡ step_rows s (part m) (part k) (row_of b (row_in m)) (row_of b (row_in k)) (synchronizes (decode b p mode n) (row_in m) (row_in k))
      (program_order (decode b p mode n) m k)
  unfolding step₁ step_rows
  step_is s m k = any_cong _ _ ROW_CASES (nth_is b p mode n s m k)

  -- the test on rows, with the bit of the work area
  pub step_read : (w : List ℕ) (s m k : ℕ) (v d : Bool) → Synced (decode b p mode n) n w → m < 3 * n → k < 3 * n → v ≡ rel w SYNC GRID (m / 3) (k / 3)
      → d ≡ step_rows s (m % 3) (k % 3) (row_of b (m / 3)) (row_of b (k / 3)) v (program_order (decode b p mode n) m k) → d ≡ step₁ (decode b p mode n) s m k
  step_read w s m k v d synced first_there second_there bit_is tested =
      rw (step_is s m k, ← (bit_is ∙ synced.syncs.cell (m / 3) (k / 3) (omega arith) (omega arith))) tested

  -- a moment that holds all of s is the own moment of a row that does
  own : (s m : ℕ) → holding (decode b p mode n) s m ≡ true → (m % 3 ≡ AT) × (holds_at b s (m / 3) ≡ true)
  unfolding holding holding_of holds_at decode
  own s m h = (eqb-true _ _ (split (split h).0).0, (split h).1)

  -- each of the three has such a moment at one end
  pub step_ends : (s m k : ℕ) → step₁ (decode b p mode n) s m k ≡ true
      → ((m % 3 ≡ AT) × (holds_at b s (m / 3) ≡ true)) ⊎ ((k % 3 ≡ AT) × (holds_at b s (k / 3) ≡ true))
  unfolding step₁ by_sync to_release from_acquire
  step_ends s m k h = go (or_cases _ _ (rw (row_cases (decode b p mode n) s m k) at h))
    where
      inner : (by_sync (decode b p mode n) s m k ≡ true) ⊎ (to_release (decode b p mode n) s m k ≡ true)
          → ((m % 3 ≡ AT) × (holds_at b s (m / 3) ≡ true)) ⊎ ((k % 3 ≡ AT) × (holds_at b s (k / 3) ≡ true))
      inner (inl e) = inl (own s m (split (split e).0).0)
      inner (inr e) = inr (own s k (split (split (split e).0).0).0)

      go : ((by_sync (decode b p mode n) s m k or to_release (decode b p mode n) s m k) ≡ true) ⊎ (from_acquire (decode b p mode n) s m k ≡ true)
          → ((m % 3 ≡ AT) × (holds_at b s (m / 3) ≡ true)) ⊎ ((k % 3 ≡ AT) × (holds_at b s (k / 3) ≡ true))
      go (inl e) = inner (or_cases _ _ e)
      go (inr e) = inl (own s m (split (split (split e).0).0).0)

  -- the first class set is asked always, another one if some row holds all of it
  pub live_first : (s : ℕ) → s ≡ 1 → live (decode b p mode n) s ≡ true
  unfolding live
  live_first s e = or_left _ (eq-eqb s 1 e)

  pub live_other : (s : ℕ) → (s ≡ 1 → ⊥) → live (decode b p mode n) s ≡ any_below n (holds_at b s)
  unfolding live holds_all holds_at decode ◌or◌
  live_other s e = rw (ne_eqb s 1 e) refl
