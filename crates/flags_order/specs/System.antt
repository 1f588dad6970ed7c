-- The direct case that goes by dependencies, one bit of the region for each of them, and with it all direct cases. Assumes nothing.
use Rattle.std.specs.Prelude.{◌≡◌, refl, Bool, true, false, List, ℕ, ◌+◌, ◌*◌, ◌/◌, ◌%◌, ◌≤◌, ◌<◌, length, get_or, eqb}
use Rattle.std.proofs.Math.Path.{sym}
use Rattle.std.proofs.Common.{ap, ◌∙◌, add-one}
use native.Mathlib.Omega.{arith}
use Rattle.std.proofs.Math.Decide.{ℕ_discrete}
use borrow.Author.Tests.{eqb-true, eq-eqb}
use Rattle.finite.specs.Logic.{◌and◌, ◌or◌, split, and_true, and_false_right, not_so, or_off, or_right, or_assoc}
use Rattle.finite.specs.Below.{any_below, any_none}
use Rattle.bits.specs.Bit.{set_bit, set_bit_same, set_bit_other}
use Rattle.bits.specs.Matrix.{rel}
use Rattle.bits.specs.Within.{within_trans, within_set_bit}
use Rattle.bits.specs.Stage.{Made, Added, holds_cong, holds_added, added_none}
use Rattle.model.specs.Limits.{ROWS, WORK}
use Rattle.model.specs.Table.{Mode, dependency, depends_of, decode}
use Rattle.model.specs.Moment.{AT, row_in, part}
use Rattle.model.specs.Happens.{by_system, step}
use Rattle.model_laws.specs.CaseLaws.{step_last}
use Rattle.model_laws.specs.HostLaws.{step₁}
use Rattle.work_area.specs.Regions.{STEP, STEP_END, MOMENTS}

-- ---- definitions

-- dependency c leads from moment m to moment k: from the one row itself to the other
unfoldable pub system_by : Mode → ℕ → ℕ → ℕ → Bool
system_by mode c m k = eqb (part m) AT and eqb (part k) AT and dependency mode (row_in m) (row_in k) c

-- one of the first c dependencies does
unfoldable pub system_to : Mode → ℕ → ℕ → ℕ → Bool
system_to mode c m k = eqb (part m) AT and eqb (part k) AT and any_below c (dependency mode (row_in m) (row_in k))

-- ---- laws: the dependencies in turn

pub to_none : (mode : Mode) (m k : ℕ) → system_to mode 0 m k ≡ false
unfolding system_to
to_none mode m k = and_false_right _ _ (any_none _)

spread : (a b c : Bool) → ((a and b) or (a and c)) ≡ (a and (b or c))
unfolding ◌and◌ ◌or◌
spread true b c = refl
spread false b c = refl

pub to_more : (mode : Mode) (c m k : ℕ) → (system_to mode c m k or system_by mode c m k) ≡ system_to mode (c + 1) m k
unfolding system_to system_by any_below
to_more mode c m k = rw add-one (spread _ _ _)

-- all of them, in a table
pub to_all : (b : List ℕ) (p : List (List ℕ)) (mode : Mode) (n m k : ℕ) → system_to mode mode.dependencies m k ≡ by_system (decode b p mode n) m k
unfolding system_to by_system depends_of decode
to_all b p mode n m k = refl

step_more : (b : List ℕ) (p : List (List ℕ)) (mode : Mode) (n s m k : ℕ)
    → (step₁ (decode b p mode n) s m k or by_system (decode b p mode n) m k) ≡ step (decode b p mode n) s m k
unfolding step₁
step_more b p mode n s m k = sym (step_last (decode b p mode n) s m k)

-- ---- laws: one bit

module _ (mode : Mode) (n c x y : ℕ) (w : List ℕ) (ex : x ≡ get_or mode.first c 0) (ey : y ≡ get_or mode.second c 0) where
  -- the moments that dependency c is of
  there : system_by mode c (3 * x + 1) (3 * y + 1) ≡ true
  unfolding system_by dependency
  there =
      and_true (and_true (eq-eqb ((3 * x + 1) % 3) 1 (omega arith)) (eq-eqb ((3 * y + 1) % 3) 1 (omega arith)))
      (and_true (eq-eqb _ _ (let z : x ≡ (3 * x + 1) / 3 = omega arith in sym ex ∙ z)) (eq-eqb _ _ (let z : y ≡ (3 * y + 1) / 3 = omega arith in sym ey ∙ z)))

  -- and no other
  alone : (m k : ℕ) → system_by mode c m k ≡ true → (m ≡ 3 * x + 1) × (k ≡ 3 * y + 1)
  unfolding system_by dependency
  alone m k h =
      let p : m % 3 ≡ 1 = eqb-true (m % 3) 1 (split (split h).0).0 in
      let q : k % 3 ≡ 1 = eqb-true (k % 3) 1 (split (split h).0).1 in
      let f : x ≡ m / 3 = ex ∙ eqb-true (get_or mode.first c 0) (m / 3) (split (split h).1).0 in
      let g : y ≡ k / 3 = ey ∙ eqb-true (get_or mode.second c 0) (k / 3) (split (split h).1).1 in
      (omega arith, omega arith)

  -- a row that is not there: its moments are none of the table's
  pub past_first : n ≤ x → Added STEP STEP_END STEP MOMENTS (3 * n) (system_by mode c) w w
  past_first l = added_none STEP STEP_END w (λ m k p q. not_so _ (λ h. let e = (alone m k h).0 in omega arith))

  pub past_second : n ≤ y → Added STEP STEP_END STEP MOMENTS (3 * n) (system_by mode c) w w
  past_second l = added_none STEP STEP_END w (λ m k p q. not_so _ (λ h. let e = (alone m k h).1 in omega arith))

  module _ (i : ℕ) (u : List ℕ) (few : n ≤ ROWS) (room : WORK ≤ length w) (below_x : x < n) (below_y : y < n)
      (place_is : i ≡ (STEP + (3 * x + 1) * MOMENTS) * 64 + (3 * y + 1)) (put : u ≡ set_bit w i) where
    same : rel u STEP MOMENTS (3 * x + 1) (3 * y + 1) ≡ true
    unfolding rel
    same = rw (put, place_is) (set_bit_same w ((STEP + (3 * x + 1) * MOMENTS) * 64 + (3 * y + 1)) (omega arith))

    other : (m k : ℕ) → m < 3 * n → k < 3 * n → ((m ≡ 3 * x + 1) × (k ≡ 3 * y + 1) → ⊥)
        → rel u STEP MOMENTS m k ≡ (rel w STEP MOMENTS m k or system_by mode c m k)
    unfolding rel
    other m k p q h =
        rw put (set_bit_other w i ((STEP + m * MOMENTS) * 64 + k) (λ e. h (omega arith, omega arith)))
        ∙ sym (or_off _ _ (not_so _ (λ e. h (alone m k e))))

    cell : (m k : ℕ) → m < 3 * n → k < 3 * n → Dec (m ≡ 3 * x + 1) → Dec (k ≡ 3 * y + 1)
        → rel u STEP MOMENTS m k ≡ (rel w STEP MOMENTS m k or system_by mode c m k)
    cell m k p q (yes e) (yes f) = rw (e, f) (same ∙ sym (or_right _ there))
    cell m k p q (yes e) (no f) = other m k p q (λ h. f h.1)
    cell m k p q (no e) f = other m k p q (λ h. e h.0)

    -- its bit is set
    pub added_put : Added STEP STEP_END STEP MOMENTS (3 * n) (system_by mode c) w u
    added_put =
        record {
          cell = λ m k p q. cell m k p q (ℕ_discrete m (3 * x + 1)) (ℕ_discrete k (3 * y + 1));
          frame = rw put (within_set_bit STEP STEP_END w i (omega arith) (omega arith));
        }

-- ---- laws: the stages

pub all_none : (mode : Mode) (n : ℕ) (w : List ℕ) → Added STEP STEP_END STEP MOMENTS (3 * n) (system_to mode 0) w w
all_none mode n w = added_none STEP STEP_END w (λ m k p q. to_none mode m k)

pub all_more : (mode : Mode) (n c : ℕ) {w v u : List ℕ} → Added STEP STEP_END STEP MOMENTS (3 * n) (system_to mode c) w v
    → Added STEP STEP_END STEP MOMENTS (3 * n) (system_by mode c) v u → Added STEP STEP_END STEP MOMENTS (3 * n) (system_to mode (c + 1)) w u
all_more mode n c {w} f g =
    record {
      cell = λ m k p q. g.cell m k p q ∙ ap (λ (b : Bool). b or system_by mode c m k) (f.cell m k p q) ∙ or_assoc _ _ _
          ∙ ap (λ (b : Bool). rel w STEP MOMENTS m k or b) (to_more mode c m k);
      frame = within_trans f.frame g.frame;
    }

-- after the three direct cases that go by rows
pub step_made : (b : List ℕ) (p : List (List ℕ)) (mode : Mode) (n s : ℕ) {w v u : List ℕ}
    → Made STEP STEP_END STEP MOMENTS (3 * n) (step₁ (decode b p mode n) s) w v
    → Added STEP STEP_END STEP MOMENTS (3 * n) (system_to mode mode.dependencies) v u
    → Made STEP STEP_END STEP MOMENTS (3 * n) (step (decode b p mode n) s) w u
step_made b p mode n s f g = record { holds = holds_cong (λ m k l o. both m k) (holds_added f.holds g); frame = within_trans f.frame g.frame }
  where
    both : (m k : ℕ) → (step₁ (decode b p mode n) s m k or system_to mode mode.dependencies m k) ≡ step (decode b p mode n) s m k
    both m k = rw (to_all b p mode n m k) (step_more b p mode n s m k)
