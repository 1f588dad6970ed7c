-- What location order is made from: happens-before, and the reach of chains where the device has them. Assumes nothing.
use Rattle.std.specs.Prelude.{◌≡◌, Bool, false, List, ℕ, ◌+◌, ◌*◌, ◌/◌, ◌%◌, ◌≤◌, ◌<◌, ltb}
use Rattle.std.proofs.Math.Path.{refl, ap}
use Rattle.std.proofs.Common.{sym, ◌∙◌}
use Rattle.std.proofs.Math.Bool.{cond}
use native.Mathlib.Omega.{arith}
use Rattle.finite.specs.Logic.{◌and◌, split, not_both, not_so}
use Rattle.finite.specs.Closure.{through}
use Rattle.bits.specs.Within.{Within, within_refl, within_trans, within_widen}
use Rattle.bits.specs.Matrix.{rel, Closed}
use Rattle.bits.specs.Stage.{Made, holds_kept, holds_closed, within_closed}
use Rattle.model.specs.declared.Row.{Row}
use Rattle.model.specs.Row.{plain, meets, makes_available, makes_visible}
use Rattle.model.specs.Table.{Mode, Table, row_of, decode}
use Rattle.run.specs.Layout.{places_in, mode_in, rows_in, table_in}
use Rattle.model.specs.Scope.{shares}
use Rattle.model.specs.Moment.{BEFORE, AFTER, availability_of, visibility_of, availability, visibility}
use Rattle.model.specs.Happens.{happens}
use Rattle.model.specs.Availability.{availability_moment, visibility_moment, broader, broadens, narrows}
use Rattle.work_area.specs.Regions.{LOCATION, LOCATION_END, HAPPENS, MOMENTS, GRID, REACH_OUT, REACH_OUT_END, REACH_IN, REACH_IN_END}
use Rattle.work_area.specs.State.{Ordered, ordered_kept}
use Rattle.flags_location.specs.Given.{Given, GivenRows, Reaching, given_kept}
use Rattle.flags_location.specs.Chains.{available_part, visible_part, available_small, visible_small}

-- ---- definitions

-- u has a broader scope than s, and is performed in the instance of s's scope
unfoldable pub broader_rows : List (List ℕ) → Row → Row → Bool
broader_rows p s u = ltb s.scope u.scope and shares p s.scope s.agent u.agent

-- what the stage that makes both reaches says: no word outside the two regions changed
pub record MadeReach (t : Table) (n : ℕ) (w u : List ℕ) : Type 0 where
  pub reaching : Reaching t n u
  pub frame : Within REACH_OUT REACH_IN_END w u

-- ---- laws: one step, over the rows and bits

module _ (t : List ℕ) (p : List (List ℕ)) (mode : Mode) (n : ℕ) where
  pub broadens_row : (a c k m : ℕ) (s u : Row) (g d h : Bool) → s ≡ row_of t a → u ≡ row_of t c → k ≡ available_part s → m ≡ available_part u → m < 3
      → g ≡ availability_of u m → d ≡ broader_rows p s u → h ≡ happens (decode t p mode n) (3 * a + k) (3 * c + m)
      → broadens (decode t p mode n) a c ≡ (g and d and h)
  unfolding broadens broader broader_rows availability decode availability_moment available_part
  broadens_row a c k m s u g d h first_is second_is from to small makes broader_is before =
      let i : k ≡ cond (plain (row_of t a)) AFTER BEFORE = from ∙ ap available_part first_is in
      let j : m ≡ cond (plain (row_of t c)) AFTER BEFORE = to ∙ ap available_part second_is in
      let e : (3 * c + m) / 3 ≡ c = omega arith in
      let f : (3 * c + m) % 3 ≡ m = omega arith in
      rw (makes, broader_is, before, first_is, second_is, ← i, ← j, e, f) refl

  pub narrows_row : (j v k m : ℕ) (u s : Row) (g d h : Bool) → u ≡ row_of t j → s ≡ row_of t v → k ≡ visible_part u → m ≡ visible_part s → k < 3
      → g ≡ visibility_of u k → d ≡ broader_rows p s u → h ≡ happens (decode t p mode n) (3 * j + k) (3 * v + m)
      → narrows (decode t p mode n) j v ≡ (g and d and h)
  unfolding narrows broader broader_rows visibility decode visibility_moment visible_part
  narrows_row j v k m u s g d h first_is second_is from to small makes broader_is before =
      let i : k ≡ cond (plain (row_of t j)) BEFORE AFTER = from ∙ ap visible_part first_is in
      let o : m ≡ cond (plain (row_of t v)) BEFORE AFTER = to ∙ ap visible_part second_is in
      let e : (3 * j + k) / 3 ≡ j = omega arith in
      let f : (3 * j + k) % 3 ≡ k = omega arith in
      rw (makes, broader_is, before, second_is, first_is, ← i, ← o, e, f) refl

  -- a row that one byte rules out
  pub broadens_off : (a c : ℕ) → meets (row_of t c).flags 2 ≡ false → broadens (decode t p mode n) a c ≡ false
  unfolding availability_of makes_available row_of
  broadens_off a c off =
      not_so _
      (λ e. not_both (split (split (split (split
      (sym (broadens_row a c _ _ _ _ _ _ _ refl refl refl refl (available_small (row_of t c)) refl refl refl) ∙ e)).0).0).0).0 off)

  pub narrows_off : (j v : ℕ) → meets (row_of t j).flags 4 ≡ false → narrows (decode t p mode n) j v ≡ false
  unfolding visibility_of makes_visible row_of
  narrows_off j v off =
      not_so _
      (λ e. not_both (split (split (split (split
      (sym (narrows_row j v _ _ _ _ _ _ _ refl refl refl refl (visible_small (row_of t j)) refl refl refl) ∙ e)).0).0).0).0 off)

-- the same of two rows whose bits are read
module _ {t : List ℕ} {n a c k m : ℕ} {s u : Row} {w : List ℕ} {g d h : Bool} (given : GivenRows Ordered t n a c w)
    (first_is : s ≡ row_of (rows_in t) a) (second_is : u ≡ row_of (rows_in t) c) where
  pub broadens_is : (k ≡ available_part s) × (k < 3) → (m ≡ available_part u) × (m < 3) → g ≡ availability_of u m → d ≡ broader_rows (places_in t) s u
      → h ≡ rel w HAPPENS MOMENTS (3 * a + k) (3 * c + m) → broadens (table_in t n) a c ≡ (g and d and h)
  broadens_is from to makes broader_is before =
      broadens_row (rows_in t) (places_in t) (mode_in t) n a c k m s u g d h first_is second_is from.0 to.0 to.1 makes broader_is
      (before ∙ given.holds.happening.cell _ _ (omega (arith, from.1, given.first)) (omega (arith, to.1, given.second)))

  pub narrows_is : (k ≡ visible_part s) × (k < 3) → (m ≡ visible_part u) × (m < 3) → g ≡ visibility_of s k → d ≡ broader_rows (places_in t) u s
      → h ≡ rel w HAPPENS MOMENTS (3 * a + k) (3 * c + m) → narrows (table_in t n) a c ≡ (g and d and h)
  narrows_is from to makes broader_is before =
      narrows_row (rows_in t) (places_in t) (mode_in t) n a c k m s u g d h first_is second_is from.0 to.0 from.1 makes broader_is
      (before ∙ given.holds.happening.cell _ _ (omega (arith, from.1, given.first)) (omega (arith, to.1, given.second)))

-- ---- laws: how they are made

pub reach_none : {t : List ℕ} {n : ℕ} {w : List ℕ} → (mode_in t).chains ≡ false → Given Ordered t n w
    → MadeReach (table_in t n) n w w
unfolding decode
reach_none off g =
    record { reaching = record { ordered = g.holds; out = λ e. not_both e off; back = λ e. not_both e off }; frame = within_refl _ _ _ }

made_closed : {n : ℕ} {r : ℕ → ℕ → Bool} {w v u : List ℕ} (a b : ℕ) → a + n * GRID ≤ b → Made a b a GRID n r w v → Closed v u a n GRID
    → Made a b a GRID n (through r n) w u
made_closed a b l m c = record { holds = holds_closed m.holds c; frame = within_trans m.frame (within_closed l c) }

module _ {t : List ℕ} {n : ℕ} {w v x : List ℕ} (given : Given Ordered t n w)
    (steps : Made REACH_OUT REACH_OUT_END REACH_OUT GRID n (broadens (table_in t n)) w v) (closed : Closed v x REACH_OUT n GRID) where
  out_made : Made REACH_OUT REACH_OUT_END REACH_OUT GRID n (through (broadens (table_in t n)) n) w x
  out_made = made_closed REACH_OUT REACH_OUT_END (omega (arith, given.few)) steps closed

  -- from the first element of an availability chain to its last; then the same of visibility chains
  pub reach_first : Given Ordered t n x
  reach_first = given_kept (omega arith) out_made.frame given

  pub reach_both : {y u : List ℕ} → Made REACH_IN REACH_IN_END REACH_IN GRID n (narrows (table_in t n)) x y → Closed y u REACH_IN n GRID
      → MadeReach (table_in t n) n w u
  reach_both inward back_closed =
      let g = made_closed REACH_IN REACH_IN_END (omega (arith, given.few)) inward back_closed in
      record {
        reaching = record {
          ordered = ordered_kept (omega arith) g.frame reach_first.holds;
          out = λ e. holds_kept (λ h. omega (arith, given.few)) g.frame out_made.holds;
          back = λ e. g.holds;
        };
        frame = within_trans (within_widen REACH_OUT REACH_IN_END (omega arith) (omega arith) out_made.frame)
            (within_widen REACH_OUT REACH_IN_END (omega arith) (omega arith) g.frame);
      }

-- a change in the bits of pairs keeps it
pub reaching_kept : {t : Table} {n : ℕ} {w u : List ℕ} → Within LOCATION LOCATION_END w u → Reaching t n w → Reaching t n u
reaching_kept f r =
    record {
      ordered = ordered_kept (omega arith) f r.ordered;
      out = λ e. holds_kept (λ h. omega arith) f (r.out e);
      back = λ e. holds_kept (λ h. omega arith) f (r.back e);
    }
