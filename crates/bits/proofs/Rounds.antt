-- The invariants of `close`'s two loops, and what a turn of each does. Plain mathematics on lists: no place of the code is named
-- here. Assumes nothing.
use mathlib.Core.Path.{◌≡◌, refl, sym, ap₂, ◌∙◌}
use mathlib.Core.Bool.{Bool, true, false}
use mathlib.Core.List.{List}
use Prim.Native.Nat.{ℕ, ◌+◌, ◌*◌, ◌/◌, ◌≤◌, ◌<◌}
use native.Mathlib.Omega.{arith}
use native.Mathlib.Numerals.{add-one}
use native.Mathlib.Decide.{dec_lt, ℕ_discrete}
use lib.ListN.{length}
use Rattle.finite.specs.Logic.{◌and◌, ◌or◌, or_off, and_false_left, through_on, absorb}
use Rattle.finite.specs.Closure.{through, through_reach}
use Rattle.bits.specs.Bit.{bit_word, join_row, join_row_out, bit_join_row}
use Rattle.bits.specs.Within.{Within, within_refl, within_trans, within_widen, within_join_row}
use Rattle.bits.specs.Matrix.{rel, Closed, row_apart}

-- ---- definitions

-- one round of Warshall's recursion, at k
abbrev pub step : (ℕ → ℕ → Bool) → ℕ → ℕ → ℕ → Bool
step r k i j = r i j or (r i k and r k j)

-- within round k: rows below i are done, the others are as the round began
pub record Phase (w₀ w : List ℕ) (base n stride k i : ℕ) : Type 0 where
  pub upto : i ≤ n
  pub done : (a j : ℕ) → a < i → j < 64 * stride → rel w base stride a j ≡ step (rel w₀ base stride) k a j
  pub left : (a j : ℕ) → i ≤ a → a < n → j < 64 * stride → rel w base stride a j ≡ rel w₀ base stride a j
  pub frame : Within base (base + n * stride) w₀ w

-- between rounds: paths by way of numbers below k are in
pub record Rounds (w₀ w : List ℕ) (base n stride k : ℕ) : Type 0 where
  pub upto : k ≤ n
  pub cells : (i j : ℕ) → i < n → j < 64 * stride → rel w base stride i j ≡ through (rel w₀ base stride) k i j
  pub frame : Within base (base + n * stride) w₀ w

-- ---- laws: a turn within a round

pub phase_none : (w₀ : List ℕ) (base n stride k : ℕ) → Phase w₀ w₀ base n stride k 0
phase_none w₀ base n stride k =
    record {
      upto = omega arith;
      done = λ a j h b. absurd (omega arith);
      left = λ a j h l b. refl;
      frame = within_refl base (base + n * stride) w₀;
    }

module _ (w₀ w : List ℕ) (base n stride k i : ℕ) (p : Phase w₀ w base n stride k i) (below : i < n) (kn : k < n) (fits : n ≤ 64 * stride) where
  -- row k is the same at any time of round k
  row_k : (j : ℕ) → j < 64 * stride → rel w base stride k j ≡ rel w₀ base stride k j
  row_k j b = go (dec_lt k i)
    where
      go : Dec (k < i) → rel w base stride k j ≡ rel w₀ base stride k j
      go (yes l) = p.done k j l b ∙ absorb (rel w₀ base stride k j) (rel w₀ base stride k k)
      go (no l) = p.left k j (omega arith) kn b

  -- the test was false: row i stays
  pub phase_skip : rel w base stride i k ≡ false → Phase w₀ w base n stride k (i + 1)
  phase_skip e =
      record {
        upto = omega arith;
        done = λ a j h b. go a j b h (ℕ_discrete a i);
        left = λ a j h l b. p.left a j (omega arith) l b;
        frame = p.frame;
      }
    where
      go : (a j : ℕ) → j < 64 * stride → a < i + 1 → Dec (a ≡ i) → rel w base stride a j ≡ step (rel w₀ base stride) k a j
      go a j b h (yes q) =
          let f : rel w₀ base stride i k ≡ false = sym (p.left i k (omega arith) below (omega arith)) ∙ e in
          rw q (p.left i j (omega arith) below b ∙ sym (or_off _ _ (and_false_left _ _ f)))
      go a j b h (no q) = p.done a j (omega arith) b

  -- the test was true: row k is joined to row i, and no other row changes
  other : (u : List ℕ) → u ≡ join_row w (base + i * stride) (base + k * stride) stride → (a j : ℕ) → (a ≡ i → ⊥) → j < 64 * stride
      → rel u base stride a j ≡ rel w base stride a j
  unfolding rel
  other u e a j ne b =
      rw e (bit_word (join_row w (base + i * stride) (base + k * stride) stride) w ((base + a * stride) * 64 + j)
      (join_row_out w (base + i * stride) (base + k * stride) stride (((base + a * stride) * 64 + j) / 64) (λ h. go h (dec_lt a i))))
    where
      go : base + i * stride ≤ ((base + a * stride) * 64 + j) / 64 → Dec (a < i) → base + i * stride + stride ≤ ((base + a * stride) * 64 + j) / 64
      go h (yes l) = let g = row_apart a i stride l in absurd (omega arith)
      go h (no l) = let g = row_apart i a stride (omega arith) in omega arith

  joined : (u : List ℕ) → base + n * stride ≤ length w → u ≡ join_row w (base + i * stride) (base + k * stride) stride → (j : ℕ) → j < 64 * stride
      → rel u base stride i j ≡ (rel w base stride i j or rel w base stride k j)
  unfolding rel
  joined u room e j b = rw e (bit_join_row w (base + i * stride) (base + k * stride) stride j (omega (arith, row_apart i n stride below)) b)

  pub phase_join : (u : List ℕ) → base + n * stride ≤ length w → u ≡ join_row w (base + i * stride) (base + k * stride) stride
      → rel w base stride i k ≡ true → Phase w₀ u base n stride k (i + 1)
  phase_join u room e t =
      record {
        upto = omega arith;
        done = λ a j h b. go a j b h (ℕ_discrete a i);
        left = λ a j h l b. other u e a j (omega arith) b ∙ p.left a j (omega arith) l b;
        frame = within_trans p.frame row;
      }
    where
      row : Within base (base + n * stride) w u
      row =
          let fit : i * stride + stride ≤ n * stride = row_apart i n stride below in
          rw e (within_widen base (base + n * stride) (omega arith) (omega arith) (within_join_row w (base + i * stride) (base + k * stride) stride))

      go : (a j : ℕ) → j < 64 * stride → a < i + 1 → Dec (a ≡ i) → rel u base stride a j ≡ step (rel w₀ base stride) k a j
      go a j b h (yes q) =
          let f : rel w₀ base stride i k ≡ true = sym (p.left i k (omega arith) below (omega arith)) ∙ t in
          rw q (joined u room e j b ∙ ap₂ ◌or◌ (p.left i j (omega arith) below b) (row_k j b) ∙ through_on _ _ _ f)
      go a j b h (no q) = other u e a j q b ∙ p.done a j (omega arith) b

-- ---- laws: a whole round

pub rounds_none : (w₀ : List ℕ) (base n stride : ℕ) → Rounds w₀ w₀ base n stride 0
unfolding through
rounds_none w₀ base n stride = record { upto = omega arith; cells = λ i j h b. refl; frame = within_refl base (base + n * stride) w₀ }

pub rounds_more : (w₀ w₁ w₂ : List ℕ) (base n stride k : ℕ) → k < n → n ≤ 64 * stride → Rounds w₀ w₁ base n stride k → Phase w₁ w₂ base n stride k n
    → Rounds w₀ w₂ base n stride (k + 1)
unfolding through
rounds_more w₀ w₁ w₂ base n stride k kn fits r p =
    record {
      upto = omega arith;
      cells = λ i j h b. rw add-one (p.done i j h b ∙ rw (r.cells i j h b, r.cells i k h (omega arith), r.cells k j kn b) refl);
      frame = within_trans r.frame p.frame;
    }

pub rounds_closed : (w₀ w : List ℕ) (base n stride : ℕ) → Rounds w₀ w base n stride n → Closed w₀ w base n stride
rounds_closed w₀ w base n stride r =
    record {
      cells = r.cells;
      reach = λ i j h b. rw (r.cells i j h b) (through_reach (rel w₀ base stride) n i j);
      frame = r.frame;
    }
