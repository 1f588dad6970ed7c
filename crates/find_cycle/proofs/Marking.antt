-- What `may_loop` and `mark_rows` do, on plain lists. Assumes nothing.
use mathlib.Core.Path.{◌≡◌, refl, sym, subst, ◌∙◌}
use mathlib.Core.Bool.{Bool, true, false}
use mathlib.Core.Logic.{◌⊎◌, inl, inr}
use mathlib.Core.List.{List}
use Prim.Native.Nat.{ℕ, ◌+◌, ◌*◌, ◌≤◌, ◌<◌}
use native.Mathlib.Omega.{arith}
use native.Mathlib.Decide.{dec_lt, ℕ_discrete}
use lib.ListN.{length}
use lib.Dec.{ltb}
use borrow.Author.Tests.{ltb-false}
use Rattle.finite.specs.Logic.{which, not_both, not_so, and_true, or_false}
use Rattle.finite.specs.Below.{Least}
use Rattle.finite.specs.Closure.{Reach, one, more}
use Rattle.bits.specs.Bit.{bit, set_bit_if, set_bit_if_same, set_bit_if_other}
use Rattle.bits.specs.Within.{Within, within_refl, within_trans, within_bit, within_put}
use Rattle.bits.specs.Matrix.{rel}
use Rattle.model.specs.Limits.{ROWS}
use Rattle.work_area.specs.Regions.{EDGE, LAYERS_END, GRID}
use Rattle.work_sets.specs.Meet.{both}
use Rattle.find_cycle.specs.Marks.{MARKS, marked, Asked, Marked}

-- ---- one row

pub asked_on : (w : List ℕ) (x : ℕ) → Asked w x true
asked_on w x = record { rises = λ h. not_both refl h }

-- k is its first edge, m its first to a marked row
pub asked_rest : (w : List ℕ) (x k m : ℕ) (b : Bool) → Least (64 * GRID) (both w (EDGE + x * GRID) (EDGE + x * GRID)) k → x < k
    → Least (64 * GRID) (both w (EDGE + x * GRID) MARKS) m → b ≡ ltb m (64 * GRID) → Asked w x b
unfolding rel both marked
asked_rest w x k m b f l g e = record { rises = λ h y i t. (later y t (dec_lt x y), not_so _ (λ a. not_both (and_true t a) (g.miss y (far h y i)))) }
  where
    far : b ≡ false → (y : ℕ) → y < 64 * GRID → y < m
    far h y i = let o : 64 * GRID ≤ m = ltb-false m (64 * GRID) (sym e ∙ h) in omega arith

    later : (y : ℕ) → bit w ((EDGE + x * GRID) * 64 + y) ≡ true → Dec (x < y) → x < y
    later y t (yes o) = o
    later y t (no o) = not_both (and_true t t) (f.miss y (omega arith))

-- ---- from the last row down

-- rows from x on are done: one that has no mark leads to later rows with no mark alone
pub record Swept (n x : ℕ) (w₀ w : List ℕ) : Type 0 where
  pub rises : (i : ℕ) → x ≤ i → i < n → marked w i ≡ false → (y : ℕ) → y < n → rel w₀ EDGE GRID i y ≡ true → (i < y) × (marked w y ≡ false)
  pub frame : Within MARKS LAYERS_END w₀ w

pub swept_none : (n : ℕ) (w : List ℕ) → Swept n n w w
swept_none n w = record { rises = λ i a b. absurd (omega arith); frame = within_refl MARKS LAYERS_END w }

pub swept_more : (n z x : ℕ) (w₀ w u : List ℕ) (b : Bool) → n ≤ ROWS → LAYERS_END ≤ length w → x + 1 ≡ z → z ≤ n → Swept n z w₀ w → Asked w x b
    → u ≡ set_bit_if b w (MARKS * 64 + x) → Swept n x w₀ u
unfolding rel marked
swept_more n z x w₀ w u b fits room next_is top swept ask put =
    record {
      rises = λ i a l h y m t. go i a l h y m t (ℕ_discrete i x);
      frame = within_trans swept.frame (within_put MARKS LAYERS_END (MARKS * 64 + x) b (omega arith) (omega arith) put);
    }
  where
    other : (y : ℕ) → x < y → bit u (MARKS * 64 + y) ≡ bit w (MARKS * 64 + y)
    other y l = rw put (set_bit_if_other b w (MARKS * 64 + x) (MARKS * 64 + y) (λ q. omega arith))

    here : bit u (MARKS * 64 + x) ≡ false → b ≡ false
    here h =
        let g = subst (λ (v : List ℕ). bit v (MARKS * 64 + x) ≡ false) put h in
        (or_false (bit w (MARKS * 64 + x)) b (sym (set_bit_if_same b w (MARKS * 64 + x) (omega arith)) ∙ g)).1

    same : (y : ℕ) → y < n → bit w ((EDGE + x * GRID) * 64 + y) ≡ bit w₀ ((EDGE + x * GRID) * 64 + y)
    same y m = within_bit swept.frame ((EDGE + x * GRID) * 64 + y) (λ l. absurd (omega arith))

    go : (i : ℕ) → x ≤ i → i < n → bit u (MARKS * 64 + i) ≡ false → (y : ℕ) → y < n → bit w₀ ((EDGE + i * GRID) * 64 + y) ≡ true → Dec (i ≡ x)
        → (i < y) × (bit u (MARKS * 64 + y) ≡ false)
    go i past below_i unmarked y below_y edge (yes q) =
        let r = ask.rises (here (rw q at unmarked)) y (omega arith) (same y below_y ∙ rw q at edge) in
        let f = r.0 in
        (omega arith, other y f ∙ r.1)
    go i past below_i unmarked y below_y edge (no q) =
        let r = swept.rises i (omega arith) below_i (sym (other i (omega arith)) ∙ unmarked) y below_y edge in
        let f = r.0 in
        (f, other y (omega arith) ∙ r.1)

-- ---- all rows

-- from a row with no mark each way leads to a later row
later : (n : ℕ) (w u : List ℕ) → Swept n 0 w u → (x y : ℕ) → x < n → y < n → marked u x ≡ false → Reach (rel w EDGE GRID) n x y → x < y
later n w u swept x y below_x below_y unmarked (one edge) = (swept.rises x (omega arith) below_x unmarked y below_y edge).0
later n w u swept x y below_x below_y unmarked (more {m = z} edge below_z way) =
    let r = swept.rises x (omega arith) below_x unmarked z below_z edge in
    let f = r.0 in
    let g = later n w u swept z y below_z below_y r.1 way in
    omega arith

pub swept_all : (n : ℕ) (w u : List ℕ) → Swept n 0 w u → Marked n w u
swept_all n w u s = record { looping = λ x l p. go x l p (which (marked u x)); frame = s.frame }
  where
    go : (x : ℕ) → x < n → Reach (rel w EDGE GRID) n x x → (marked u x ≡ true) ⊎ (marked u x ≡ false) → marked u x ≡ true
    go x l p (inl t) = t
    go x l p (inr f) = let g = later n w u s x x l l f p in absurd (omega arith)
