-- What stages say of a shared list of words: a region holds a relation; a stage makes a region hold one, or adds one to it, and
-- changes nothing else. Regions are told apart by words. Assumes nothing.
use Rattle.std.specs.Prelude.{◌≡◌, Bool, false, List, ℕ, ◌+◌, ◌-◌, ◌*◌, ◌≤◌, ◌<◌, length}
use Rattle.std.proofs.Common.{sym, ap, ◌∙◌, arith, mul_assoc}
use Rattle.finite.specs.Logic.{◌or◌, or_off}
use Rattle.finite.specs.Closure.{through, through_cong}
use Rattle.bits.specs.Bit.{bit, zeros, length_zeros, bit_zeros_in, join_row, bit_join_row}
use Rattle.bits.specs.Within.{Within, within_refl, within_trans, within_widen, within_bit, within_join_row, within_cleared}
use Rattle.bits.specs.Matrix.{rel, Closed, row_apart, place}
use Rattle.bits.specs.Fill.{or_fresh, grid_fill, grid_fill_in, within_grid_fill}

-- ---- definitions

-- the region from word a, `stride` words a row, holds the relation r on numbers below n
pub record Holds (a stride n : ℕ) (r : ℕ → ℕ → Bool) (w : List ℕ) : Type 0 where
  pub fits : n ≤ 64 * stride
  pub cell : (i j : ℕ) → i < n → j < n → rel w a stride i j ≡ r i j

-- the region at a was made to hold r, whatever it held; no word outside c..d changed
pub record Made (c d a stride n : ℕ) (r : ℕ → ℕ → Bool) (w u : List ℕ) : Type 0 where
  pub holds : Holds a stride n r u
  pub frame : Within c d w u

-- r was added to what the region at a holds; no word outside c..d changed
pub record Added (c d a stride n : ℕ) (r : ℕ → ℕ → Bool) (w u : List ℕ) : Type 0 where
  pub cell : (i j : ℕ) → i < n → j < n → rel u a stride i j ≡ (rel w a stride i j or r i j)
  pub frame : Within c d w u

-- ---- laws: what a region holds

-- a bit that is read
pub holds_bit : {a stride n : ℕ} {r : ℕ → ℕ → Bool} {w : List ℕ} → Holds a stride n r w → (k i j : ℕ) → k ≡ (a + i * stride) * 64 + j → i < n
    → j < n → bit w k ≡ r i j
unfolding rel
holds_bit h k i j e p q = rw e (h.cell i j p q)

-- relations that agree
pub holds_cong : {a stride n : ℕ} {r s : ℕ → ℕ → Bool} {w : List ℕ} → ((i j : ℕ) → i < n → j < n → r i j ≡ s i j) → Holds a stride n r w
    → Holds a stride n s w
holds_cong e h = record { fits = h.fits; cell = λ i j p q. h.cell i j p q ∙ e i j p q }

-- a change elsewhere keeps what a region holds
pub holds_kept : {a stride n c d : ℕ} {r : ℕ → ℕ → Bool} {w u : List ℕ} → (c < a + n * stride → d ≤ a) → Within c d w u → Holds a stride n r w
    → Holds a stride n r u
unfolding rel
holds_kept {a} {stride} {n} {c} {d} {r} {w} {u} off f h =
    record {
      fits = h.fits;
      cell = λ i j p q. within_bit f ((a + i * stride) * 64 + j) (λ l. out i j p q l) ∙ h.cell i j p q;
    }
  where
    out : (i j : ℕ) → i < n → j < n → 64 * c ≤ (a + i * stride) * 64 + j → 64 * d ≤ (a + i * stride) * 64 + j
    out i j p q l =
        let s : i * stride + stride ≤ n * stride = row_apart i n stride p in
        let t : n ≤ 64 * stride = h.fits in
        let g : d ≤ a = off (omega arith) in
        omega arith

-- ---- laws: cleared, then filled from a test

pub made_filled : (a b stride n : ℕ) (r : ℕ → ℕ → Bool) (w v u : List ℕ) → n ≤ 64 * stride → a + n * stride ≤ b → b ≤ length w → v ≡ zeros w a (b - a)
    → u ≡ grid_fill r v (a * 64) (stride * 64) n n → Made a b a stride n r w u
unfolding rel
made_filled a b stride n r w v u fits inside room cleared filled =
    record {
      holds = record { fits = fits; cell = cell };
      frame = within_trans {w = w} {u = v} (within_cleared a b (omega arith) cleared) kept;
    }
  where
    e : n * (stride * 64) ≡ n * stride * 64
    e = sym (mul_assoc n stride 64)

    len : length v ≡ length w
    len = ap length cleared ∙ length_zeros w a (b - a)

    kept : Within a b v u
    kept = rw filled (within_grid_fill a b r v (a * 64) (stride * 64) n n (omega arith) (omega arith) (omega (arith, e)))

    cell : (i j : ℕ) → i < n → j < n → bit u ((a + i * stride) * 64 + j) ≡ r i j
    cell i j p q =
        let s : i * stride + stride ≤ n * stride = row_apart i n stride p in
        let k : i * (stride * 64) ≡ i * stride * 64 = sym (mul_assoc i stride 64) in
        let z : bit v (a * 64 + i * (stride * 64) + j) ≡ false =
        rw cleared (bit_zeros_in w a (b - a) (a * 64 + i * (stride * 64) + j) (omega arith) (omega (arith, k)) (omega (arith, k, s)))
        in
        rw (place a stride i j, filled)
        (grid_fill_in r v (a * 64) (stride * 64) n n i j (omega arith) (omega (arith, e, len)) p q ∙ or_fresh _ _ z)

-- ---- laws: closing

pub holds_closed : {a stride n : ℕ} {r : ℕ → ℕ → Bool} {w u : List ℕ} → Holds a stride n r w → Closed w u a n stride
    → Holds a stride n (through r n) u
holds_closed {a} {stride} {n} {r} {w} {u} h c =
    let t : n ≤ 64 * stride = h.fits in
    record {
      fits = h.fits;
      cell = λ i j p q. c.cells i j p (omega arith) ∙ through_cong (rel w a stride) r n h.cell n i j (omega arith) p q;
    }

pub within_closed : {a b stride n : ℕ} {w u : List ℕ} → a + n * stride ≤ b → Closed w u a n stride → Within a b w u
within_closed {a} {b} l c = within_widen a b (omega arith) l c.frame

-- ---- laws: adding

-- one region is joined to another, all rows at once
pub added_joined : {dst src stride n : ℕ} {r : ℕ → ℕ → Bool} {w u : List ℕ} (words : ℕ) → n * stride ≤ words → dst + words ≤ length w
    → Holds src stride n r w
    → u ≡ join_row w dst src words → Added dst (dst + words) dst stride n r w u
unfolding rel
added_joined {dst} {src} {stride} {n} {r} {w} {u} words l room h e =
    record { cell = cell; frame = rw e (within_join_row w dst src words) }
  where
    cell : (i j : ℕ) → i < n → j < n → bit u ((dst + i * stride) * 64 + j) ≡ (bit w ((dst + i * stride) * 64 + j) or r i j)
    cell i j p q =
        let s : i * stride + stride ≤ n * stride = row_apart i n stride p in
        let t : n ≤ 64 * stride = h.fits in
        let d : (dst + i * stride) * 64 + j ≡ dst * 64 + (i * stride * 64 + j) = omega arith in
        let c : src * 64 + (i * stride * 64 + j) ≡ (src + i * stride) * 64 + j = omega arith in
        let x : bit w (src * 64 + (i * stride * 64 + j)) ≡ r i j = rw c (h.cell i j p q) in
        rw (d, e) (bit_join_row w dst src words (i * stride * 64 + j) room (omega arith) ∙ ap (λ (b : Bool). bit w (dst * 64 + (i * stride * 64 + j)) or b) x)

-- nothing is added
pub added_none : {a stride n : ℕ} (c d : ℕ) {r : ℕ → ℕ → Bool} (w : List ℕ) → ((i j : ℕ) → i < n → j < n → r i j ≡ false) → Added c d a stride n r w w
added_none c d w h = record { cell = λ i j p q. sym (or_off _ _ (h i j p q)); frame = within_refl c d w }

-- what is held after adding
pub holds_added : {c d a stride n : ℕ} {r s : ℕ → ℕ → Bool} {w u : List ℕ} → Holds a stride n r w → Added c d a stride n s w u
    → Holds a stride n (λ i j. r i j or s i j) u
holds_added {s = s} h f = record { fits = h.fits; cell = λ i j p q. f.cell i j p q ∙ ap (λ (b : Bool). b or s i j) (h.cell i j p q) }

-- a scratch region is made to hold r, closed, and joined to another region; both lie in c..d
pub added_chain : (c d src dst words stride n : ℕ) (r : ℕ → ℕ → Bool) (w v x u : List ℕ) → n * stride ≤ words
    → (src < dst + words → src + words ≤ dst) → dst + words ≤ length w
    → (c ≤ src) × (src + words ≤ d) × (c ≤ dst) × (dst + words ≤ d)
    → Made src (src + words) src stride n r w v → Closed v x src n stride → u ≡ join_row x dst src words → Added c d dst stride n (through r n) w u
unfolding rel
added_chain c d src dst words stride n r w v x u small off room inside made closed joined =
    record { cell = cell; frame = within_trans (within_widen c d inside.0 inside.1 before) (within_widen c d inside.2 inside.3 add.frame) }
  where
    before : Within src (src + words) w x
    before = within_trans made.frame (within_closed (omega arith) closed)

    add : Added dst (dst + words) dst stride n (through r n) x u
    add = let e : length x ≡ length w = before.len in added_joined words small (omega arith) (holds_closed made.holds closed) joined

    cell : (i j : ℕ) → i < n → j < n → bit u ((dst + i * stride) * 64 + j) ≡ (bit w ((dst + i * stride) * 64 + j) or through r n i j)
    cell i j p q =
        let s : i * stride + stride ≤ n * stride = row_apart i n stride p in
        let t : n ≤ 64 * stride = made.holds.fits in
        let e = within_bit before ((dst + i * stride) * 64 + j) (λ l. let g : src + words ≤ dst = off (omega arith) in omega arith) in
        add.cell i j p q ∙ ap (λ (b : Bool). b or through r n i j) e
