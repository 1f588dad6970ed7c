-- A relation on pairs and numbers: m bits for each pair, `row` bits for each row of pairs. The mirror of the loops, and what a
-- stage says of it. Assumes nothing.
use Rattle.std.specs.Prelude.{◌≡◌, refl, Bool, false, List, ℕ, zero, suc, ◌+◌, ◌-◌, ◌*◌, ◌≤◌, ◌<◌, length}
use Rattle.std.proofs.Common.{ap, ◌∙◌, arith, suc-mul, add-one}
use Rattle.std.proofs.Math.Decide.{ℕ_discrete}
use Rattle.finite.specs.Logic.{◌or◌}
use Rattle.bits.specs.Bit.{bit, zeros, length_zeros, bit_zeros_in}
use Rattle.bits.specs.Within.{Within, within_refl, within_trans, within_bit, within_cleared}
use Rattle.bits.specs.Matrix.{row_apart}
use Rattle.bits.specs.Fill.{or_fresh, grid_fill, length_grid_fill, grid_fill_in, grid_fill_out, within_grid_fill}

-- ---- definitions

-- bit at + i * row + j * m + b is set where p i j b, for each i < r, j < n and b < m
unfoldable pub cube_fill : (ℕ → ℕ → ℕ → Bool) → List ℕ → ℕ → ℕ → ℕ → ℕ → ℕ → List ℕ
cube_fill p w at row m n zero = w
cube_fill p w at row m n (suc r) = grid_fill (p r) (cube_fill p w at row m n r) (at + r * row) m m n

-- the region from word a, `row` bits a row and m bits a pair, holds r on pairs of numbers below n and numbers below m
pub record Cube (a row m n : ℕ) (r : ℕ → ℕ → ℕ → Bool) (w : List ℕ) : Type 0 where
  pub fits : n * m ≤ row
  pub cell : (i j b : ℕ) → i < n → j < n → b < m → bit w (a * 64 + i * row + j * m + b) ≡ r i j b

-- the region at a was made to hold r, whatever it held; no word outside c..d changed
pub record MadeCube (c d a row m n : ℕ) (r : ℕ → ℕ → ℕ → Bool) (w u : List ℕ) : Type 0 where
  pub cube : Cube a row m n r u
  pub frame : Within c d w u

-- ---- laws: the fill

pub length_cube_fill : (p : ℕ → ℕ → ℕ → Bool) (w : List ℕ) (at row m n r : ℕ) → length (cube_fill p w at row m n r) ≡ length w
unfolding cube_fill
length_cube_fill p w at row m n zero = refl
length_cube_fill p w at row m n (suc r) = length_grid_fill (p r) (cube_fill p w at row m n r) (at + r * row) m m n ∙ length_cube_fill p w at row m n r

-- every bit outside the r rows is as before
pub cube_fill_out : (p : ℕ → ℕ → ℕ → Bool) (w : List ℕ) (at row m n r k : ℕ) → n * m ≤ row → (at ≤ k → at + r * row ≤ k)
    → bit (cube_fill p w at row m n r) k ≡ bit w k
unfolding cube_fill
cube_fill_out p w at row m n zero k s h = refl
cube_fill_out p w at row m n (suc r) k s h =
    let e : suc r * row ≡ r * row + row = suc-mul r row in
    grid_fill_out (p r) (cube_fill p w at row m n r) (at + r * row) m m n k (omega arith) (λ a. let g : at + suc r * row ≤ k = h (omega arith) in omega arith)
    ∙ cube_fill_out p w at row m n r k s (λ a. let g : at + suc r * row ≤ k = h a in omega arith)

pub cube_fill_in : (p : ℕ → ℕ → ℕ → Bool) (w : List ℕ) (at row m n r i j b : ℕ) → n * m ≤ row → at + r * row ≤ 64 * length w → i < r → j < n → b < m
    → bit (cube_fill p w at row m n r) (at + i * row + j * m + b) ≡ (bit w (at + i * row + j * m + b) or p i j b)
unfolding cube_fill
cube_fill_in p w at row m n zero i j b fits room below_i below_j below_b = absurd (omega arith)
cube_fill_in p w at row m n (suc r) i j b fits room below_i below_j below_b =
    go (ℕ_discrete i r) (λ h. cube_fill_in p w at row m n r i j b fits (omega (arith, suc-mul r row)) h below_j below_b)
  where
    g : List ℕ
    g = cube_fill p w at row m n r

    pair : j * m + m ≤ n * m
    pair = row_apart j n m below_j

    go : Dec (i ≡ r) → (i < r → bit g (at + i * row + j * m + b) ≡ (bit w (at + i * row + j * m + b) or p i j b))
        → bit (grid_fill (p r) g (at + r * row) m m n) (at + i * row + j * m + b) ≡ (bit w (at + i * row + j * m + b) or p i j b)
    go (yes e) ih =
        rw e
        (grid_fill_in (p r) g (at + r * row) m m n j b (omega arith) (rw length_cube_fill (omega (arith, suc-mul r row))) below_j below_b
        ∙ ap (λ (x : Bool). x or p r j b) (cube_fill_out p w at row m n r (at + r * row + j * m + b) fits (λ h. omega arith)))
    go (no e) ih =
        let q : i * row + row ≤ r * row = row_apart i r row (omega arith) in
        grid_fill_out (p r) g (at + r * row) m m n (at + i * row + j * m + b) (omega arith) (λ h. absurd (omega (arith, pair))) ∙ ih (omega arith)

pub within_cube_fill : (c d : ℕ) (p : ℕ → ℕ → ℕ → Bool) (w : List ℕ) (at row m n r : ℕ) → n * m ≤ row → 64 * c ≤ at → at + r * row ≤ 64 * d
    → Within c d w (cube_fill p w at row m n r)
unfolding cube_fill
within_cube_fill c d p w at row m n zero s l h = within_refl c d w
within_cube_fill c d p w at row m n (suc r) s l h =
    let e : suc r * row ≡ r * row + row = suc-mul r row in
    within_trans (within_cube_fill c d p w at row m n r s l (omega arith))
    (within_grid_fill c d (p r) (cube_fill p w at row m n r) (at + r * row) m m n (omega arith) (omega arith) (omega arith))

-- ---- laws: a turn of a loop

pub cube_fill_none : (p : ℕ → ℕ → ℕ → Bool) (w : List ℕ) (at row m n : ℕ) → w ≡ cube_fill p w at row m n 0
unfolding cube_fill
cube_fill_none p w at row m n = refl

pub cube_fill_more : (p : ℕ → ℕ → ℕ → Bool) (w₀ w u : List ℕ) (at row m n r : ℕ) → w ≡ cube_fill p w₀ at row m n r
    → u ≡ grid_fill (p r) w (at + r * row) m m n
    → u ≡ cube_fill p w₀ at row m n (r + 1)
unfolding cube_fill
cube_fill_more p w₀ w u at row m n r e s = rw (add-one, s, e)

-- ---- laws: cleared, then filled from a test

pub made_cube : (a b row m n : ℕ) (r : ℕ → ℕ → ℕ → Bool) (w v u : List ℕ) → n * m ≤ row → a * 64 + n * row ≤ b * 64 → a ≤ b → b ≤ length w
    → v ≡ zeros w a (b - a)
    → u ≡ cube_fill r v (a * 64) row m n n → MadeCube a b a row m n r w u
made_cube a b row m n r w v u fits inside order room cleared filled =
    record {
      cube = record { fits = fits; cell = cell };
      frame = within_trans (within_cleared a b order cleared) (rw filled (within_cube_fill a b r v (a * 64) row m n n fits (omega arith) (omega arith)));
    }
  where
    len : length v ≡ length w
    len = ap length cleared ∙ length_zeros w a (b - a)

    cell : (i j k : ℕ) → i < n → j < n → k < m → bit u (a * 64 + i * row + j * m + k) ≡ r i j k
    cell i j k x y z =
        let s : i * row + row ≤ n * row = row_apart i n row x in
        let t : j * m + m ≤ n * m = row_apart j n m y in
        let q : bit v (a * 64 + i * row + j * m + k) ≡ false =
        rw cleared (bit_zeros_in w a (b - a) (a * 64 + i * row + j * m + k) (omega arith) (omega arith) (omega arith))
        in
        rw filled (cube_fill_in r v (a * 64) row m n n i j k fits (omega (arith, len)) x y z ∙ or_fresh _ _ q)

-- ---- laws: what a region holds

-- a bit that is read
pub cube_bit : {a row m n : ℕ} {r : ℕ → ℕ → ℕ → Bool} {w : List ℕ} → Cube a row m n r w → (k i j b : ℕ) → k ≡ a * 64 + i * row + j * m + b
    → i < n → j < n → b < m
    → bit w k ≡ r i j b
cube_bit held k i j b place_is below_i below_j below_b = rw place_is (held.cell i j b below_i below_j below_b)

-- a change elsewhere keeps what a region holds
pub cube_kept : {a row m n c d : ℕ} {r : ℕ → ℕ → ℕ → Bool} {w u : List ℕ} → (c * 64 < a * 64 + n * row → d ≤ a) → Within c d w u
    → Cube a row m n r w → Cube a row m n r u
cube_kept {a} {row} {m} {n} {c} {d} off f h =
    record {
      fits = h.fits;
      cell = λ i j b x y z. within_bit f (a * 64 + i * row + j * m + b) (out i j b x y z) ∙ h.cell i j b x y z;
    }
  where
    out : (i j b : ℕ) → i < n → j < n → b < m → 64 * c ≤ a * 64 + i * row + j * m + b → 64 * d ≤ a * 64 + i * row + j * m + b
    out i j b x y z l =
        let s : i * row + row ≤ n * row = row_apart i n row x in
        let t : j * m + m ≤ n * m = row_apart j n m y in
        let k : n * m ≤ row = h.fits in
        let g : d ≤ a = off (omega arith) in
        omega arith
