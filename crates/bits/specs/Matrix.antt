-- A square matrix of bits in a list of words: row i starts at word base + i * stride. Assumes nothing.
use Rattle.std.specs.Prelude.{◌≡◌, ◌↔◌, Bool, true, List, ℕ, suc, ◌+◌, ◌*◌, ◌≤◌, ◌<◌}
use Rattle.std.proofs.Common.{sym, arith, mul-le-mul_right, mul_assoc, suc-mul}
use Rattle.std.proofs.Math.Decide.{dec_lt}
use Rattle.finite.specs.Closure.{Reach, through}
use Rattle.bits.specs.Bit.{bit}
use Rattle.bits.specs.Within.{Within}

-- ---- definitions

-- the word that a matrix may end at, at most: the number of a bit then stays far below 2^64
abbrev pub AREA_LIMIT : ℕ
AREA_LIMIT = 1048576

-- the relation that a matrix of bits is
unfoldable pub rel : List ℕ → ℕ → ℕ → ℕ → ℕ → Bool
rel w base stride i j = bit w ((base + i * stride) * 64 + j)

-- u is w with its matrix closed: by Warshall's recursion, which is to say by paths; no word outside it changed
pub record Closed (w u : List ℕ) (base n stride : ℕ) : Type 0 where
  pub cells : (i j : ℕ) → i < n → j < 64 * stride → rel u base stride i j ≡ through (rel w base stride) n i j
  pub reach : (i j : ℕ) → i < n → j < 64 * stride → (rel u base stride i j ≡ true) ↔ Reach (rel w base stride) n i j
  pub frame : Within base (base + n * stride) w u

-- ---- laws

-- a row that lies before another ends before it starts
pub row_apart : (a i s : ℕ) → a < i → a * s + s ≤ i * s
row_apart a i s h = rw suc-mul at (mul-le-mul_right {m = suc a} {n = i} s h)

-- two rows are one or apart, as `join_row` requires
pub rows_apart : (base k i s : ℕ) → base + k * s < base + i * s → base + k * s + s ≤ base + i * s
rows_apart base k i s h = go (dec_lt k i)
  where
    go : Dec (k < i) → base + k * s + s ≤ base + i * s
    go (yes l) = omega (arith, row_apart k i s l)
    go (no l) = let g : i ≤ k = omega arith in absurd (omega (arith, mul-le-mul_right s g))

-- the place of a bit, counted in words and counted in bits
pub place : (a stride i j : ℕ) → (a + i * stride) * 64 + j ≡ a * 64 + i * (stride * 64) + j
place a stride i j =
    let e : i * (stride * 64) ≡ i * stride * 64 = sym (mul_assoc i stride 64) in
    omega arith
