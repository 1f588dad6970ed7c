-- A grid that is filled cell by cell or row by row, while what the work area holds is kept. Assumes nothing.
use Rattle.std.specs.Prelude.{◌≡◌, refl, Bool, List, ℕ, ◌+◌, ◌-◌, ◌*◌, ◌≤◌, ◌<◌, length}
use Rattle.std.proofs.Common.{ap, ◌∙◌, arith}
use Rattle.bits.specs.Bit.{set_bit_if, zeros}
use Rattle.bits.specs.Within.{Within, within_put, within_cleared}
use Rattle.bits.specs.Fill.{row_fill, grid_fill, row_fill_none, row_fill_put, grid_fill_none, grid_fill_more, length_row_fill}
use Rattle.bits.specs.Stage.{Made, made_filled}
use Rattle.model.specs.Limits.{ROWS}
use Rattle.work_area.specs.Regions.{GRID}

-- ---- definitions

-- the first j cells of row i of the grid at word a are as p tells, and the area holds what it held
pub record RowFilled (held : List ℕ → Type 0) (a n i : ℕ) (p : ℕ → Bool) (w₀ w : List ℕ) (j : ℕ) : Type 0 where
  pub most : j ≤ n
  pub same : length w ≡ length w₀
  pub holds : held w
  pub filled : w ≡ row_fill p w₀ (a * 64 + i * (GRID * 64)) j

-- the same of its first i rows
pub record GridFilled (held : List ℕ → Type 0) (a n : ℕ) (p : ℕ → ℕ → Bool) (w₀ w : List ℕ) (i : ℕ) : Type 0 where
  pub most : i ≤ n
  pub same : length w ≡ length w₀
  pub holds : held w
  pub filled : w ≡ grid_fill p w₀ (a * 64) (GRID * 64) n i

-- ---- laws: a row

pub row_begun : {held : List ℕ → Type 0} {a n i : ℕ} {p : ℕ → Bool} {w : List ℕ} → held w → RowFilled held a n i p w w 0
row_begun h = record { most = omega arith; same = refl; holds = h; filled = row_fill_none _ _ _ }

-- one cell more; d is where the grid's words end
pub row_more : {held : List ℕ → Type 0} {a n i j : ℕ} {p : ℕ → Bool} {w₀ w u : List ℕ} {b : Bool} (d : ℕ) → n ≤ ROWS → i < n → j < n → a + ROWS * GRID ≤ d
    → (Within a d w u → held w → held u) → RowFilled held a n i p w₀ w j → b ≡ p j → u ≡ set_bit_if b w ((a + i * GRID) * 64 + j)
    → RowFilled held a n i p w₀ u (j + 1)
row_more {a = a} {i = i} {j = j} {p = p} {w₀ = w₀} {w = w} {u = u} {b = b} d few first second room kept filled_row told put =
    let e : u ≡ row_fill p w₀ (a * 64 + i * (GRID * 64)) (j + 1) =
    row_fill_put p w₀ w u (a * 64 + i * (GRID * 64)) j ((a + i * GRID) * 64 + j) b filled_row.filled told (omega arith) put in
    record {
      most = omega arith;
      same = ap length e ∙ length_row_fill p w₀ _ (j + 1);
      holds = kept (within_put a d ((a + i * GRID) * 64 + j) b (omega arith) (omega arith) put) filled_row.holds;
      filled = e;
    }

pub row_done : {held : List ℕ → Type 0} {a n i j : ℕ} {p : ℕ → Bool} {w₀ w : List ℕ} → n ≤ j → RowFilled held a n i p w₀ w j
    → w ≡ row_fill p w₀ (a * 64 + i * (GRID * 64)) n
row_done {n = n} {j = j} l r = let e : j ≡ n = omega (arith, l, r.most) in rw e at r.filled

-- ---- laws: rows

-- the grid was cleared
pub grid_begun : {held : List ℕ → Type 0} {a n : ℕ} {p : ℕ → ℕ → Bool} {w v : List ℕ} (d : ℕ) → a ≤ d → (Within a d w v → held w → held v)
    → v ≡ zeros w a (d - a) → held w → GridFilled held a n p v v 0
grid_begun {a = a} d l kept e h =
    record { most = omega arith; same = refl; holds = kept (within_cleared a d l e) h; filled = grid_fill_none _ _ _ _ _ }

-- a row that was filled cell by cell
pub grid_row : {held : List ℕ → Type 0} {a n i j : ℕ} {p : ℕ → ℕ → Bool} {w₀ w u : List ℕ} → i < n → n ≤ j → GridFilled held a n p w₀ w i
    → RowFilled held a n i (p i) w u j → GridFilled held a n p w₀ u (i + 1)
grid_row first all g r =
    record {
      most = omega arith;
      same = r.same ∙ g.same;
      holds = r.holds;
      filled = grid_fill_more _ _ _ _ _ _ _ _ g.filled (row_done all r);
    }

pub grid_done : {held : List ℕ → Type 0} {a n i : ℕ} {p : ℕ → ℕ → Bool} {w v u : List ℕ} (d : ℕ) → n ≤ ROWS → n ≤ i → a + ROWS * GRID ≤ d → d ≤ length w
    → v ≡ zeros w a (d - a) → GridFilled held a n p v u i → Made a d a GRID n p w u
grid_done {a = a} {n = n} {i = i} {p = p} {w = w} {v = v} {u = u} d few all room long cleared filled_grid =
    let e : i ≡ n = omega (arith, all, filled_grid.most) in
    made_filled a d GRID n p w v u (omega arith) (omega arith) long cleared (rw e at filled_grid.filled)
