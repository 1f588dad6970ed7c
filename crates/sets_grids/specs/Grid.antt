-- A relation between rows as a set for each row: what a grid holds, what a stage that makes one says. Assumes nothing.
use Rattle.std.specs.Prelude.{◌≡◌, Bool, true, List, ℕ, ◌+◌, ◌*◌, ◌≤◌, ◌<◌, ltb}
use Rattle.std.proofs.Common.{sym, ap, ◌∙◌, arith}
use Rattle.finite.specs.Logic.{◌and◌, ◌or◌, and_or}
use Rattle.model.specs.Limits.{ROWS}
use Rattle.bits.specs.Within.{Within}
use Rattle.bits.specs.Matrix.{rel}
use Rattle.bits.specs.Stage.{Holds, Made}
use Rattle.work_area.specs.Regions.{GRID}
use Rattle.sets_of_rows.specs.declared.Set.{Set}
use Rattle.sets_of_rows.specs.Member.{in_set}
use Rattle.sets_of_rows.specs.Kept.{set_at, set_kept, set_bit_lem}
use Rattle.sets_of_rows.specs.Family.{nth}
use Rattle.sets_of_rows.specs.Rows.{Rows, rows_at, rows_in_lem, rows_cong}

-- ---- definitions

-- the grid at word `base` has for each of n rows the rows, of n, that r leads to
pub record Grid (base n : ℕ) (r : ℕ → ℕ → Bool) (w : List ℕ) : Type 0 where
  pub row : (i : ℕ) → i < n → Rows n (r i) (nth w base i)

-- the same of the rows that pass `on`; of others it says nothing
pub record GridOn (on : ℕ → Bool) (base n : ℕ) (r : ℕ → ℕ → Bool) (w : List ℕ) : Type 0 where
  pub row : (i : ℕ) → i < n → on i ≡ true → Rows n (r i) (nth w base i)

-- the grid was made, whatever stood there; no word outside c..d changed
pub record MadeGrid (c d base n : ℕ) (r : ℕ → ℕ → Bool) (w u : List ℕ) : Type 0 where
  pub grid : Grid base n r u
  pub frame : Within c d w u

-- r was added to what the grid has; no word outside c..d changed
pub record AddedGrid (c d base n : ℕ) (r : ℕ → ℕ → Bool) (w u : List ℕ) : Type 0 where
  pub row : (i j : ℕ) → i < n → in_set (nth u base i) j ≡ (in_set (nth w base i) j or (ltb j n and r i j))
  pub frame : Within c d w u

-- ---- laws

-- a row of a grid that is read
pub grid_at : {base n i : ℕ} {r : ℕ → ℕ → Bool} {w : List ℕ} {x : Set} → Grid base n r w → i < n → x ≡ set_at w (base + 2 * i) → Rows n (r i) x
grid_at {i = i} g l e = rows_at e (g.row i l)

pub grid_in : {base n : ℕ} {r : ℕ → ℕ → Bool} {w : List ℕ} → Grid base n r w → (i j : ℕ) → i < n → j < n → in_set (nth w base i) j ≡ r i j
grid_in g i j l m = rows_in_lem (g.row i l) j m

-- of all rows, so of some
pub grid_on : {base n : ℕ} {r : ℕ → ℕ → Bool} {w : List ℕ} (on : ℕ → Bool) → Grid base n r w → GridOn on base n r w
grid_on on g = record { row = λ i l o. g.row i l }

-- a change elsewhere
pub grid_kept : {base n c d : ℕ} {r : ℕ → ℕ → Bool} {w u : List ℕ} → (c < base + 2 * n → d ≤ base) → Within c d w u → Grid base n r w → Grid base n r u
grid_kept {base} {n} {c} {d} off f g = record { row = λ i l. rows_at (set_kept (base + 2 * i) (λ h. let z : d ≤ base = off (omega arith) in omega arith) f) (g.row i l) }

pub grid_on_kept : {on : ℕ → Bool} {base n c d : ℕ} {r : ℕ → ℕ → Bool} {w u : List ℕ} → (c < base + 2 * n → d ≤ base) → Within c d w u
    → GridOn on base n r w → GridOn on base n r u
grid_on_kept {on} {base} {n} {c} {d} off f g =
    record { row = λ i l o. rows_at (set_kept (base + 2 * i) (λ h. let z : d ≤ base = off (omega arith) in omega arith) f) (g.row i l o) }

-- relations that agree
pub grid_cong : {base n : ℕ} {r q : ℕ → ℕ → Bool} {w : List ℕ} → ((i j : ℕ) → i < n → j < n → r i j ≡ q i j) → Grid base n r w → Grid base n q w
grid_cong e g = record { row = λ i l. rows_cong (λ j m. e i j l m) (g.row i l) }

-- what a grid has after adding
pub grid_added : {c d base n : ℕ} {r q : ℕ → ℕ → Bool} {w u : List ℕ} → Grid base n r w → AddedGrid c d base n q w u → Grid base n (λ i j. r i j or q i j) u
grid_added {n = n} {r = r} {q = q} g a =
    record {
      row = λ i l.
          record { is = λ j. a.row i j l ∙ ap (λ (b : Bool). b or (ltb j n and q i j)) ((g.row i l).is j) ∙ and_or (ltb j n) (r i j) (q i j) };
    }

-- in the words of other stages
pub grid_holds : {base n : ℕ} {r : ℕ → ℕ → Bool} {w : List ℕ} → n ≤ ROWS → Grid base n r w → Holds base GRID n r w
unfolding rel
grid_holds {base} {n} {r} {w} few g =
    record {
      fits = omega arith;
      cell = λ i j p q. sym (set_bit_lem w (base + 2 * i) ((base + i * GRID) * 64 + j) j (omega arith) (omega arith)) ∙ grid_in g i j p q;
    }

pub grid_made : {c d base n : ℕ} {r : ℕ → ℕ → Bool} {w u : List ℕ} → n ≤ ROWS → MadeGrid c d base n r w u → Made c d base GRID n r w u
grid_made few m = record { holds = grid_holds few m.grid; frame = m.frame }
