-- What functions are given: rows, a work area with room, and what it holds of their table. Assumes nothing.
use Rattle.std.specs.Prelude.{◌≡◌, Bool, true, List, ℕ, ◌+◌, ◌*◌, ◌≤◌, ◌<◌, length}
use Rattle.std.proofs.Common.{◌∙◌, arith}
use Rattle.finite.specs.Closure.{through}
use Rattle.bits.specs.Bit.{bit}
use Rattle.bits.specs.Matrix.{rel}
use Rattle.bits.specs.Within.{Within}
use Rattle.bits.specs.Stage.{Holds, holds_bit}
use Rattle.model.specs.Limits.{ROWS, WORK}
use Rattle.model.specs.Table.{Table, decode}
use Rattle.run.specs.Layout.{mode_in, table_in}
use Rattle.model.specs.Happens.{happens}
use Rattle.model.specs.Availability.{broadens, narrows}
use Rattle.work_area.specs.Regions.{HAPPENS, HAPPENS_END, MOMENTS, GRID, REACH_OUT, REACH_IN}
use Rattle.work_area.specs.State.{Ordered, ordered_kept}

-- ---- definitions

-- n rows, and a work area with room for what is made of them
pub record Room (n : ℕ) (w : List ℕ) : Type 0 where
  pub few : n ≤ ROWS
  pub room : WORK ≤ length w

-- n rows, which stand in the run t, and a work area that holds what `made` says of their table
pub record Given (made : Table → ℕ → List ℕ → Type 0) (t : List ℕ) (n : ℕ) (w : List ℕ) : Type 0 where
  pub few : n ≤ ROWS
  pub room : WORK ≤ length w
  pub holds : made (table_in t n) n w

-- the same, and row x of them
pub record GivenRow (made : Table → ℕ → List ℕ → Type 0) (t : List ℕ) (n x : ℕ) (w : List ℕ) : Type 0 where
  pub few : n ≤ ROWS
  pub room : WORK ≤ length w
  pub row : x < n
  pub holds : made (table_in t n) n w

-- and two rows of them
pub record GivenRows (made : Table → ℕ → List ℕ → Type 0) (t : List ℕ) (n x y : ℕ) (w : List ℕ) : Type 0 where
  pub few : n ≤ ROWS
  pub room : WORK ≤ length w
  pub first : x < n
  pub second : y < n
  pub holds : made (table_in t n) n w

-- what L3 is told from: happens-before, and from where to where chains of more than one element lead
pub record Reaching (t : Table) (n : ℕ) (w : List ℕ) : Type 0 where
  pub ordered : Ordered t n w
  pub out : t.chains ≡ true → Holds REACH_OUT GRID n (through (broadens t) n) w
  pub back : t.chains ≡ true → Holds REACH_IN GRID n (through (narrows t) n) w

-- rows x and y, of which L3 is asked
pub record Pair (t : List ℕ) (n x y : ℕ) (w : List ℕ) : Type 0 where
  pub few : n ≤ ROWS
  pub room : WORK ≤ length w
  pub first : x < n
  pub second : y < n
  pub reaching : Reaching (table_in t n) n w

-- and an element of a chain, row i
pub record Element (t : List ℕ) (n x y i : ℕ) (w : List ℕ) : Type 0 where
  pub pair : Pair t n x y w
  pub row : i < n

-- ---- laws

-- a change in later words keeps what location order is made from
pub given_kept : {t : List ℕ} {n c d : ℕ} {w u : List ℕ} → HAPPENS_END ≤ c → Within c d w u → Given Ordered t n w
    → Given Ordered t n u
given_kept l f g = record { few = g.few; room = omega (arith, f.len, g.room); holds = ordered_kept l f g.holds }

-- bits that are read for a pair
module _ {t : List ℕ} {n x y : ℕ} {w : List ℕ} (pair : Pair t n x y w) where
  pub happens_is : {h : Bool} (m k : ℕ) → m < 3 * n → k < 3 * n → h ≡ rel w HAPPENS MOMENTS m k → h ≡ happens (table_in t n) m k
  happens_is m k l o e = e ∙ pair.reaching.ordered.happening.cell m k l o

  pub reach_out : {h : Bool} (i j : ℕ) → (mode_in t).chains ≡ true → i < n → j < n → h ≡ bit w ((REACH_OUT + i * GRID) * 64 + j)
      → h ≡ through (broadens (table_in t n)) n i j
  unfolding decode
  reach_out i j chains l m e = e ∙ holds_bit (pair.reaching.out chains) _ i j (omega arith) l m

  pub reach_in : {h : Bool} (i j : ℕ) → (mode_in t).chains ≡ true → i < n → j < n → h ≡ bit w ((REACH_IN + i * GRID) * 64 + j)
      → h ≡ through (narrows (table_in t n)) n i j
  unfolding decode
  reach_in i j chains l m e = e ∙ holds_bit (pair.reaching.back chains) _ i j (omega arith) l m
