-- Location order that is added row by row: SOME and the bits of the pairs of one row. Assumes nothing.
use Rattle.std.specs.Prelude.{◌≡◌, ◌≢◌, Bool, true, false, not, List, ℕ, ◌+◌, ◌*◌, ◌≤◌, ◌<◌, length, eqb}
use Rattle.finite.specs.Logic.{◌and◌, ◌or◌}
use Rattle.finite.specs.Below.{any_below}
use Rattle.model.specs.Limits.{ROWS, LONGEST, AGENTS, WORK}
use Rattle.model.specs.Row.{access, reads, plain, writes, non_private, overlap}
use Rattle.model.specs.Availability.{same_reference}
use Rattle.model.specs.Race.{nth}
use Rattle.model.specs.Table.{Table}
use Rattle.bits.specs.Bit.{bit_of, bit}
use Rattle.work_area.specs.State.{overlaps}
use Rattle.bits.specs.Within.{Within}
use Rattle.work_area.specs.Regions.{LOCATION, LOCATION_END, PAIRS, PAIR}
use Rattle.model_placing.specs.Leads.{meets}
use Rattle.model_placing.specs.Elements.{kept}
use Rattle.model_placing.specs.Whole.{part_by}
use Rattle.sets_of_rows.specs.declared.Set.{Set}
use Rattle.sets_of_rows.specs.Member.{in_set}
use Rattle.sets_of_rows.specs.Family
use Rattle.sets_of_rows.specs.Rows.{Rows}
use Rattle.sets_grids.specs.Regions.{SOME}
use Rattle.sets_grids.specs.RowThat.{RowThat}
use Rattle.sets_grids.specs.Available.{makes, shown_to, Available}
use Rattle.sets_bytes.specs.Masks.{shared_bit}
use Rattle.sets_location.specs.Told.{ToldTo}

-- ---- definitions

-- the place of bit k of the pair x, y
abbrev pub place_of : ℕ → ℕ → ℕ → ℕ
place_of x y k = LOCATION * 64 + x * PAIRS + y * PAIR + k

-- row x got p: in SOME the rows y of which p has some byte, in LOCATION those bytes; other rows are as they were
pub record AddsRow (n x : ℕ) (p : ℕ → ℕ → Bool) (w u : List ℕ) : Type 0 where
  pub some : (y : ℕ) → y < n → in_set (Family.nth u SOME x) y ≡ (in_set (Family.nth w SOME x) y or any_below LONGEST (p y))
  pub past : (y : ℕ) → n ≤ y → in_set (Family.nth u SOME x) y ≡ in_set (Family.nth w SOME x) y
  pub pair : (y k : ℕ) → y < n → k < LONGEST → bit u (place_of x y k) ≡ (bit w (place_of x y k) or p y k)
  pub other_some : (i : ℕ) → i < ROWS → i ≢ x → Family.nth u SOME i ≡ Family.nth w SOME i
  pub other_pair : (i y k : ℕ) → i < n → y < n → k < LONGEST → i ≢ x → bit u (place_of i y k) ≡ bit w (place_of i y k)
  pub frame : Within SOME LOCATION_END w u

-- the bytes of x that the members of z have too
unfoldable pub whole_bytes : Table → ℕ → Set → ℕ → ℕ → Bool
whole_bytes t x z y k = in_set z y and shared_bit t x y k

-- the bytes of x that y has, and meets by way of operations of plain rows
unfoldable pub part_bytes : Table → ℕ → ℕ → ℕ → Bool
part_bytes t x y k = shared_bit t x y k and part_by t (meets t) (shown_to t) x y (nth t x k)

unfoldable pub parts_of : Table → ℕ → Set → ℕ → ℕ → Bool
parts_of t x z y k = in_set z y and part_bytes t x y k

-- x's row of SOME has nothing yet
abbrev pub Empty : ℕ → List ℕ → Type 0
Empty x w = (j : ℕ) → in_set (Family.nth w SOME x) j ≡ false

-- two accesses of one reference; and the second reads
pub record Pair (t : Table) (n x y : ℕ) : Type 0 where
  pub first : RowThat access t.row n x
  pub second : RowThat access t.row n y
  pub same : same_reference (t.row x) (t.row y) ≡ true

pub record Reader (t : Table) (n x y : ℕ) : Type 0 where
  pub pair : Pair t n x y
  pub reading : reads (t.row y) ≡ true

-- m has of the bytes that x and y share those that y meets by way of operations of plain rows; of x's other bytes it says nothing
pub record MetBytes (t : Table) (x y m : ℕ) : Type 0 where
  pub low : m < 65536
  pub is : (k : ℕ) → k < LONGEST → shared_bit t x y k ≡ true → bit_of m k ≡ part_by t (meets t) (shown_to t) x y (nth t x k)

-- x and the members of z are among n rows, and share bytes
pub record Over (t : Table) (n x : ℕ) (z : Set) : Type 0 where
  pub here : x < n
  pub low : (y : ℕ) → in_set z y ≡ true → y < n
  pub shares : (y : ℕ) → in_set z y ≡ true → overlap (t.row x) (t.row y) ≡ true

-- x and the members of z are accesses of one reference among n rows
pub record Targets (t : Table) (n x : ℕ) (z : Set) : Type 0 where
  pub here : RowThat access t.row n x
  pub low : (y : ℕ) → in_set z y ≡ true → y < n
  pub accesses : (y : ℕ) → in_set z y ≡ true → access (t.row y) ≡ true
  pub same : (y : ℕ) → in_set z y ≡ true → same_reference (t.row x) (t.row y) ≡ true

-- x is a public write; `before` has what the rules that read no byte order it before, `over` the other rows that share bytes with it
pub record PublicWrite (t : Table) (n x : ℕ) (before over : Set) : Type 0 where
  pub writing : writes (t.row x) ≡ true
  pub public : non_private (t.row x) ≡ true
  pub told : ToldTo t n x before
  pub shares : Rows n (λ y. overlaps t x y and not (eqb y x)) over

-- row x is an atomic or a barrier that performs an availability operation
pub record Widely (t : Table) (x : ℕ) : Type 0 where
  pub wide : plain (t.row x) ≡ false
  pub available : makes t x ≡ true

-- such a row x of n; and the work area has what each operation makes available
pub record Carrier (t : Table) (n x : ℕ) (w : List ℕ) : Type 0 where
  pub low : x < n
  pub widely : Widely t x
  pub room : WORK ≤ length w
  pub available : Available t n w

-- what the atomics and barriers from row m on make available, agent by agent and class by class: to which rows, and by whose visibility operations
pub record Carried (t : Table) (n m : ℕ) (made : List ℕ) : Type 0 where
  pub room : 512 ≤ length made
  pub to : (g q : ℕ) → g < AGENTS → q < 4 → Rows n (λ i. kept t g q m (λ a. meets t a i)) (Family.nth made 0 (g * 8 + q))
  pub by : (g q : ℕ) → g < AGENTS → q < 4 → Rows n (λ i. kept t g q m (λ a. shown_to t a i)) (Family.nth made 0 (g * 8 + 4 + q))

-- row x of n is next, up the page: the rows after it are carried, and its row of SOME has nothing yet
pub record Next (t : Table) (n x : ℕ) (made w : List ℕ) : Type 0 where
  pub low : x < n
  pub carried : Carried t n (x + 1) made
  pub empty : Empty x w
