-- The rows that may lie on a cycle, marked in the layers' last row. Assumes nothing.
use Rattle.std.specs.Prelude.{◌≡◌, Bool, true, false, List, ℕ, ◌+◌, ◌*◌, ◌<◌}
use Rattle.finite.specs.Closure.{Reach}
use Rattle.bits.specs.Bit.{bit}
use Rattle.bits.specs.Within.{Within}
use Rattle.bits.specs.Matrix.{rel}
use Rattle.model.specs.Limits.{ROWS}
use Rattle.sets_of_rows.specs.declared.Set.{Set}
use Rattle.sets_of_rows.specs.Member.{in_set}
use Rattle.work_area.specs.Regions.{EDGE, LAYERS, LAYERS_END, GRID}

-- the word where the marks stand: the layers' last row
abbrev pub MARKS : ℕ
MARKS = LAYERS + ROWS * GRID

-- row x has a mark
unfoldable pub marked : List ℕ → ℕ → Bool
marked w x = bit w (MARKS * 64 + x)

-- where b is false, each edge from row x leads to a later row that has no mark
pub record Asked (w : List ℕ) (x : ℕ) (b : Bool) : Type 0 where
  pub rises : b ≡ false → (y : ℕ) → y < 64 * GRID → rel w EDGE GRID x y ≡ true → (x < y) × (marked w y ≡ false)

-- in u each row that reaches itself by edges has a mark; nothing but marks changed
pub record Marked (n : ℕ) (w u : List ℕ) : Type 0 where
  pub looping : (x : ℕ) → x < n → Reach (rel w EDGE GRID) n x x → marked u x ≡ true
  pub frame : Within MARKS LAYERS_END w u

-- each row that reaches itself by edges has a mark
pub record Looping (n : ℕ) (w : List ℕ) : Type 0 where
  pub all : (x : ℕ) → x < n → Reach (rel w EDGE GRID) n x x → marked w x ≡ true

-- x is a member, all members are rows, and each row on a cycle with x is one
pub record Among (n : ℕ) (e : ℕ → ℕ → Bool) (x : ℕ) (among : Set) : Type 0 where
  pub own : in_set among x ≡ true
  pub few : (j : ℕ) → in_set among j ≡ true → j < n
  pub all : (y : ℕ) → y < n → Reach e n x y → Reach e n y x → in_set among y ≡ true
