-- Bytes of a row as bits of a number, from its start. Assumes nothing.
use Rattle.std.specs.Prelude.{◌≡◌, Bool, List, ℕ, ◌+◌, ◌*◌, ◌≤◌, ◌<◌, ◌-◌, leb}
use Rattle.finite.specs.Logic.{◌and◌, ◌or◌}
use Rattle.model.specs.Limits.{LONGEST}
use Rattle.model.specs.Row.{touches}
use Rattle.model.specs.Race.{nth}
use Rattle.model.specs.Table.{Table}
use Rattle.bits.specs.Bit.{bit, bit_of}
use Rattle.bits.specs.Within.{Within}
use Rattle.work_area.specs.Regions.{LOCATION, LOCATION_END, PAIRS, PAIR}

-- ---- definitions

-- bit k of the 16 bits of m is p's
pub record Mask (p : ℕ → Bool) (m : ℕ) : Type 0 where
  pub low : m < 65536
  pub is : (k : ℕ) → k < LONGEST → bit_of m k ≡ p k

-- x's k-th byte is a byte of both
unfoldable pub shared_bit : Table → ℕ → ℕ → ℕ → Bool
shared_bit t x y k = touches (t.row x) (nth t x k) and touches (t.row y) (nth t x k)

-- z's k-th byte is one of the bytes of x that m has
unfoldable pub moved_bit : Table → ℕ → ℕ → ℕ → ℕ → Bool
moved_bit t m x z k = leb (t.row x).start (nth t z k) and bit_of m (nth t z k - (t.row x).start)

-- the bits of m were added to those of the pair x, y; no other bit changed
pub record Adds (x y m : ℕ) (w u : List ℕ) : Type 0 where
  pub is : (k : ℕ) → k < PAIR → bit u (LOCATION * 64 + x * PAIRS + y * PAIR + k) ≡ (bit w (LOCATION * 64 + x * PAIRS + y * PAIR + k) or bit_of m k)
  pub other : (i : ℕ) → (LOCATION * 64 + x * PAIRS + y * PAIR ≤ i → LOCATION * 64 + x * PAIRS + y * PAIR + PAIR ≤ i) → bit u i ≡ bit w i
  pub frame : Within LOCATION LOCATION_END w u
