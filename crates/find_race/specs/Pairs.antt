-- What the bits of a pair of rows say: edge 1. Assumes nothing.
use Rattle.std.specs.Prelude.{◌≡◌, Bool, List, ℕ, ◌+◌, ◌*◌, ◌<◌}
use Rattle.finite.specs.Below.{any_below, any_cong}
use Rattle.bits.specs.Bit.{bit}
use Rattle.model.specs.Table.{Table}
use Rattle.model.specs.Edge.{before_nth, before_some}
use Rattle.work_area.specs.Regions.{LOCATION, PAIR, PAIRS}
use Rattle.work_area.specs.State.{Placed}

-- ---- definitions

-- the bit of x before y at x's k-th byte
unfoldable pub order_bit : List ℕ → ℕ → ℕ → ℕ → Bool
order_bit w x y k = bit w (LOCATION * 64 + x * PAIRS + y * PAIR + k)

-- ---- laws

-- edge 1 is what a pair's bits say
pub some_bits : (t : Table) (n : ℕ) (w : List ℕ) (x y : ℕ) → Placed t n w → x < n → y < n → any_below PAIR (order_bit w x y) ≡ before_some t x y
unfolding before_some order_bit
some_bits t n w x y h l m = any_cong (λ k. bit w (LOCATION * 64 + x * PAIRS + y * PAIR + k)) (before_nth t x y) PAIR (λ k o. h.location.cell x y k l m o)
