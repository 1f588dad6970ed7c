-- What races are read from, and what a pair's bits say of each byte. Assumes nothing.
use Rattle.std.specs.Prelude.{◌≡◌, Bool, true, false, not, List, ℕ, ◌+◌, ◌-◌, ◌*◌, ◌≤◌, ◌<◌, length}
use Rattle.std.proofs.Common.{sym, subst, arith}
use Rattle.finite.specs.Logic.{◌and◌, split, not_so}
use Rattle.bits.specs.Bit.{bit}
use Rattle.bits.specs.Within.{Within}
use Rattle.bits.specs.Stage.{holds_kept}
use Rattle.bits.specs.Cube.{cube_bit, cube_kept}
use Rattle.model.specs.Limits.{ROWS, WORK, BYTES}
use Rattle.model.specs.Row.{access}
use Rattle.model.specs.Table.{Table}
use Rattle.model.specs.Scope.{mutually}
use Rattle.model.specs.Location.{common, before}
use Rattle.model.specs.Race.{conflict}
use Rattle.model.specs.Edge.{before_nth}
use Rattle.model_laws.specs.RaceLaws.{Sized, touched, common_left}
use Rattle.work_area.specs.Regions.{LOCATION, LOCATION_END, PAIR, PAIRS}
use Rattle.work_area.specs.State.{Placed}

-- ---- definitions

-- what races, edges and choices are read from: the area holds location order of the table's n rows, none longer than LONGEST
abbrev pub Ready : Table → ℕ → List ℕ → Type 0
Ready t n w = (n ≤ ROWS) × (WORK ≤ length w) × Sized t × Placed t n w

-- the bytes of each access are numbers of 16 bits, as refusal 7 sees to
abbrev pub Bounded : Table → Type 0
Bounded t = (i : ℕ) → i < t.rows → access (t.row i) ≡ true → (t.row i).start + (t.row i).size ≤ BYTES

-- x and y conflict and are not mutually-ordered
unfoldable pub may_race : Table → ℕ → ℕ → Bool
may_race t x y = conflict t x y and not (mutually t x y)

-- ---- laws: a change in later words keeps it

pub ready_kept : {t : Table} {n c d : ℕ} {w u : List ℕ} → LOCATION_END ≤ c → Within c d w u → Ready t n w → Ready t n u
ready_kept later frame ready =
    let few : _ ≤ ROWS = ready.0 in
    let placed = ready.3 in (
      ready.0,
      omega (arith, ready.1, frame.len),
      ready.2,
      record {
        mutuals = holds_kept (λ l. absurd (omega arith)) frame placed.mutuals;
        location = cube_kept (λ l. absurd (omega arith)) frame placed.location;
      },
    )

-- ---- laws: the bits of a pair

before_common : (t : Table) (x y b : ℕ) → before t x y b ≡ true → common (t.row x) (t.row y) b ≡ true
unfolding before
before_common t x y b e = (split (split e).0).1

before_touched : (t : Table) (x y b : ℕ) → Sized t → x < t.rows → before t x y b ≡ true
    → ((t.row x).start ≤ b) × (b < (t.row x).start + PAIR)
before_touched t x y b s l e = touched (t.row x) b (s x l) (common_left (t.row x) (t.row y) b (before_common t x y b e))

-- no byte before x's start, and none past a pair's bits
pub before_low : (t : Table) (x y b a : ℕ) → Sized t → x < t.rows → a ≡ (t.row x).start → b < a → false ≡ before t x y b
before_low t x y b a s l e h = sym (not_so (before t x y b) (λ d. let g = (before_touched t x y b s l d).0 in omega arith))

pub before_high : (t : Table) (x y b a : ℕ) → Sized t → x < t.rows → a ≡ (t.row x).start → PAIR ≤ b - a → false ≡ before t x y b
before_high t x y b a s l e h = sym (not_so (before t x y b) (λ d. let g = (before_touched t x y b s l d).1 in omega arith))

-- bit k of a pair is the byte k after x's start
pub before_bit : (t : Table) (n : ℕ) (w : List ℕ) (x y b a m : ℕ) → Placed t n w → x < n → y < n → a ≡ (t.row x).start → a ≤ b → b - a < PAIR
    → m ≡ LOCATION * 64 + x * PAIRS + y * PAIR + (b - a) → bit w m ≡ before t x y b
unfolding before_nth
before_bit t n w x y b a m placed below_x below_y start_is past near place_is =
    let g : (t.row x).start + (b - a) ≡ b = omega arith in
    subst (λ (z : ℕ). bit w m ≡ before t x y z) g (cube_bit placed.location m x y (b - a) place_is below_x below_y near)
