-- The words of Main.antt that are of the promises alone; those of the rules are in crates/model/specs/Words.antt.
use Rattle.std.specs.Prelude.{◌≡◌, Bool, true, false, List, [], ◌⊎◌, ◌↔◌, ℕ, ◌+◌, ◌≤◌, ◌<◌, length, get_or, Float}
use Rattle.std.specs.Float.{binary64}
use Rattle.std.specs.Float.Ieee.{round}
use Rattle.finite.specs.{Walk.along, Cycle.Canonical, Count.count_pairs}
use Rattle.model.specs.declared.Admission.TheVariants.{Admitted, Refused}
use Rattle.model.specs.declared.{Reason.Reason, Report.Report}
use Rattle.model.specs.declared.Reason.TheVariants.{ProgramOrder, Chain}
use Rattle.model.specs.Limits.{CYCLE, SOURCES, STEPS, CLASS_SETS}
use Rattle.model.specs.Table.{Table, sources_of, table_of}
use Rattle.model.specs.Header.{agents_at, rows_at}
use Rattle.model.specs.Scope.{mutually}
use Rattle.model.specs.Moment.{moment, program_order}
use Rattle.model.specs.Happens.{by_sync, to_release, from_acquire, by_system}
use Rattle.model.specs.Location.{common, before}
use Rattle.model.specs.Race.{conflict}
use Rattle.model.specs.Edge.{edge, edge_number, cycle_row}
use Rattle.model.specs.Refusal.{buffers_fit, admission}
use Rattle.model.specs.Check.{Verdict}
use Rattle.model.specs.Reason.{case_in, reached, stands, two_moments}
use Rattle.model.specs.Words.{Races, WellFormed, ConsistentBytes, Filling}
use Rattle.model_laws.specs.ShareLaws.{zero_float, one_float}

-- ---- the bytes and the lent buffers

-- each number of s is a byte, as those of a lent `&[u8]` are
abbrev pub Bytes : List ℕ → Type 0
Bytes s = (k : ℕ) → get_or s k 0 < 256

-- the work area is long enough, and the other buffer has at least so many numbers; or one of the two is too short
abbrev pub Fit : ℕ → ℕ → ℕ → Type 0
Fit needs work buffer = buffers_fit needs work buffer ≡ true

abbrev pub Short : ℕ → ℕ → ℕ → Type 0
Short needs work buffer = buffers_fit needs work buffer ≡ false

-- ---- the table: well formed is in Words.antt

-- a check refuses it, buffers aside, with number n at row i
abbrev pub Malformed : List ℕ → ℕ → ℕ → Type 0
Malformed s n i = admission false s ≡ Refused n i

-- a fill doesn't refuse it, buffers aside; or does, with number n at row i
abbrev pub Fillable : List ℕ → Type 0
Fillable s = admission true s ≡ Admitted (agents_at s) (rows_at s)

abbrev pub Unfillable : List ℕ → ℕ → ℕ → Type 0
Unfillable s n i = admission true s ≡ Refused n i

-- the numbers m and k are those of two moments of the table; or they aren't
abbrev pub TwoMoments : List ℕ → ℕ → ℕ → Type 0
TwoMoments s m k = two_moments (table_of s) m k ≡ true

abbrev pub NotTwo : List ℕ → ℕ → ℕ → Type 0
NotTwo s m k = two_moments (table_of s) m k ≡ false

-- ---- what a check, a fill, the reader of derivations and their finder refuse, with number n at row i, and hear

abbrev pub CheckRefuses : List ℕ → ℕ → ℕ → ℕ → ℕ → Type 0
CheckRefuses s work buffer n i =
    (Short CYCLE work buffer × (n ≡ 11) × (i ≡ 0)) ⊎ (Fit CYCLE work buffer × Malformed s n i)

abbrev pub CheckHears : List ℕ → ℕ → ℕ → Type 0
CheckHears s work buffer = Fit CYCLE work buffer × WellFormed s

abbrev pub FillRefuses : List ℕ → ℕ → ℕ → ℕ → ℕ → Type 0
FillRefuses s work buffer n i =
    (Short SOURCES work buffer × (n ≡ 11) × (i ≡ 0)) ⊎ (Fit SOURCES work buffer × Unfillable s n i)

abbrev pub FillHears : List ℕ → ℕ → ℕ → Type 0
FillHears s work buffer = Fit SOURCES work buffer × Fillable s

abbrev pub ReaderRefuses : List ℕ → ℕ → ℕ → ℕ → ℕ → Type 0
ReaderRefuses s m k n i = Unfillable s n i ⊎ (Fillable s × NotTwo s m k × (n ≡ 12) × (i ≡ 0))

abbrev pub ReaderHears : List ℕ → ℕ → ℕ → Type 0
ReaderHears s m k = Fillable s × TwoMoments s m k

abbrev pub DeriveRefuses : List ℕ → ℕ → ℕ → ℕ → ℕ → ℕ → ℕ → Type 0
DeriveRefuses s m k work buffer n i =
    (Short STEPS work buffer × (n ≡ 11) × (i ≡ 0)) ⊎ (Fit STEPS work buffer × ReaderRefuses s m k n i)

abbrev pub DeriveHears : List ℕ → ℕ → ℕ → ℕ → ℕ → Type 0
DeriveHears s m k work buffer = Fit STEPS work buffer × ReaderHears s m k

-- ---- pairs

-- at every byte that they share, one is ordered before the other
abbrev pub OrderedThroughout : Table → ℕ → ℕ → Type 0
OrderedThroughout t x y =
    (b : ℕ) → common (t.row x) (t.row y) b ≡ true → (before t x y b ≡ true) ⊎ (before t y x b ≡ true)

-- every conflicting pair is mutually-ordered atomics, or ordered at every shared byte
abbrev pub RaceFree : Table → Type 0
RaceFree t =
    (x y : ℕ) → x < y → y < t.rows → conflict t x y ≡ true → (mutually t x y ≡ true) ⊎ OrderedThroughout t x y

-- no pair races; some pair races
abbrev pub NoRace : Table → Type 0
NoRace t = (x y : ℕ) → x < y → y < t.rows → Races t x y → ⊥

abbrev pub SomeRace : Table → Type 0
SomeRace t = (x : ℕ) × (y : ℕ) × (x < y) × (y < t.rows) × Races t x y

-- no pair conflicts; some pair conflicts
abbrev pub NoConflict : Table → Type 0
NoConflict t = (x y : ℕ) → x < y → y < t.rows → conflict t x y ≡ false

abbrev pub SomeConflict : Table → Type 0
SomeConflict t = (x : ℕ) × (y : ℕ) × (x < y) × (y < t.rows) × (conflict t x y ≡ true)

-- ---- what a check shows

-- the cycle through the lowest row on any, of the fewest rows, the least list; each step with its lowest edge number
abbrev pub CycleShown : Table → (ℕ → ℕ) → List ℕ → List ℕ → Type 0
CycleShown t source rows edges =
    Canonical t.rows (edge t source) rows × (edges ≡ along (edge_number t source) (cycle_row t source) rows)

-- a verdict that says inconsistent
abbrev pub SaysInconsistent : Verdict → Type 0
SaysInconsistent v = ((rows : List ℕ) × (edges : List ℕ) × (v ≡ Verdict.cyclic rows edges))
    ⊎ ((y : ℕ) × (z : ℕ) × (b : ℕ) × (v ≡ Verdict.overwritten y z b))

-- ---- what a fill hands back

-- f is a filling of s that leaves the table well formed and consistent
abbrev pub Good : Bool → List ℕ → List ℕ → Type 0
Good chains s f = Filling s f × WellFormed f × ConsistentBytes chains f

-- l is f's sources, one for each row of s
abbrev pub SourcesOf : List ℕ → List ℕ → List ℕ → Type 0
SourcesOf s f l = (length l ≡ rows_at s) × ((i : ℕ) → i < rows_at s → get_or l i 0 ≡ sources_of f i)

-- ---- what a report counts

-- n pairs have P: some test decides P of each pair, and n pairs pass it
abbrev pub Counts : Table → (ℕ → ℕ → Type 0) → ℕ → Type 0
Counts t P n =
    (p : ℕ → ℕ → Bool) × ((x y : ℕ) → x < y → y < t.rows → (p x y ≡ true) ↔ P x y) × (n ≡ count_pairs t.rows p)

abbrev pub 0·0 : Float
0·0 = zero_float

abbrev pub 1·0 : Float
1·0 = one_float

-- each count is of the pairs that it is named after, and the last three add up to the first; the share is the exact
-- quotient, rounded once to 64 bits: 0.0 exactly when no pair races, 1.0 exactly when every conflicting pair does
pub record Counted (t : Table) (r : Report) : Type 0 where
  pub conflicting : Counts t (λ x y. conflict t x y ≡ true) r.conflicting
  pub mutuals : Counts t (λ x y. (conflict t x y ≡ true) × (mutually t x y ≡ true)) r.mutuals
  pub ordered : Counts t (λ x y. (conflict t x y ≡ true) × (mutually t x y ≡ false) × OrderedThroughout t x y)
      r.ordered
  pub racing : Counts t (Races t) r.racing
  pub sum : r.mutuals + r.ordered + r.racing ≡ r.conflicting
  pub share : r.share ≡ round binary64 false r.racing r.conflicting
  pub zero : (r.share ≡ 0·0) ↔ NoRace t
  pub one : (r.share ≡ 1·0) ↔ ((x y : ℕ) → x < y → y < t.rows → conflict t x y ≡ true → Races t x y)

-- ---- derivations

-- a step x from moment m holds for the class set c: the moment that it reaches is there, and the direct case of M6
-- that it names leads to it
pub data StepHolds (t : Table) (c m x : ℕ) : Type 0 where
  by_synchronizing : moment t (reached x) ≡ true → case_in x ≡ 1 → by_sync t c m (reached x) ≡ true → StepHolds t c m x
  to_a_release : moment t (reached x) ≡ true → case_in x ≡ 2 → to_release t c m (reached x) ≡ true → StepHolds t c m x
  from_an_acquire : moment t (reached x) ≡ true → case_in x ≡ 3 → from_acquire t c m (reached x) ≡ true
      → StepHolds t c m x
  by_a_dependency : moment t (reached x) ≡ true → case_in x ≡ 4 → by_system t m (reached x) ≡ true → StepHolds t c m x

-- the word with no steps beside it, and program order holds; or a class set and a chain of 1 to STEPS steps that hold,
-- each from where the one before it ends, the first from m, the last to k
abbrev pub Shows : Table → ℕ → ℕ → Reason → List ℕ → Type 0
Shows t m k ProgramOrder l = (l ≡ []) × (program_order t m k ≡ true)
Shows t m k (Chain c) l = (1 ≤ c) × (c ≤ CLASS_SETS) × (1 ≤ length l) × (length l ≤ STEPS) × (stands m l (length l) ≡ k)
    × ((i : ℕ) → i < length l → StepHolds t c (stands m l i) (get_or l i 0))
