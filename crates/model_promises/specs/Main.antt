-- What is promised of every answer, of any bytes and any buffers. No proof need be read: each names a theorem of a page
-- beside this one.
--
-- The notation: (x : ℕ) → P is "for every x, P"; (x : ℕ) × P "there is an x with P"; A × B "A and B"; A ⊎ B "A or B";
-- A → ⊥ "not A"; A ↔ B "A exactly when B"; a ≡ b "a is b". `(t.row x).rank` is a field of a field. What stands behind
-- `module _` is of all that is indented below it. `abbrev` and `record` give a name to what follows them.
--
-- The words: those of the rules are in crates/model/specs/Words.antt (`WellFormed`, `Cyclic`, `Overwritten`,
-- `Consistent`, `FirstOverwrite`, `Races`, `FirstRace`, `Unordered`, `Filling`, `HappensBefore`), those of this page in
-- Terms.antt, each in one or two lines. `…Hears` says that the table is accepted and the lent buffers are long enough,
-- `…Refuses … n i` that refusal n at row i is due: 11 for a short buffer, else what `admission` says (Refusal.antt).
--
-- From a function to its meaning: the contract of an entry point is an equation. This page speaks of its right side:
--   ask_check::check::check is `check_answer (check …)`, and leaves `work_after (check …)` and `cycle_after (check …)`
--   ask_fill::fill is `fill_answer (fill …)`, and leaves `work_after (fill …)` and `sources_after (fill …)`
--   ask_report::report is `told_answer (report …)`, and leaves what a check leaves
--   ask_derive::derive is `derive_answer (derive …)`, and leaves `work_after (derive …)` and `chain_after (derive …)`
--   ask_accepts::accepts is `accept_answer (judge …)`
-- Callers.antt has each case of these answers; crates/stramashly_numbers/specs/Main.antt the number that C gets.
-- Throughout, s is the table, any bytes at all; `chains` the switch; work and buffer the lengths of the lent buffers.
-- `Bytes s`, which a fill's meaning asks for, says that its numbers are bytes; the contract of every fill ensures it.
use Rattle.std.specs.Prelude.{◌≡◌, Bool, true, false, List, [], ◌++◌, ◌⊎◌, ◌↔◌, ℕ, ◌<◌, length, drop, replicate}
use Rattle.model.specs.declared.{Row.Row, Reason.Reason}
use Rattle.model.specs.Report.{Told}
use Rattle.model.specs.Limits.{WORK, CYCLE, SOURCES, STEPS}
use Rattle.model.specs.Table.{Table, table_under, table_of, sources_of}
use Rattle.model.specs.Header.{rows_at}
use Rattle.model.specs.Row.{writes, touches, overlap}
use Rattle.model.specs.{Happens.happens, Location.common, Location.before, Race.conflict, Edge.before_some}
use Rattle.model.specs.Check.{Verdict, check, work_after, cycle_after}
use Rattle.model.specs.Fill.{Outcome, fill, sources_after}
use Rattle.model.specs.Fill as Fill
use Rattle.model.specs.Reason.{Judged, Derived, judge, derive, chain_after}
use Rattle.model.specs.Reason as Derivation
use Rattle.model.specs.Report.{report}
use Rattle.model.specs.Words.{HappensBefore, Unordered, Races, FirstRace, Cyclic, Overwritten, FirstOverwrite}
use Rattle.model.specs.Words.{Consistent, WellFormed, blank_at, Filling}
use Rattle.model_laws.specs.ChainLaws.{ordered_more}
use Rattle.model_promises.specs.Terms.{Bytes, Fit, Fillable, CheckRefuses, CheckHears, FillRefuses, FillHears}
use Rattle.model_promises.specs.Terms.{ReaderRefuses, ReaderHears, DeriveRefuses, DeriveHears, Shows}
use Rattle.model_promises.specs.Terms.{NoRace, SomeRace, RaceFree, NoConflict, SomeConflict, Counted, SaysInconsistent, CycleShown, Good, SourcesOf}
use Rattle.model_promises.specs as beside

-- ==== What each answer means. It is given exactly when its meaning holds, of all bytes and buffers

module _ (chains : Bool) (s : List ℕ) (work buffer : ℕ) where
  abbrev t : Table
  t = table_under chains s

  abbrev source : ℕ → ℕ
  source = sources_of s

  -- a check
  abbrev pub CheckMeans : Verdict → Type 0
  CheckMeans (Verdict.refused n i) = CheckRefuses s work buffer n i
  CheckMeans (Verdict.cyclic rows edges) = CheckHears s work buffer × CycleShown t source rows edges
  CheckMeans (Verdict.overwritten y z b) =
      CheckHears s work buffer × (Cyclic t source → ⊥) × FirstOverwrite t source y z b
  CheckMeans (Verdict.race x y b) = CheckHears s work buffer × Consistent t source × FirstRace t x y b
  CheckMeans Verdict.race_free = CheckHears s work buffer × Consistent t source × RaceFree t

  pub check_means : (v : Verdict) → (check chains s work buffer ≡ v) ↔ CheckMeans v
  check_means (Verdict.refused n i) = beside.CheckExactly.refused_exactly chains s work buffer n i
  check_means (Verdict.cyclic rows edges) = beside.CheckExactly.cyclic_exactly chains s work buffer rows edges
  check_means (Verdict.overwritten y z b) = beside.CheckExactly.overwritten_exactly chains s work buffer y z b
  check_means (Verdict.race x y b) = beside.CheckExactly.race_exactly chains s work buffer x y b
  check_means Verdict.race_free = beside.CheckExactly.free_exactly chains s work buffer

  -- a fill: l is the sources of a filling that is well formed and consistent, and the only such one
  abbrev pub FillMeans : Outcome → Type 0
  FillMeans (Outcome.refused n i) = FillRefuses s work buffer n i
  FillMeans (Outcome.race x y b) = FillHears s work buffer × FirstRace t x y b
  FillMeans (Outcome.filled l) = FillHears s work buffer × NoRace t
      × ((f : List ℕ) × Good chains s f × SourcesOf s f l × ((g : List ℕ) → Good chains s g → g ≡ f))
  FillMeans Outcome.none = FillHears s work buffer × NoRace t × ((f : List ℕ) → Good chains s f → ⊥)

  pub fill_means : Bytes s → (o : Outcome) → (fill chains s work buffer ≡ o) ↔ FillMeans o
  fill_means bytes (Outcome.refused n i) = beside.FillExactly.refused_exactly chains s work buffer n i
  fill_means bytes (Outcome.race x y b) = beside.FillExactly.race_exactly chains s work buffer x y b
  fill_means bytes (Outcome.filled l) = beside.FillExactly.filled_exactly chains s work buffer bytes l
  fill_means bytes Outcome.none = beside.FillExactly.none_exactly chains s work buffer bytes

  -- a report: `Counted` says of which pairs each count is, that they add up, and what the share is
  abbrev pub ReportMeans : Told → Type 0
  ReportMeans (Told.refused n i) = CheckRefuses s work buffer n i
  ReportMeans (Told.cyclic k) = CheckHears s work buffer
      × ((rows : List ℕ) × (edges : List ℕ) × CycleShown t source rows edges × (length rows ≡ k))
  ReportMeans (Told.overwritten y z b) =
      CheckHears s work buffer × (Cyclic t source → ⊥) × FirstOverwrite t source y z b
  ReportMeans Told.no_pairs = CheckHears s work buffer × Consistent t source × NoConflict t
  ReportMeans (Told.reported r) =
      CheckHears s work buffer × Consistent t source × SomeConflict t × Counted t r

  pub report_means : (a : Told) → (report chains s work buffer ≡ a) ↔ ReportMeans a
  report_means (Told.refused n i) = beside.ReportExactly.refused_exactly chains s work buffer n i
  report_means (Told.cyclic k) = beside.ReportExactly.cycle_exactly chains s work buffer k
  report_means (Told.overwritten y z b) = beside.ReportExactly.overwritten_exactly chains s work buffer y z b
  report_means Told.no_pairs = beside.ReportExactly.none_exactly chains s work buffer
  report_means (Told.reported r) = beside.ReportExactly.report_exactly chains s work buffer r

module _ (s : List ℕ) (m k : ℕ) where
  -- the reader of a derivation that moment m happens before moment k: reason r with the steps l
  abbrev pub ReaderMeans : Reason → List ℕ → Judged → Type 0
  ReaderMeans r l (Judged.refused n i) = ReaderRefuses s m k n i
  ReaderMeans r l Judged.accepted = ReaderHears s m k × Shows (table_of s) m k r l
  ReaderMeans r l Judged.not_accepted = ReaderHears s m k × (Shows (table_of s) m k r l → ⊥)

  pub reader_means : (r : Reason) (l : List ℕ) (j : Judged) → (judge s m k r l ≡ j) ↔ ReaderMeans r l j
  reader_means r l (Judged.refused n i) = beside.ReasonExactly.refused_exactly s m k r l n i
  reader_means r l Judged.accepted = beside.ReasonExactly.accepted_exactly s m k r l
  reader_means r l Judged.not_accepted = beside.ReasonExactly.not_accepted_exactly s m k r l

  pub some_accepted : ((r : Reason) × (l : List ℕ) × (judge s m k r l ≡ Judged.accepted))
      ↔ (ReaderHears s m k × HappensBefore (table_of s) m k)
  some_accepted = beside.ReasonExactly.some_accepted_exactly s m k

  -- the finder of one. Which one is undecided, so that a word or a chain is of one direction; some-found says when
  module _ (work buffer : ℕ) where
    abbrev pub DeriveMeans : Derived → Type 0
    DeriveMeans (Derived.refused n i) = DeriveRefuses s m k work buffer n i
    DeriveMeans Derived.word = DeriveHears s m k work buffer × Shows (table_of s) m k Reason.ProgramOrder []
    DeriveMeans (Derived.chained c l) = DeriveHears s m k work buffer × Shows (table_of s) m k (Reason.Chain c) l
    DeriveMeans Derived.not_before = DeriveHears s m k work buffer × (HappensBefore (table_of s) m k → ⊥)

    pub derive_means : (d : Derived) → derive s m k work buffer ≡ d → DeriveMeans d
    derive_means (Derived.refused n i) = (beside.ReasonExactly.finder_refused_exactly s m k work buffer n i).0
    derive_means Derived.word = beside.ReasonExactly.word_found s m k work buffer
    derive_means (Derived.chained c l) = beside.ReasonExactly.chain_found s m k work buffer c l
    derive_means Derived.not_before = (beside.ReasonExactly.none_exactly s m k work buffer).0

    pub derive_refuses : (n i : ℕ)
        → (derive s m k work buffer ≡ Derived.refused n i) ↔ DeriveMeans (Derived.refused n i)
    derive_refuses = beside.ReasonExactly.finder_refused_exactly s m k work buffer

    pub not_before_said : (derive s m k work buffer ≡ Derived.not_before) ↔ DeriveMeans Derived.not_before
    not_before_said = beside.ReasonExactly.none_exactly s m k work buffer

    pub some_found : ((derive s m k work buffer ≡ Derived.word)
        ⊎ ((c : ℕ) × (l : List ℕ) × (derive s m k work buffer ≡ Derived.chained c l)))
        ↔ (DeriveHears s m k work buffer × HappensBefore (table_of s) m k)
    some_found = beside.ReasonExactly.found_exactly s m k work buffer

-- ==== Demand 1. Any bytes may come. Where a buffer is short or the table is bad, the answer is the refusal that the
-- rules name, number and row, and no buffer is written to. Otherwise the answer is a matter of the table alone: other
-- buffers, and whatever they held before, change nothing; and the first WORK words of the work area are left as zeros.
-- Here w is the work area and c the other buffer

pub demand_1_check : (chains : Bool) (s w c : List ℕ) → let v = check chains s (length w) (length c) in
    ((n : ℕ) × (i : ℕ) × (v ≡ Verdict.refused n i) × CheckRefuses s (length w) (length c) n i
    × (work_after v w ≡ w) × (cycle_after v c ≡ c))
    ⊎ (CheckHears s (length w) (length c)
    × ((w' c' : List ℕ) → Fit CYCLE (length w') (length c') → check chains s (length w') (length c') ≡ v)
    × (work_after v w ≡ replicate WORK 0 ++ drop WORK w))
demand_1_check = beside.CheckExactly.check_demand_1

pub demand_1_fill : (chains : Bool) (s w c : List ℕ) → let o = fill chains s (length w) (length c) in
    ((n : ℕ) × (i : ℕ) × (o ≡ Outcome.refused n i) × FillRefuses s (length w) (length c) n i
    × (Fill.work_after o w ≡ w) × (sources_after o c ≡ c))
    ⊎ (FillHears s (length w) (length c)
    × ((w' c' : List ℕ) → Fit SOURCES (length w') (length c') → fill chains s (length w') (length c') ≡ o)
    × (Fill.work_after o w ≡ replicate WORK 0 ++ drop WORK w))
demand_1_fill = beside.FillExactly.fill_demand_1

pub demand_1_report : (chains : Bool) (s w c : List ℕ) → let a = report chains s (length w) (length c) in
    let v = check chains s (length w) (length c) in
    ((n : ℕ) × (i : ℕ) × (a ≡ Told.refused n i) × CheckRefuses s (length w) (length c) n i
    × (work_after v w ≡ w) × (cycle_after v c ≡ c))
    ⊎ (CheckHears s (length w) (length c)
    × ((w' c' : List ℕ) → Fit CYCLE (length w') (length c') → report chains s (length w') (length c') ≡ a)
    × (work_after v w ≡ replicate WORK 0 ++ drop WORK w))
demand_1_report = beside.ReportExactly.report_demand_1

pub demand_1_derive : (s : List ℕ) (m k : ℕ) (w c : List ℕ) → let d = derive s m k (length w) (length c) in
    ((n : ℕ) × (i : ℕ) × (d ≡ Derived.refused n i) × DeriveRefuses s m k (length w) (length c) n i
    × (Derivation.work_after d w ≡ w) × (chain_after d c ≡ c))
    ⊎ (DeriveHears s m k (length w) (length c)
    × ((w' c' : List ℕ) → Fit STEPS (length w') (length c') → derive s m k (length w') (length c') ≡ d)
    × (Derivation.work_after d w ≡ replicate WORK 0 ++ drop WORK w))
demand_1_derive = beside.ReasonExactly.derive_demand_1

-- ==== Demand 2. The verdict is exact. Demand 3. So is a fill

module _ (chains : Bool) (s : List ℕ) (work buffer : ℕ) where
  -- "cycle" or "overwritten" is said exactly when axiom A or axiom B is broken; check_means has what is then shown
  pub demand_2_inconsistent : SaysInconsistent (check chains s work buffer)
      ↔ (CheckHears s work buffer
      × (Cyclic (table_under chains s) (sources_of s) ⊎ Overwritten (table_under chains s) (sources_of s)))
  demand_2_inconsistent = beside.CheckExactly.inconsistent_exactly chains s work buffer

  -- of a table that breaks neither axiom one of two is said: "race-free", and then each conflicting pair is a pair of
  -- mutually-ordered atomics or has order at each byte that it shares; or "race", with the first racing pair in row
  -- order and its lowest byte without order. check_means has the other direction
  pub demand_2_consistent : CheckHears s work buffer → Consistent (table_under chains s) (sources_of s)
      → ((check chains s work buffer ≡ Verdict.race_free) × RaceFree (table_under chains s))
      ⊎ ((x : ℕ) × (y : ℕ) × (b : ℕ) × (check chains s work buffer ≡ Verdict.race x y b)
      × FirstRace (table_under chains s) x y b)
  demand_2_consistent = beside.CheckExactly.consistent_said chains s work buffer

  -- a fill says "race" exactly when some pair races; fill_means has that it shows the first one and its lowest byte
  pub demand_3_race : ((x : ℕ) × (y : ℕ) × (b : ℕ) × (fill chains s work buffer ≡ Outcome.race x y b))
      ↔ (FillHears s work buffer × SomeRace (table_under chains s))
  demand_3_race = beside.FillExactly.some_race_exactly chains s work buffer

  -- of a table without a race: it fills exactly when there is a filling that is well formed and consistent, and says
  -- "none" exactly when there isn't; fill_means has that what it hands back is such a filling and the only one
  pub demand_3_filled : Bytes s → FillHears s work buffer → NoRace (table_under chains s)
      → (((l : List ℕ) × (fill chains s work buffer ≡ Outcome.filled l)) ↔ ((f : List ℕ) × Good chains s f))
      × ((fill chains s work buffer ≡ Outcome.none) ↔ ((f : List ℕ) → Good chains s f → ⊥))
  demand_3_filled = beside.FillExactly.calm_said chains s work buffer

-- no filling cures a race: whatever is put in the place of the blanks, the same pairs race, at the same bytes
pub demand_3_no_cure : (chains : Bool) (s f : List ℕ) → Filling s f → (x y b : ℕ)
    → (Races (table_under chains f) x y ≡ Races (table_under chains s) x y)
    × (Unordered (table_under chains f) x y b ≡ Unordered (table_under chains s) x y b)
demand_3_no_cure = beside.Fill.no_cure

-- a table without blanks is its own one filling; what a check accepts, a fill accepts
pub own_filling : (s : List ℕ) → Bytes s → ((i : ℕ) → i < rows_at s → blank_at s i ≡ false)
    → (f : List ℕ) → Filling s f ↔ (f ≡ s)
own_filling = beside.Fill.own_filling

pub well_fillable : (s : List ℕ) → WellFormed s → Fillable s
well_fillable = beside.Bridges.well_fillable

-- ==== What the tests in these words decide

-- happens-before, as L1 to L5 read it, is M7's, and so what a derivation shows, whichever way the switch is
pub happens_exactly : (chains : Bool) (s : List ℕ) (m k : ℕ)
    → (happens (table_under chains s) m k ≡ true) ↔ HappensBefore (table_of s) m k
happens_exactly = beside.Bridges.happens_exactly

-- two rows conflict: they are two, one writes, and some byte is of both
pub conflict_exactly : (t : Table) (x y : ℕ) → (conflict t x y ≡ true) ↔ ((x ≡ y → ⊥)
    × ((writes (t.row x) ≡ true) ⊎ (writes (t.row y) ≡ true)) × ((b : ℕ) × (common (t.row x) (t.row y) b ≡ true)))
conflict_exactly = beside.Bridges.conflict_exactly

-- edge 1 goes by order at some byte, and edge 4 by some byte of both rows
pub before_some_exactly : (chains : Bool) (s : List ℕ) → Fillable s → (x y : ℕ) → x < rows_at s
    → (before_some (table_under chains s) x y ≡ true) ↔ ((b : ℕ) × (before (table_under chains s) x y b ≡ true))
before_some_exactly = beside.Bridges.before_some_exactly

pub overlap_exactly : (r q : Row) → (overlap r q ≡ true) ↔ ((b : ℕ) × (touches r b ≡ true) × (touches q b ≡ true))
overlap_exactly = beside.Bridges.overlap_exactly

-- whatever is ordered with the switch off is ordered with it on
pub chains_order_more : (s : List ℕ) (x y b : ℕ) → before (table_under false s) x y b ≡ true
    → before (table_under true s) x y b ≡ true
chains_order_more = ordered_more

-- ==== Pages that promise more
--
--   Callers.antt                        each case of an answer's enum, and what is left in the lent buffers
--   Requests.antt                       change requests 5, 8 and 10: what they left as it was, and the order of ranks
--   stramashly_numbers/specs/Main.antt  the number that C gets: it has one reading, and what it says
--   model_page_order/proofs/Page.antt   a table with its rows moved is answered alike, in one piece or two
--   model_cited/proofs/Pieces.antt      a table in two pieces is answered as the joined one
--   model_cited/proofs/Writer.antt      what is written reads back, what was read is written again
--   model_cited/proofs/Stepping.antt    the stepping reader gives rows 0 onward, each once, then the end
--   ask_fill/specs/Same.antt            the two engines of check and fill answer the same, and leave the same
