-- The numbers that the C functions give, read back, and what they say. Assumes nothing.
use Rattle.std.specs.Prelude.{◌≡◌, refl, Bool, true, false, cond, List, ◌↔◌, ℕ, ◌%◌, ◌≤◌, ◌<◌, length, leb, eqb, Float}
use Rattle.std.proofs.Common.{arith, leb-true}
use Rattle.model.specs.declared.Reason.{Reason}
use Rattle.model.specs.Report.{Told}
use Rattle.model.specs.Report as told
use Rattle.model.specs.Limits.{ROWS, CYCLE, SOURCES, STEPS}
use Rattle.model.specs.Header.{HEADER, ROW_BYTES, rows_at}
use Rattle.model.specs.Refusal.{shape_or, buffers_fit, version_fits, limits_fit, length_fits}
use Rattle.model.specs.Check.{Verdict, check, check_answer}
use Rattle.model.specs.Fill.{Outcome, fill, fill_answer}
use Rattle.model.specs.Reason.{Judged, Derived, derive, derive_answer, judge, accept_answer}
use Rattle.model.specs.Report.{report}
use Rattle.model_promises.specs.Terms.{Bytes}
use Rattle.model_promises.specs.Main.{CheckMeans, FillMeans, check_means, fill_means}
use Rattle.model.specs.Refusal.{shape_fault}
use Rattle.door_pieces.specs.Pieces.{rows_both, count_both, pieces_fault, joined, of_both, check_both, fill_both, report_both, derive_both, judge_both}
use Rattle.model_promises.specs.Bounds.{SMALL, SmallVerdict, SmallOutcome, SmallJudged, verdict_small, outcome_small, report_small, derived_small, reader_refusal}
use Rattle.model_promises.specs.ReasonExactly as reasons
use Rattle.stramashly.specs.Packed.{pack_check, pack_fill, pack_derive, pack_accept, pack_report, share_after}
use Rattle.stramashly_numbers.specs.Reading.{CODE, A, B, C, read_check, read_fill, read_derive, read_accept, read_report}
use Rattle.stramashly_numbers.specs.Reading.{check_back, fill_back, derive_back, accept_back, report_back}
use Rattle.stramashly_numbers.specs.Numbers

-- ---- read back

pub check_reads : (chains : Bool) (s : List ℕ) (work buffer : ℕ)
    → read_check (pack_check (check_answer (check chains s work buffer))) ≡ check_answer (check chains s work buffer)
check_reads chains s work buffer = check_back (check chains s work buffer) (verdict_small chains s work buffer _ refl)

pub fill_reads : (chains : Bool) (s : List ℕ) (work buffer : ℕ)
    → read_fill (pack_fill (fill_answer (fill chains s work buffer)) (rows_at s)) ≡ fill_answer (fill chains s work buffer)
fill_reads chains s work buffer = fill_back (rows_at s) (fill chains s work buffer) (outcome_small chains s work buffer _ refl)

pub report_reads : (chains : Bool) (s : List ℕ) (work buffer : ℕ) (x : Float)
    → let a = report chains s work buffer in read_report (pack_report a) (share_after a x) ≡ a
report_reads chains s work buffer x = report_back (report chains s work buffer) x (report_small chains s work buffer _ refl)

pub derive_reads : (s : List ℕ) (m k work buffer : ℕ)
    → read_derive (pack_derive (derive_answer (derive s m k work buffer))) ≡ derive_answer (derive s m k work buffer)
derive_reads s m k work buffer = derive_back (derive s m k work buffer) (derived_small s m k work buffer _ refl)

pub accept_reads : (s : List ℕ) (m k : ℕ) (r : Reason) (l : List ℕ)
    → read_accept (pack_accept (accept_answer (judge s m k r l))) ≡ accept_answer (judge s m k r l)
accept_reads s m k r l = accept_back (judge s m k r l) (small (judge s m k r l) refl)
  where
    small : (j : Judged) → judge s m k r l ≡ j → SmallJudged j
    small (Judged.refused n i) e = reader_refusal s m k n i ((reasons.refused_exactly s m k r l n i).0 e)
    small Judged.accepted e = tt
    small Judged.not_accepted e = tt

-- ---- of a table in two pieces: refused for its pieces, or answered as the joined one

pieces_small : (f s : List ℕ) → pieces_fault f s ≤ 40
unfolding pieces_fault shape_fault shape_or
pieces_small f s = go (leb HEADER (length f)) (version_fits f) (limits_fit f) (length_fits f) (eqb (length s % ROW_BYTES) 0) (leb (rows_both f s) ROWS)
  where
    shape : Bool → Bool → Bool → Bool → ℕ
    shape a b c d = cond a (cond b (cond c (cond d 0 4) 3) 2) 1

    go : (a b c d e h : Bool) → cond {A = ℕ} (eqb (shape a b c d) 0) (cond e (cond h 0 3) 40) (shape a b c d) ≤ 40
    go true true true true true true = omega arith
    go true true true true true false = omega arith
    go true true true true false h = omega arith
    go true true true false e h = omega arith
    go true true false d e h = omega arith
    go true false c d e h = omega arith
    go false b c d e h = omega arith

by_pieces : {Z : Type 0} (P : Z → Type 0) (refused : ℕ → ℕ → Z) (one : List ℕ → Z) (f s : List ℕ) → ((n : ℕ) → n < SMALL → P (refused n 0))
    → P (one (joined f s)) → P (of_both refused one f s)
unfolding of_both
by_pieces P refused one f s r h = go (eqb (pieces_fault f s) 0)
  where
    go : (b : Bool) → P (cond b (one (joined f s)) (refused (pieces_fault f s) 0))
    go true = h
    go false = r (pieces_fault f s) (let l = pieces_small f s in omega arith)

by_buffers : {Z : Type 0} (P : Z → Type 0) (b : Bool) (v w : Z) → P v → P w → P (cond b v w)
by_buffers P true v w p q = p
by_buffers P false v w p q = q

count_small : (f s : List ℕ) → count_both f s < SMALL
unfolding count_both
count_small f s = go (leb (rows_both f s) ROWS) refl
  where
    go : (b : Bool) → leb (rows_both f s) ROWS ≡ b → cond b (rows_both f s) 0 < SMALL
    go true e = let l = leb-true (rows_both f s) ROWS e in omega arith
    go false e = omega arith

pub check2_reads : (chains : Bool) (f s : List ℕ) (work buffer : ℕ)
    → read_check (pack_check (check_answer (check_both chains f s work buffer))) ≡ check_answer (check_both chains f s work buffer)
unfolding check_both
check2_reads chains f s work buffer =
    by_buffers Reads (buffers_fit CYCLE work buffer) _ _ (by_pieces Reads Verdict.refused _ f s short (check_reads chains (joined f s) work buffer)) (short 11 (omega arith))
  where
    Reads : Verdict → Type 0
    Reads v = read_check (pack_check (check_answer v)) ≡ check_answer v

    short : (n : ℕ) → n < SMALL → Reads (Verdict.refused n 0)
    short n l = check_back (Verdict.refused n 0) (l, omega arith)

pub fill2_reads : (chains : Bool) (f s : List ℕ) (work buffer : ℕ)
    → read_fill (pack_fill (fill_answer (fill_both chains f s work buffer)) (count_both f s)) ≡ fill_answer (fill_both chains f s work buffer)
unfolding fill_both
fill2_reads chains f s work buffer =
    by_buffers Reads (buffers_fit SOURCES work buffer) _ _
    (by_pieces Reads Outcome.refused _ f s short (fill_back (count_both f s) (fill chains (joined f s) work buffer) (few (fill chains (joined f s) work buffer) refl)))
    (short 11 (omega arith))
  where
    Reads : Outcome → Type 0
    Reads o = read_fill (pack_fill (fill_answer o) (count_both f s)) ≡ fill_answer o

    short : (n : ℕ) → n < SMALL → Reads (Outcome.refused n 0)
    short n l = fill_back (count_both f s) (Outcome.refused n 0) (l, omega arith)

    few : (o : Outcome) → fill chains (joined f s) work buffer ≡ o → SmallOutcome (count_both f s) o
    few (Outcome.refused n i) e = outcome_small chains (joined f s) work buffer (Outcome.refused n i) e
    few (Outcome.race x y b) e = outcome_small chains (joined f s) work buffer (Outcome.race x y b) e
    few Outcome.none e = tt
    few (Outcome.filled l) e = count_small f s

pub report2_reads : (chains : Bool) (f s : List ℕ) (work buffer : ℕ) (x : Float)
    → let a = report_both chains f s work buffer in read_report (pack_report a) (share_after a x) ≡ a
unfolding report_both
report2_reads chains f s work buffer x =
    by_buffers Reads (buffers_fit CYCLE work buffer) _ _ (by_pieces Reads told.refused _ f s short (report_reads chains (joined f s) work buffer x)) (short 11 (omega arith))
  where
    Reads : Told → Type 0
    Reads a = read_report (pack_report a) (share_after a x) ≡ a

    short : (n : ℕ) → n < SMALL → Reads (told.refused n 0)
    short n l = report_back (told.refused n 0) x (l, omega arith)

pub derive2_reads : (f s : List ℕ) (m k work buffer : ℕ)
    → read_derive (pack_derive (derive_answer (derive_both f s m k work buffer))) ≡ derive_answer (derive_both f s m k work buffer)
unfolding derive_both
derive2_reads f s m k work buffer =
    by_buffers Reads (buffers_fit STEPS work buffer) _ _ (by_pieces Reads Derived.refused _ f s short (derive_reads (joined f s) m k work buffer)) (short 11 (omega arith))
  where
    Reads : Derived → Type 0
    Reads d = read_derive (pack_derive (derive_answer d)) ≡ derive_answer d

    short : (n : ℕ) → n < SMALL → Reads (Derived.refused n 0)
    short n l = derive_back (Derived.refused n 0) (l, omega arith)

pub accept2_reads : (f s : List ℕ) (m k : ℕ) (r : Reason) (l : List ℕ)
    → read_accept (pack_accept (accept_answer (judge_both f s m k r l))) ≡ accept_answer (judge_both f s m k r l)
unfolding judge_both
accept2_reads f s m k r l = by_pieces Reads Judged.refused _ f s short (accept_reads (joined f s) m k r l)
  where
    Reads : Judged → Type 0
    Reads j = read_accept (pack_accept (accept_answer j)) ≡ accept_answer j

    short : (n : ℕ) → n < SMALL → Reads (Judged.refused n 0)
    short n h = accept_back (Judged.refused n 0) (h, omega arith)

-- ---- what they say

and_then : {P Q R : Type 0} → P ↔ Q → Q ↔ R → P ↔ R
and_then a b = (λ p. b.0 (a.0 p), λ r. a.1 (b.1 r))

module _ (chains : Bool) (s : List ℕ) (work buffer : ℕ) where
  abbrev v : Verdict
  v = check chains s work buffer

  abbrev r : ℕ
  r = pack_check (check_answer v)

  small : (w : Verdict) → v ≡ w → SmallVerdict w
  small = verdict_small chains s work buffer

  pub check_0 : (CODE r ≡ 0) ↔ CheckMeans chains s work buffer Verdict.race_free
  check_0 = and_then (Numbers.free_number v small) (check_means chains s work buffer Verdict.race_free)

  pub check_1 : (x y b : ℕ) → ((CODE r ≡ 1) × (A r ≡ x) × (B r ≡ y) × (C r ≡ b)) ↔ CheckMeans chains s work buffer (Verdict.race x y b)
  check_1 x y b = and_then (Numbers.race_number v small x y b) (check_means chains s work buffer (Verdict.race x y b))

  pub check_2 : (y z b : ℕ) → ((CODE r ≡ 2) × (A r ≡ y) × (B r ≡ z) × (C r ≡ b)) ↔ CheckMeans chains s work buffer (Verdict.overwritten y z b)
  check_2 y z b = and_then (Numbers.overwritten_number v small y z b) (check_means chains s work buffer (Verdict.overwritten y z b))

  pub check_3 : (k : ℕ) → ((CODE r ≡ 3) × (A r ≡ k))
      ↔ ((rows : List ℕ) × (edges : List ℕ) × CheckMeans chains s work buffer (Verdict.cyclic rows edges) × (length rows ≡ k))
  check_3 k =
      let p = Numbers.cycle_number_lem v small k in (
        λ e. let q = p.0 e in (q.0, q.1, (check_means chains s work buffer (Verdict.cyclic q.0 q.1)).0 q.2, q.3),
        λ q. p.1 (q.0, q.1, (check_means chains s work buffer (Verdict.cyclic q.0 q.1)).1 q.2, q.3),
      )

  pub check_4 : (n i : ℕ) → ((CODE r ≡ 4) × (A r ≡ n) × (B r ≡ i)) ↔ CheckMeans chains s work buffer (Verdict.refused n i)
  check_4 n i = and_then (Numbers.refused_number v small n i) (check_means chains s work buffer (Verdict.refused n i))

module _ (chains : Bool) (s : List ℕ) (bytes : Bytes s) (work buffer : ℕ) where
  abbrev o : Outcome
  o = fill chains s work buffer

  abbrev f : ℕ
  f = pack_fill (fill_answer o) (rows_at s)

  fill_small : (w : Outcome) → o ≡ w → SmallOutcome (rows_at s) w
  fill_small = outcome_small chains s work buffer

  pub fill_1 : (x y b : ℕ) → ((CODE f ≡ 1) × (A f ≡ x) × (B f ≡ y) × (C f ≡ b)) ↔ FillMeans chains s work buffer (Outcome.race x y b)
  fill_1 x y b = and_then (Numbers.fill_race_number (rows_at s) o fill_small x y b) (fill_means chains s work buffer bytes (Outcome.race x y b))

  pub fill_4 : (n i : ℕ) → ((CODE f ≡ 4) × (A f ≡ n) × (B f ≡ i)) ↔ FillMeans chains s work buffer (Outcome.refused n i)
  fill_4 n i = and_then (Numbers.fill_refused_number (rows_at s) o fill_small n i) (fill_means chains s work buffer bytes (Outcome.refused n i))

  pub fill_5 : (CODE f ≡ 5) ↔ FillMeans chains s work buffer Outcome.none
  fill_5 = and_then (Numbers.none_number (rows_at s) o fill_small) (fill_means chains s work buffer bytes Outcome.none)

  pub fill_6 : ((CODE f ≡ 6) × (A f ≡ rows_at s)) ↔ ((l : List ℕ) × FillMeans chains s work buffer (Outcome.filled l))
  fill_6 =
      let p = Numbers.filled_number (rows_at s) o fill_small in (
        λ e. let q = p.0 e in (q.0, (fill_means chains s work buffer bytes (Outcome.filled q.0)).0 q.1),
        λ q. p.1 (q.0, (fill_means chains s work buffer bytes (Outcome.filled q.0)).1 q.1),
      )
