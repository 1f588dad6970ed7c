-- What is said of a table reads the sources of its own rows alone, so that an engine may hold them in a list of that length.
-- Assumes nothing.
use Rattle.std.specs.Prelude.{◌≡◌, Bool, true, ℕ, suc, ◌<◌, length, get_or, ltb}
use Rattle.std.proofs.Math.Path.{refl, ap, ap₂}
use Rattle.std.proofs.Common.{◌∙◌, arith}
use Rattle.std.proofs.Math.Bool.{false, not, cond}
use mathlib.Core.List.{List, [], ◌∷◌}
use borrow.Author.Tests.{ltb-true}
use Rattle.finite.specs.Below.{any_cong, least_cong}
use Rattle.finite.specs.Lists.{tabulate_cong}
use Rattle.finite.specs.Walk.{along}
use Rattle.finite.specs.Cycle.{cycle_canonical, cycle_start_cong, cycle_cong}
use Rattle.model.specs.Table.{Table}
use Rattle.model.specs.Limits.{LONGEST}
use Rattle.model.specs.Edge.{reads_from, from_reads, edge_number, edge, cycle_row, cycle_rows, cycle_edges, overwrites, overwrites_nth, over_nth, overwriting}
use Rattle.model.specs.Edge.{over_writer, is_overwritten, over_reader, over_byte, consistent}
use Rattle.model.specs.Check as Check
use Rattle.model.specs.Check.{Verdict, cyclic_or, overwritten_or, verdict}
use Rattle.model.specs.TableFault.{source_broken}
use Rattle.model.specs.Fill.{Outcome, sources_fit, filled_or}

-- ---- a list of steps, by a test that agrees below a bound

module _ (f g : ℕ → ℕ → ℕ) (n x : ℕ) (below : x < n) (same : (i j : ℕ) → i < n → j < n → f i j ≡ g i j) where
  along_cong : (l : List ℕ) → ((k : ℕ) → k < length l → get_or l k 0 < n) → along f x l ≡ along g x l
  unfolding along
  along_cong [] h = refl
  along_cong (a ∷ []) h = ap (λ (v : ℕ). v ∷ []) (same a x (h 0 (omega arith)) below)
  along_cong (a ∷ (b ∷ l)) h = ap₂ ◌∷◌ (same a b (h 0 (omega arith)) (h 1 (omega arith))) (along_cong (b ∷ l) (λ k m. h (suc k) (omega arith)))

module _ (t : Table) (a b : ℕ → ℕ) (same : (i : ℕ) → i < t.rows → a i ≡ b i) where
  -- ---- edges

  edge_same : (x y : ℕ) → x < t.rows → y < t.rows → edge t a x y ≡ edge t b x y
  unfolding edge edge_number reads_from from_reads
  edge_same x y l m = rw (same x l, same y m) refl

  number_same : (x y : ℕ) → x < t.rows → y < t.rows → edge_number t a x y ≡ edge_number t b x y
  unfolding edge_number reads_from from_reads
  number_same x y l m = rw (same x l, same y m) refl

  row_same : cycle_row t a ≡ cycle_row t b
  unfolding cycle_row
  row_same = cycle_start_cong t.rows (edge t a) (edge t b) edge_same

  rows_same : cycle_rows t a ≡ cycle_rows t b
  unfolding cycle_rows
  rows_same = cycle_cong t.rows (edge t a) (edge t b) edge_same

  edges_same : cycle_row t a < t.rows → cycle_edges t a ≡ cycle_edges t b
  unfolding cycle_edges cycle_row cycle_rows
  edges_same l =
      along_cong (edge_number t a) (edge_number t b) t.rows (cycle_row t a) l number_same (cycle_rows t a) (cycle_canonical t.rows (edge t a) l).below
      ∙ ap₂ (along (edge_number t b)) row_same rows_same

  -- ---- overwritten

  nth_same : (y z : ℕ) → y < t.rows → over_nth t a y z ≡ over_nth t b y z
  unfolding over_nth overwrites_nth overwrites
  nth_same y z l = least_cong (overwrites_nth t a y z) (overwrites_nth t b y z) LONGEST (λ k m. rw (same y l) refl)

  writer_same : (y : ℕ) → y < t.rows → over_writer t a y ≡ over_writer t b y
  unfolding over_writer overwriting
  writer_same y l = least_cong (overwriting t a y) (overwriting t b y) t.rows (λ z m. rw (nth_same y z l) refl)

  reader_same : over_reader t a ≡ over_reader t b
  unfolding over_reader is_overwritten
  reader_same = least_cong (is_overwritten t a) (is_overwritten t b) t.rows (λ y l. rw (writer_same y l) refl)

  byte_same : (y z : ℕ) → y < t.rows → over_byte t a y z ≡ over_byte t b y z
  unfolding over_byte
  byte_same y z l = rw (nth_same y z l) refl

  -- ---- what a check says

  cond_same : {A : Type 0} (c : Bool) (u v w : A) → (c ≡ true → u ≡ v) → cond c u w ≡ cond c v w
  cond_same true u v w h = h refl
  cond_same false u v w h = refl

  over_same : (next : Verdict) → overwritten_or next t a ≡ overwritten_or next t b
  unfolding overwritten_or
  over_same next =
      cond_same (ltb (over_reader t a) t.rows) _ _ next
      (λ e. let l = ltb-true (over_reader t a) t.rows e in
      ap₂ (λ (z k : ℕ). Check.overwritten (over_reader t a) z k) (writer_same (over_reader t a) l)
      (byte_same (over_reader t a) (over_writer t a (over_reader t a)) l ∙ ap (over_byte t b (over_reader t a)) (writer_same (over_reader t a) l)))
      ∙ rw reader_same refl

  pub verdict_same : verdict t a ≡ verdict t b
  unfolding verdict cyclic_or
  verdict_same =
      ap (λ (next : Verdict). cond (ltb (cycle_row t a) t.rows) (Check.cyclic (cycle_rows t a) (cycle_edges t a)) next) (over_same _)
      ∙ cond_same (ltb (cycle_row t a) t.rows) _ _ _ (λ e. ap₂ Check.cyclic rows_same (edges_same (ltb-true (cycle_row t a) t.rows e)))
      ∙ rw row_same refl

  -- ---- what a fill says

  pub consistent_same : consistent t a ≡ consistent t b
  unfolding consistent
  consistent_same = rw (row_same, reader_same) refl

  pub fits_same : sources_fit t a ≡ sources_fit t b
  unfolding sources_fit source_broken
  fits_same = ap not (any_cong (source_broken false t a) (source_broken false t b) t.rows (λ i l. rw (same i l) refl))

  pub filled_same : (next : Outcome) → filled_or next t a ≡ filled_or next t b
  unfolding filled_or
  filled_same next = rw (fits_same, consistent_same, tabulate_cong a b t.rows same) refl
