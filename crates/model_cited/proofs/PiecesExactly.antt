-- What is said of a table in two pieces, exactly: the proofs of Pieces.antt. Assumes nothing.
use Rattle.std.specs.Prelude.{◌≡◌, Bool, true, false, cond, List, [], ◌++◌, ◌⊎◌, ◌↔◌, ℕ, ◌+◌, ◌-◌, ◌*◌, ◌/◌, ◌%◌, ◌≤◌, ◌<◌, length, take, drop}
use Rattle.std.specs.declared.option.Option.{Option}
use Rattle.std.specs.declared.option.Option.TheVariants.{None, Some}
use Rattle.std.proofs.Math.Path.{refl}
use Rattle.std.proofs.Common.{sym, ap, ◌∙◌, subst, inl, inr, length-take, length-drop}
use native.Mathlib.Omega.{arith}
use Rattle.std.proofs.Math.Decide.{dec_lt, ℕ_discrete}
use borrow.Author.Tests.{ne_eqb, le-leb, lt-leb}
use Rattle.finite.specs.Logic.{which, not_both}
use Rattle.model.specs.declared.Admission.TheVariants.{Refused}
use Rattle.model.specs.declared.Reason.{Reason}
use Rattle.model.specs.Report.{Told}
use Rattle.model.specs.Limits.{ROWS, CYCLE, SOURCES, STEPS}
use Rattle.model.specs.Header.{HEADER, ROW_BYTES, version_at, agents_at, rows_at, rows_begin, places_of, row_bytes}
use Rattle.model.specs.Table.{table_of}
use Rattle.model.specs.Header.{dependency_bytes}
use Rattle.model.specs.Refusal.{shape_or, buffers_fit, version_fits, limits_fit, length_fits, header_fault, admission}
use Rattle.model.specs.Check.{Verdict, check}
use Rattle.model.specs.Fill.{Outcome, fill}
use Rattle.model.specs.Report.{report}
use Rattle.model.specs.Reason.{Judged, Derived, judge, derive}
use Rattle.model.specs.Refusal.{shape_fault}
use Rattle.door_pieces.specs.declared.RowPlace.{RowPlace}
use Rattle.door_pieces.specs.Pieces.{rows_both, pieces_fault, joined, of_both, check_both, fill_both, report_both, derive_both}
use Rattle.door_pieces.specs.Pieces.{judge_both, early_fault, row_part, row_place, part_at}
use Rattle.door_pieces.specs.PiecesLaws.{of_joined, of_refused, bytes_length, joined_bytes, early_pieces, place_refused, place_past}
use Rattle.door_pieces.specs.Promise.{joined_is, part_is}
use Rattle.door_pieces.specs.Promise as page
use Rattle.model.specs.Words.{HappensBefore}
use Rattle.model_promises.specs.Terms.{Bytes, Short, DeriveHears}
use Rattle.model_promises.specs.Main as means
use Rattle.model_cited.specs.JoinedBytes.{bytes_joined}
use Rattle.model_cited.specs.Terms.{HeaderRefuses, HeaderPasses, PairRefuses, PairPasses, RowsHeld, OfPair}

-- ---- 1 to 4 of one table

header_fault_lem : (f : List ℕ) (n : ℕ) → HeaderRefuses f n → (shape_fault f ≡ n) × (header_fault f ≡ n) × (1 ≤ n)
unfolding shape_fault header_fault shape_or
header_fault_lem f n (HeaderRefuses.too_short l e) = rw (e, lt-leb HEADER (length f) l) (refl, refl, omega arith)
header_fault_lem f n (HeaderRefuses.other_version l v e) = rw (e, le-leb HEADER (length f) l, v) (refl, refl, omega arith)
header_fault_lem f n (HeaderRefuses.over_limits l v m e) =
    rw (e, le-leb HEADER (length f) l, v, m) (refl, refl, omega arith)
header_fault_lem f n (HeaderRefuses.other_length l v m k e) =
    rw (e, le-leb HEADER (length f) l, v, m, k) (refl, refl, omega arith)

header_none : (f : List ℕ) → HeaderPasses f → shape_fault f ≡ 0
unfolding shape_fault shape_or
header_none f h = rw (le-leb HEADER (length f) h.long, h.version, h.limits, h.size) refl

header_cases : (f : List ℕ) → HeaderPasses f ⊎ ((n : ℕ) × HeaderRefuses f n)
header_cases f = go (dec_lt (length f) HEADER) (which (version_fits f)) (which (limits_fit f)) (which (length_fits f))
  where
    go : Dec (length f < HEADER) → (version_fits f ≡ true) ⊎ (version_fits f ≡ false)
        → (limits_fit f ≡ true) ⊎ (limits_fit f ≡ false) → (length_fits f ≡ true) ⊎ (length_fits f ≡ false)
        → HeaderPasses f ⊎ ((n : ℕ) × HeaderRefuses f n)
    go (yes l) v m k = inr (1, HeaderRefuses.too_short l refl)
    go (no l) (inr v) m k = inr (2, HeaderRefuses.other_version (omega arith) v refl)
    go (no l) (inl v) (inr m) k = inr (3, HeaderRefuses.over_limits (omega arith) v m refl)
    go (no l) (inl v) (inl m) (inr k) = inr (4, HeaderRefuses.other_length (omega arith) v m k refl)
    go (no l) (inl v) (inl m) (inl k) = inl (record { long = omega arith; version = v; limits = m; size = k })

-- of one table these come first
pub header_alone : (blanks : Bool) (f : List ℕ) (n : ℕ) → HeaderRefuses f n → admission blanks f ≡ Refused n 0
unfolding admission
header_alone blanks f n h =
    let e = header_fault_lem f n h in
    let l = e.2 in
    rw (e.1, ne_eqb n 0 (λ z. omega arith)) refl

-- ---- the refusals of a pair

module _ (f s : List ℕ) where
  pub pair_number : (n : ℕ) → PairRefuses f s n → (pieces_fault f s ≡ n) × (1 ≤ n)
  unfolding pieces_fault
  pair_number n (PairRefuses.first_piece h) =
      let e = header_fault_lem f n h in
      let l = e.2 in
      (rw (e.0, ne_eqb n 0 (λ z. omega arith)) refl, l)
  pair_number n (PairRefuses.broken_rows h d e) =
      rw (e, header_none f h, ne_eqb (length s % ROW_BYTES) 0 d) (refl, omega arith)
  pair_number n (PairRefuses.too_many_rows h w l e) =
      rw (e, header_none f h, w, lt-leb (rows_both f s) ROWS l) (refl, omega arith)

  pub pair_none : PairPasses f s → pieces_fault f s ≡ 0
  unfolding pieces_fault
  pair_none h = rw (header_none f h.first, h.whole, le-leb (rows_both f s) ROWS h.few) refl

  pub pair_cases : PairPasses f s ⊎ ((n : ℕ) × PairRefuses f s n)
  pair_cases = go (header_cases f) (ℕ_discrete (length s % ROW_BYTES) 0) (dec_lt ROWS (rows_both f s))
    where
      go : HeaderPasses f ⊎ ((n : ℕ) × HeaderRefuses f n) → Dec (length s % ROW_BYTES ≡ 0) → Dec (ROWS < rows_both f s)
          → PairPasses f s ⊎ ((n : ℕ) × PairRefuses f s n)
      go (inr (n, h)) d l = inr (n, PairRefuses.first_piece h)
      go (inl h) (no d) l = inr (40, PairRefuses.broken_rows h d refl)
      go (inl h) (yes w) (yes l) = inr (3, PairRefuses.too_many_rows h w l refl)
      go (inl h) (yes w) (no l) = inl (record { first = h; whole = w; few = omega arith })

  pub pair_exactly : (n : ℕ) → (pieces_fault f s ≡ n) ↔ (PairRefuses f s n ⊎ (PairPasses f s × (n ≡ 0)))
  pair_exactly n = (λ e. there pair_cases e, back)
    where
      there : PairPasses f s ⊎ ((k : ℕ) × PairRefuses f s k) → pieces_fault f s ≡ n
          → PairRefuses f s n ⊎ (PairPasses f s × (n ≡ 0))
      there (inl h) e = inr (h, sym e ∙ pair_none h)
      there (inr (k, h)) e = inl (subst (PairRefuses f s) (sym (pair_number k h).0 ∙ e) h)

      back : PairRefuses f s n ⊎ (PairPasses f s × (n ≡ 0)) → pieces_fault f s ≡ n
      back (inl h) = (pair_number n h).0
      back (inr (h, e)) = pair_none h ∙ sym e

-- ---- an answer about a pair

-- of one table, by its own theorem: from the answer to its meaning, and back
module _ {A : Type 0} (f s : List ℕ) (refused : ℕ → ℕ → A) (one : List ℕ → A) (Means : List ℕ → A → Type 0) where
  -- where no buffers are lent, or all are long enough
  pair_means : {X : Type 0} → (X → ⊥) → (a : A) → (PairPasses f s → one (joined f s) ≡ a → Means (joined f s) a)
      → of_both refused one f s ≡ a → OfPair f s X refused Means a
  pair_means {X} long a m e = go (pair_cases f s)
    where
      go : PairPasses f s ⊎ ((n : ℕ) × PairRefuses f s n) → OfPair f s X refused Means a
      go (inl h) = OfPair.of_joined long h (m h (sym (of_joined f s (pair_none f s h) refused one) ∙ e))
      go (inr (n, h)) =
          let q = pair_number f s n h in
          let l = q.1 in
          OfPair.refused_pair long n h (sym e ∙ of_refused refused one f s n (sym q.0) (λ z. omega arith))

  pair_back : {X : Type 0} → (X → ⊥) → (a : A) → (PairPasses f s → Means (joined f s) a → one (joined f s) ≡ a)
      → OfPair f s X refused Means a → of_both refused one f s ≡ a
  pair_back long a m (OfPair.short_buffer x e) = absurd (long x)
  pair_back long a m (OfPair.refused_pair x n h e) =
      let q = pair_number f s n h in
      let l = q.1 in
      of_refused refused one f s n (sym q.0) (λ z. omega arith) ∙ sym e
  pair_back long a m (OfPair.of_joined x h t) = of_joined f s (pair_none f s h) refused one ∙ m h t

  module _ (needs work buffer : ℕ) where
    abbrev both : A
    both = cond (buffers_fit needs work buffer) (of_both refused one f s) (refused 11 0)

    door_means : (a : A) → (PairPasses f s → one (joined f s) ≡ a → Means (joined f s) a)
        → both ≡ a → OfPair f s (Short needs work buffer) refused Means a
    door_means a m e = go (which (buffers_fit needs work buffer))
      where
        T : Bool → Type 0
        T b = cond b (of_both refused one f s) (refused 11 0) ≡ a

        go : (buffers_fit needs work buffer ≡ true) ⊎ (buffers_fit needs work buffer ≡ false)
            → OfPair f s (Short needs work buffer) refused Means a
        go (inl t) = pair_means (λ x. not_both t x) a m (subst T t e)
        go (inr x) = OfPair.short_buffer x (sym (subst T x e))

    door_back : (a : A) → (PairPasses f s → Means (joined f s) a → one (joined f s) ≡ a)
        → OfPair f s (Short needs work buffer) refused Means a → both ≡ a
    door_back a m o = go (which (buffers_fit needs work buffer))
      where
        T : Bool → Type 0
        T b = cond b (of_both refused one f s) (refused 11 0) ≡ a

        short : Short needs work buffer → OfPair f s (Short needs work buffer) refused Means a → refused 11 0 ≡ a
        short x (OfPair.short_buffer y e) = sym e
        short x (OfPair.refused_pair y n h e) = absurd (y x)
        short x (OfPair.of_joined y h t) = absurd (y x)

        go : (buffers_fit needs work buffer ≡ true) ⊎ (buffers_fit needs work buffer ≡ false) → both ≡ a
        go (inl t) = subst T (sym t) (pair_back (λ x. not_both t x) a m o)
        go (inr x) = subst T (sym x) (short x o)

-- ---- the five of them

module _ (chains : Bool) (f s : List ℕ) (work buffer : ℕ) where
  pub check_exactly : (v : Verdict) → (check_both chains f s work buffer ≡ v)
      ↔ OfPair f s (Short CYCLE work buffer) Verdict.refused (λ t. means.CheckMeans chains t work buffer) v
  unfolding check_both
  check_exactly v = (
    door_means f s _ _ _ CYCLE work buffer v (λ h. (means.check_means chains (joined f s) work buffer v).0),
    door_back f s _ _ _ CYCLE work buffer v (λ h. (means.check_means chains (joined f s) work buffer v).1),
  )

  pub fill_exactly : Bytes f → Bytes s → (o : Outcome) → (fill_both chains f s work buffer ≡ o)
      ↔ OfPair f s (Short SOURCES work buffer) Outcome.refused (λ t. means.FillMeans chains t work buffer) o
  unfolding fill_both
  fill_exactly b c o = (
    door_means f s _ _ _ SOURCES work buffer o (λ h. (means.fill_means chains (joined f s) work buffer (bytes h) o).0),
    door_back f s _ _ _ SOURCES work buffer o (λ h. (means.fill_means chains (joined f s) work buffer (bytes h) o).1),
  )
    where
      bytes : PairPasses f s → Bytes (joined f s)
      bytes h = bytes_joined f s (pair_none f s h) b c

  pub report_exactly : (a : Told) → (report_both chains f s work buffer ≡ a)
      ↔ OfPair f s (Short CYCLE work buffer) Told.refused (λ t. means.ReportMeans chains t work buffer) a
  unfolding report_both
  report_exactly a = (
    door_means f s _ _ _ CYCLE work buffer a (λ h. (means.report_means chains (joined f s) work buffer a).0),
    door_back f s _ _ _ CYCLE work buffer a (λ h. (means.report_means chains (joined f s) work buffer a).1),
  )

module _ (f s : List ℕ) (m k : ℕ) where
  pub reader_exactly : (r : Reason) (l : List ℕ) (j : Judged) → (judge_both f s m k r l ≡ j)
      ↔ OfPair f s ⊥ Judged.refused (λ t. means.ReaderMeans t m k r l) j
  unfolding judge_both
  reader_exactly r l j = (
    pair_means f s _ _ _ (λ x. x) j (λ h. (means.reader_means (joined f s) m k r l j).0),
    pair_back f s _ _ _ (λ x. x) j (λ h. (means.reader_means (joined f s) m k r l j).1),
  )

  module _ (work buffer : ℕ) where
    pub derive_means : (d : Derived) → derive_both f s m k work buffer ≡ d
        → OfPair f s (Short STEPS work buffer) Derived.refused (λ t. means.DeriveMeans t m k work buffer) d
    unfolding derive_both
    derive_means d = door_means f s _ _ _ STEPS work buffer d (λ h. means.derive_means (joined f s) m k work buffer d)

    pub derive_refuses : (n i : ℕ) → (derive_both f s m k work buffer ≡ Derived.refused n i)
        ↔ OfPair f s (Short STEPS work buffer) Derived.refused (λ t. means.DeriveMeans t m k work buffer)
        (Derived.refused n i)
    unfolding derive_both
    derive_refuses n i = (
      derive_means (Derived.refused n i),
      door_back f s _ _ _ STEPS work buffer _ (λ h. (means.derive_refuses (joined f s) m k work buffer n i).1),
    )

    pub not_before_said : (derive_both f s m k work buffer ≡ Derived.not_before)
        ↔ OfPair f s (Short STEPS work buffer) Derived.refused (λ t. means.DeriveMeans t m k work buffer)
        Derived.not_before
    unfolding derive_both
    not_before_said = (
      derive_means Derived.not_before,
      door_back f s _ _ _ STEPS work buffer _ (λ h. (means.not_before_said (joined f s) m k work buffer).1),
    )

-- ---- as equations

module _ (f s : List ℕ) (h : PairPasses f s) where
  z : pieces_fault f s ≡ 0
  z = pair_none f s h

  pub joined_table : let t = joined f s in HeaderPasses t
      × (version_at t ≡ version_at f) × (agents_at t ≡ agents_at f) × (places_of t ≡ places_of f)
      × (dependency_bytes t ≡ dependency_bytes f) × (rows_at t ≡ rows_at f + length s / ROW_BYTES)
      × (row_bytes t ≡ row_bytes f ++ s) × (length t ≡ length f + length s)
  joined_table =
      let j = joined_is f s z in (
        passes (header_cases (joined f s)),
        j.version,
        j.agents,
        j.places,
        j.dependencies,
        j.count,
        j.rows,
        j.size,
      )
    where
      passes : HeaderPasses (joined f s) ⊎ ((n : ℕ) × HeaderRefuses (joined f s) n) → HeaderPasses (joined f s)
      passes (inl p) = p
      passes (inr (n, p)) =
          let e = header_fault_lem (joined f s) n p in
          let q = e.0 in
          let l = e.2 in
          let o = (joined_is f s z).shape in
          absurd (omega arith)

  pub joined_small : Bytes f → Bytes s → Bytes (joined f s)
  joined_small = bytes_joined f s z

  pub check_joined : (chains : Bool) (work buffer : ℕ)
      → check_both chains f s work buffer ≡ check chains (joined f s) work buffer
  check_joined chains work buffer = page.check_joined f s z work buffer chains

  pub fill_joined : (chains : Bool) (work buffer : ℕ)
      → fill_both chains f s work buffer ≡ fill chains (joined f s) work buffer
  fill_joined chains work buffer = page.fill_joined f s z work buffer chains

  pub report_joined : (chains : Bool) (work buffer : ℕ)
      → report_both chains f s work buffer ≡ report chains (joined f s) work buffer
  report_joined chains work buffer = page.report_joined f s z work buffer chains

  pub derive_joined : (m k work buffer : ℕ) → derive_both f s m k work buffer ≡ derive (joined f s) m k work buffer
  derive_joined m k work buffer = page.derive_joined f s z work buffer m k

  pub reader_joined : (m k : ℕ) (r : Reason) (l : List ℕ) → judge_both f s m k r l ≡ judge (joined f s) m k r l
  reader_joined = page.judge_joined f s z

-- ---- a derivation of a pair is found exactly when there is one

abbrev told : Derived → ℕ
told (Derived.refused n i) = 0
told Derived.word = 1
told (Derived.chained c l) = 1
told Derived.not_before = 2

module _ (f s : List ℕ) (m k work buffer : ℕ) where
  heard : (d : Derived) → derive_both f s m k work buffer ≡ d → 1 ≤ told d → PairPasses f s
  heard d e l = go (derive_means f s m k work buffer d e)
    where
      no_refusal : (n : ℕ) → d ≡ Derived.refused n 0 → ⊥
      no_refusal n r = let z : told d ≡ 0 = ap told r in omega arith

      go : OfPair f s (Short STEPS work buffer) Derived.refused (λ t. means.DeriveMeans t m k work buffer) d
          → PairPasses f s
      go (OfPair.short_buffer x r) = absurd (no_refusal 11 r)
      go (OfPair.refused_pair x n h r) = absurd (no_refusal n r)
      go (OfPair.of_joined x h t) = h

  pub found_exactly : ((derive_both f s m k work buffer ≡ Derived.word)
      ⊎ ((c : ℕ) × (l : List ℕ) × (derive_both f s m k work buffer ≡ Derived.chained c l)))
      ↔ (PairPasses f s × DeriveHears (joined f s) m k work buffer × HappensBefore (table_of (joined f s)) m k)
  found_exactly = (there, λ x. back x.0 ((means.some_found (joined f s) m k work buffer).1 (x.1, x.2)))
    where
      there : (derive_both f s m k work buffer ≡ Derived.word)
          ⊎ ((c : ℕ) × (l : List ℕ) × (derive_both f s m k work buffer ≡ Derived.chained c l))
          → PairPasses f s × DeriveHears (joined f s) m k work buffer × HappensBefore (table_of (joined f s)) m k
      there (inl e) =
          let h = heard Derived.word e (omega arith) in
          let q = sym (derive_joined f s h m k work buffer) ∙ e in
          let x = (means.some_found (joined f s) m k work buffer).0 (inl q) in
          (h, x.0, x.1)
      there (inr (c, l, e)) =
          let h = heard (Derived.chained c l) e (omega arith) in
          let q = sym (derive_joined f s h m k work buffer) ∙ e in
          let x = (means.some_found (joined f s) m k work buffer).0 (inr (c, l, q)) in
          (h, x.0, x.1)

      back : PairPasses f s → (derive (joined f s) m k work buffer ≡ Derived.word)
          ⊎ ((c : ℕ) × (l : List ℕ) × (derive (joined f s) m k work buffer ≡ Derived.chained c l))
          → (derive_both f s m k work buffer ≡ Derived.word)
          ⊎ ((c : ℕ) × (l : List ℕ) × (derive_both f s m k work buffer ≡ Derived.chained c l))
      back h (inl e) = inl (derive_joined f s h m k work buffer ∙ e)
      back h (inr (c, l, e)) = inr (c, l, derive_joined f s h m k work buffer ∙ e)

-- ---- row n

module _ (f s : List ℕ) where
  held_early : RowsHeld f s → early_fault f s ≡ 0
  unfolding early_fault
  held_early h = rw (pair_none f s h.pair) h.hosts

  early_held : early_fault f s ≡ 0 → RowsHeld f s
  unfolding early_fault
  early_held e = record { pair = go (pair_cases f s); hosts = rw zero at e }
    where
      zero : pieces_fault f s ≡ 0
      zero = early_pieces f s 0 (sym e) refl

      go : PairPasses f s ⊎ ((n : ℕ) × PairRefuses f s n) → PairPasses f s
      go (inl h) = h
      go (inr (n, h)) =
          let p = pair_number f s n h in
          let q = p.0 in
          let l = p.1 in
          let o = zero in
          absurd (omega arith)

  more : rows_at f ≤ rows_both f s
  unfolding rows_both
  more = omega arith

  module _ (n : ℕ) where
    abbrev Place : Option RowPlace → Type 0
    Place (Some (RowPlace.First at)) = RowsHeld f s × (n < rows_at f) × (at ≡ rows_begin f + ROW_BYTES * n)
    Place (Some (RowPlace.Second at)) =
        RowsHeld f s × (rows_at f ≤ n) × (n < rows_both f s) × (at ≡ ROW_BYTES * (n - rows_at f))
    Place None = (RowsHeld f s → ⊥) ⊎ (rows_both f s ≤ n)

    first_here : RowsHeld f s → n < rows_at f → row_place f s n ≡ Some (RowPlace.First (rows_begin f + ROW_BYTES * n))
    first_here h = (part_is f s n).first (held_early h)

    second_here : RowsHeld f s → rows_at f ≤ n → n < rows_both f s
        → row_place f s n ≡ Some (RowPlace.Second (ROW_BYTES * (n - rows_at f)))
    second_here h = (part_is f s n).second (held_early h)

    nowhere : Place None → row_place f s n ≡ None
    nowhere (inl d) = sym (place_refused f s n (early_fault f s) refl (λ e. d (early_held e)))
    nowhere (inr l) = go (ℕ_discrete (early_fault f s) 0)
      where
        go : Dec (early_fault f s ≡ 0) → row_place f s n ≡ None
        go (yes e) =
            let m = more in
            sym (place_past f s n 0 (sym e) refl (rows_at f) refl (rows_both f s) refl (omega arith) l)
        go (no d) = sym (place_refused f s n (early_fault f s) refl d)

    -- the pair holds rows or not, and row n is in one of the pieces or past them
    held_or : RowsHeld f s ⊎ (RowsHeld f s → ⊥)
    held_or = go (ℕ_discrete (early_fault f s) 0)
      where
        go : Dec (early_fault f s ≡ 0) → RowsHeld f s ⊎ (RowsHeld f s → ⊥)
        go (yes e) = inl (early_held e)
        go (no d) = inr (λ h. d (held_early h))

    place_said : Place (row_place f s n)
    place_said = go held_or (dec_lt n (rows_at f)) (dec_lt n (rows_both f s))
      where
        go : RowsHeld f s ⊎ (RowsHeld f s → ⊥) → Dec (n < rows_at f) → Dec (n < rows_both f s) → Place (row_place f s n)
        go (inr d) a b = subst Place (sym (nowhere (inl d))) (inl d)
        go (inl h) (yes a) b = subst Place (sym (first_here h a)) (h, a, refl)
        go (inl h) (no a) (yes b) = subst Place (sym (second_here h (omega arith) b)) (h, omega arith, b, refl)
        go (inl h) (no a) (no b) = subst Place (sym (nowhere (inr (omega arith)))) (inr (omega arith))

    pub place_exactly : (w : Option RowPlace) → (row_place f s n ≡ w) ↔ Place w
    place_exactly w = (λ e. subst Place e place_said, back w)
      where
        back : (w : Option RowPlace) → Place w → row_place f s n ≡ w
        back (Some (RowPlace.First at)) (h, l, e) = first_here h l ∙ ap (λ (i : ℕ). Some (RowPlace.First i)) (sym e)
        back (Some (RowPlace.Second at)) (h, l, m, e) = second_here h l m ∙ ap (λ (i : ℕ). Some (RowPlace.Second i)) (sym e)
        back None d = nowhere d

    pub part_place : row_part f s n ≡ part_at f s (row_place f s n)
    part_place = (part_is f s n).at

    part_here : RowsHeld f s → n < rows_both f s
        → row_part f s n ≡ take ROW_BYTES (drop (ROW_BYTES * n) (row_bytes (joined f s)))
    part_here h l = (part_is f s n).held (held_early h) l

    part_none : (RowsHeld f s → ⊥) ⊎ (rows_both f s ≤ n) → row_part f s n ≡ []
    part_none d = (part_is f s n).nowhere (nowhere d)

    abbrev Part : List ℕ → Type 0
    Part x =
        (RowsHeld f s × (n < rows_both f s) × (x ≡ take ROW_BYTES (drop (ROW_BYTES * n) (row_bytes (joined f s)))))
        ⊎ (((RowsHeld f s → ⊥) ⊎ (rows_both f s ≤ n)) × (x ≡ []))

    pub part_exactly : (x : List ℕ) → (row_part f s n ≡ x) ↔ Part x
    part_exactly x = (λ e. there held_or (dec_lt n (rows_both f s)) e, back)
      where
        there : RowsHeld f s ⊎ (RowsHeld f s → ⊥) → Dec (n < rows_both f s) → row_part f s n ≡ x → Part x
        there (inl h) (yes l) e = inl (h, l, sym e ∙ part_here h l)
        there (inl h) (no l) e = inr (inr (omega arith), sym e ∙ part_none (inr (omega arith)))
        there (inr d) l e = inr (inl d, sym e ∙ part_none (inl d))

        back : Part x → row_part f s n ≡ x
        back (inl (h, l, e)) = part_here h l ∙ sym e
        back (inr (d, e)) = part_none d ∙ sym e

    pub part_long : RowsHeld f s → n < rows_both f s → length (row_part f s n) ≡ ROW_BYTES
    part_long h l =
        ap length (part_here h l) ∙ length-take ROW_BYTES (drop (ROW_BYTES * n) (row_bytes (joined f s)))
        ∙ (let e = after in omega arith)
      where
        z' : pieces_fault f s ≡ 0
        z' = pair_none f s h.pair

        after : length (drop (ROW_BYTES * n) (row_bytes (joined f s))) ≡ ROW_BYTES * rows_both f s - ROW_BYTES * n
        after = length-drop (ROW_BYTES * n) (row_bytes (joined f s))
            ∙ ap (λ (x : ℕ). x - ROW_BYTES * n) (ap length (joined_bytes f s z') ∙ bytes_length f s z')
