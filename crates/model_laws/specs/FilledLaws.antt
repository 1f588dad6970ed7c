-- The bytes of a filled table: a filling with given sources exists, is the only one with them, and is well formed exactly when its
-- sources are. Assumes nothing.
use Rattle.std.specs.Prelude.{◌≡◌, Bool, List, ◌⊎◌, ltb, eqb}
use Rattle.std.proofs.Math.Path.{refl, sym, ap₂, subst}
use Rattle.std.proofs.Common.{ap, ◌∙◌}
use Rattle.std.proofs.Math.Bool.{true, false, not, cond}
use Rattle.std.proofs.Math.Logic.{inl, inr, ⊎_elim}
use Prim.Native.Nat.{ℕ, ◌+◌, ◌-◌, ◌*◌, ◌/◌, ◌%◌, ◌≤◌, ◌<◌}
use native.Mathlib.Omega.{arith}
use Rattle.std.proofs.Math.Decide.{dec_lt, ℕ_discrete}
use Rattle.std.proofs.Math.ListN.{length, get_or, get_or-eq_default}
use Rattle.std.proofs.Math.Seq.{ext_get_or}
use borrow.Author.Tests.{eqb-true, ne_eqb, ltb-true, lt-ltb, le-ltb, le-leb}
use Rattle.finite.specs.Logic.{◌and◌, ◌or◌, split, and_true, or_cases, or_left, which, not_both, not_so}
use Rattle.finite.specs.Below.{any_cong}
use Rattle.finite.specs.Lists.{tabulate, length_tabulate, get_d_tabulate}
use Rattle.model.specs.declared.Row.{Row}
use Rattle.model.specs.Limits.{INITIAL}
use Rattle.model.specs.Row.{PLAIN_READ, ATOMIC_READ, RMW, access, plain_read, reads, operation}
use Rattle.model.specs.Table.{Table}
use Rattle.model.specs.Header.{HEADER, ROW_BYTES, pair_at, quad_at, count_at, zero_at, agents_at, rows_at, has_hosts, places_of, rows_begin}
use Rattle.model.specs.Table.{byte_of, row_of, source_of, decode, table_under, table_of, sources_of}
use Rattle.model.specs.Header.{rows_end, size_of, row_bytes, dependency_bytes}
use Rattle.model.specs.Refusal.{shape_or}
use Rattle.model.specs.Refusal.{version_fits, limits_fit, length_fits, agents_known, dependencies_few, names_missing, dependencies_named, hosts_fault}
use Rattle.model.specs.Refusal.{header_fault, row_fault_at}
use Rattle.model.specs.TableFault.{source_broken, table_fault}
use Rattle.model.specs.RowFault.{kind_fits, form_fault, row_fault}
use Rattle.model.specs.Fill.{blank}
use Rattle.model.specs.Words.{blank_at, source_begin, Filling}
use Rattle.model_laws.specs.AdmissionLaws.{Sound, length_is, rows_fit, among_right, access_no_operation}
use Rattle.model_laws.specs.HeadLaws.{begin_header, rows_same, begin_same}
use Rattle.model_laws.specs.FillingLaws.{head_kept, version_kept, hosts_kept, agents_kept, rows_kept, begin_kept, places_kept, row_kept}
use Rattle.model_laws.specs.FillingLaws.{end_kept, rows_end_kept, count_kept, from_kept, to_kept, source_kept, table_kept, bytes_at, bytes_past}
use Rattle.model_laws.specs.FillingLaws.{pair_is}

-- ---- definitions

-- each number of the list is a byte, as those of a lent `&[u8]` are
abbrev pub Bytes : List ℕ → Type 0
Bytes s = (k : ℕ) → get_or s k 0 < 256

-- byte j of row i, filled from the sources
unfoldable pub row_byte : List ℕ → (ℕ → ℕ) → ℕ → ℕ → ℕ → ℕ
row_byte s source i j old = cond (ltb i (rows_at s) and blank_at s i) (cond (eqb j 12) (source i / 256) (cond (eqb j 13) (source i % 256) old)) old

-- byte k of the table, filled from the sources
unfoldable pub filled_byte : List ℕ → (ℕ → ℕ) → ℕ → ℕ
filled_byte s source k =
    let b = rows_begin s in cond (ltb k b) (get_or s k 0) (row_byte s source ((k - b) / ROW_BYTES) ((k - b) % ROW_BYTES) (get_or s k 0))

unfoldable pub filled_bytes : List ℕ → (ℕ → ℕ) → List ℕ
filled_bytes s source = tabulate (filled_byte s source) (length s)

-- ---- ranks are numbers of 16 bits

pub rank_small : (s : List ℕ) → Bytes s → (i : ℕ) → (row_of (row_bytes s) i).rank < 65536
unfolding row_of
rank_small s bytes i =
    let a : byte_of (row_bytes s) i 14 < 256 = small 14 (omega arith) in
    let b : byte_of (row_bytes s) i 15 < 256 = small 15 (omega arith) in
    subst (λ (z : ℕ). z < 65536) (sym (pair_is (row_bytes s) i 14)) (omega arith)
  where
    small : (k : ℕ) → k < ROW_BYTES → byte_of (row_bytes s) i k < 256
    small k h = go (dec_lt i (rows_at s))
      where
        go : Dec (i < rows_at s) → byte_of (row_bytes s) i k < 256
        go (yes l) = subst (λ (z : ℕ). z < 256) (sym (bytes_at s s i k refl refl l h)) (bytes _)
        go (no l) = let e = bytes_past s i k (omega arith) in omega arith

-- ---- two fillings with the same sources are one

-- byte k after the first b bytes is byte (k - b) % ROW_BYTES of row (k - b) / ROW_BYTES
spot : (b k : ℕ) → b ≤ k → k ≡ b + ((k - b) / ROW_BYTES * ROW_BYTES + (k - b) % ROW_BYTES)
spot b k l = omega arith

-- a pair of bytes is known by its number
halves : (a b c d : ℕ) → b < 256 → d < 256 → a * 256 + b ≡ c * 256 + d → (a ≡ c) × (b ≡ d)
halves a b c d l m e = (omega arith, omega arith)

module _ {s f g : List ℕ} (ff : Filling s f) (fg : Filling s g) (same : (i : ℕ) → i < rows_at s → sources_of f i ≡ sources_of g i) where
  source_bytes : (i : ℕ) → i < rows_at s → (byte_of (row_bytes f) i 12 ≡ byte_of (row_bytes g) i 12) × (byte_of (row_bytes f) i 13 ≡ byte_of (row_bytes g) i 13)
  unfolding sources_of source_of
  source_bytes i l =
      halves _ _ _ _
      (subst (λ (z : ℕ). z < 256) (sym (bytes_at s f i 13 (begin_kept ff) (rows_kept ff) l (omega arith))) (ff.bytes _))
      (subst (λ (z : ℕ). z < 256) (sym (bytes_at s g i 13 (begin_kept fg) (rows_kept fg) l (omega arith))) (fg.bytes _))
      (sym (pair_is (row_bytes f) i 12) ∙ same i l ∙ pair_is (row_bytes g) i 12)

  byte_same : (i j : ℕ) → i < rows_at s → (j ≡ 12) ⊎ (j ≡ 13)
      → get_or f (rows_begin s + (i * ROW_BYTES + j)) 0 ≡ get_or g (rows_begin s + (i * ROW_BYTES + j)) 0
  byte_same i j l (inl e) = rw e (sym (bytes_at s f i 12 (begin_kept ff) (rows_kept ff) l (omega arith)) ∙ (source_bytes i l).0
      ∙ bytes_at s g i 12 (begin_kept fg) (rows_kept fg) l (omega arith))
  byte_same i j l (inr e) = rw e (sym (bytes_at s f i 13 (begin_kept ff) (rows_kept ff) l (omega arith)) ∙ (source_bytes i l).1
      ∙ bytes_at s g i 13 (begin_kept fg) (rows_kept fg) l (omega arith))

  -- a byte of no blank's source
  other_same : (k : ℕ) → ((i : ℕ) → i < rows_at s → blank_at s i ≡ true → (k ≡ source_begin s i) ⊎ (k ≡ source_begin s i + 1) → ⊥) → get_or f k 0 ≡ get_or g k 0
  other_same k h = ff.kept k h ∙ sym (fg.kept k h)

  pub fillings_same : f ≡ g
  unfolding source_begin
  fillings_same = ext_get_or 0 f g (ff.size ∙ sym fg.size) (λ k l. at k (dec_lt k b))
    where
      b : ℕ
      b = rows_begin s

      row : ℕ → ℕ
      row k = (k - b) / ROW_BYTES

      col : ℕ → ℕ
      col k = (k - b) % ROW_BYTES

      inner : (k : ℕ) → b ≤ k → (row k < rows_at s → blank_at s (row k) ≡ true → (col k ≡ 12) ⊎ (col k ≡ 13) → ⊥) → get_or f k 0 ≡ get_or g k 0
      inner k l n =
          other_same k
          (λ i m h. ⊎_elim (λ e. n (r i e m) (subst (λ (z : ℕ). blank_at s z ≡ true) (q i e) h) (inl (omega arith)))
          (λ e. n (r' i e m) (subst (λ (z : ℕ). blank_at s z ≡ true) (q' i e) h) (inr (omega arith))))
        where
          q : (i : ℕ) → k ≡ b + (i * ROW_BYTES + 12) → i ≡ row k
          q i e = omega arith

          r : (i : ℕ) → k ≡ b + (i * ROW_BYTES + 12) → i < rows_at s → row k < rows_at s
          r i e m = omega arith

          q' : (i : ℕ) → k ≡ b + (i * ROW_BYTES + 12) + 1 → i ≡ row k
          q' i e = omega arith

          r' : (i : ℕ) → k ≡ b + (i * ROW_BYTES + 12) + 1 → i < rows_at s → row k < rows_at s
          r' i e m = omega arith

      hit : (k : ℕ) → b ≤ k → row k < rows_at s → (col k ≡ 12) ⊎ (col k ≡ 13) → get_or f k 0 ≡ get_or g k 0
      hit k l m c = subst (λ (z : ℕ). get_or f z 0 ≡ get_or g z 0) (sym (spot b k l)) (byte_same (row k) (col k) m c)

      which_col : (k : ℕ) → b ≤ k → row k < rows_at s → Dec (col k ≡ 12) → Dec (col k ≡ 13) → get_or f k 0 ≡ get_or g k 0
      which_col k l m (yes e) d = hit k l m (inl e)
      which_col k l m (no e) (yes h) = hit k l m (inr h)
      which_col k l m (no e) (no h) = inner k l (λ p q c. ⊎_elim e h c)

      at_row : (k : ℕ) → b ≤ k → Dec (row k < rows_at s) → get_or f k 0 ≡ get_or g k 0
      at_row k l (yes m) = which_col k l m (ℕ_discrete (col k) 12) (ℕ_discrete (col k) 13)
      at_row k l (no m) = inner k l (λ p q c. m p)

      at : (k : ℕ) → Dec (k < b) → get_or f k 0 ≡ get_or g k 0
      at k (yes l) = head_kept ff k l ∙ sym (head_kept fg k l)
      at k (no l) = at_row k (omega arith) (dec_lt (row k) (rows_at s))

-- ---- well formed, exactly when the sources are

-- a row that reads may have any source that refusal 9 takes: kind fit does not look at it
kind_any : (r : Row) (a b : ℕ) → reads r ≡ true → kind_fits r a ≡ kind_fits r b
unfolding kind_fits ◌or◌
kind_any r a b e = rw e refl

reads_accesses : (r : Row) → reads r ≡ true → access r ≡ true
unfolding reads access
reads_accesses r e =
    ⊎_elim (λ f. ⊎_elim (λ g. let k = eqb-true r.kind PLAIN_READ g in le-leb r.kind RMW (omega arith)) (λ g.
    let k = eqb-true r.kind ATOMIC_READ g in
    le-leb r.kind RMW (omega arith)) (or_cases (eqb r.kind PLAIN_READ) (eqb r.kind ATOMIC_READ) f))
    (λ f. let k = eqb-true r.kind RMW f in le-leb r.kind RMW (omega arith))
    (or_cases (eqb r.kind PLAIN_READ or eqb r.kind ATOMIC_READ) (eqb r.kind RMW) e)

form_any : (r : Row) (a b : ℕ) → reads r ≡ true → form_fault r a ≡ form_fault r b
unfolding form_fault
form_any r a b e = rw (not_so (operation r) (access_no_operation r (reads_accesses r e)), kind_any r a b e) refl

fault_any : (hosts : Bool) (p : List (List ℕ)) (n : ℕ) (r : Row) (a b : ℕ) → reads r ≡ true → row_fault hosts p n r a ≡ row_fault hosts p n r b
unfolding row_fault
fault_any hosts p n r a b e = rw (form_any r a b e) refl

blank_reads : (s : List ℕ) (i : ℕ) → blank_at s i ≡ true → reads (row_of (row_bytes s) i) ≡ true
unfolding blank_at blank table_of table_under decode plain_read reads
blank_reads s i e = or_left _ (or_left _ (split e).0)

module _ {s f : List ℕ} (fl : Filling s f) where
  pair_head : (k : ℕ) → k + 1 < HEADER → pair_at f k ≡ pair_at s k
  unfolding pair_at
  pair_head k l = let b = begin_header s in rw (head_kept fl k (omega arith), head_kept fl (k + 1) (omega arith)) refl

  -- 2, 3, 4
  version_fits_kept : version_fits f ≡ version_fits s
  unfolding version_fits zero_at
  version_fits_kept = let b = begin_header s in rw (version_kept fl, head_kept fl 7 (omega arith)) refl

  limits_kept : limits_fit f ≡ limits_fit s
  unfolding limits_fit
  limits_kept = rw (agents_kept fl, rows_kept fl) refl

  end_pair_kept : pair_at f (rows_end s) ≡ pair_at s (rows_end s)
  unfolding pair_at
  end_pair_kept = rw (end_kept fl (rows_end s) (omega arith), end_kept fl (rows_end s + 1) (omega arith)) refl

  size_kept : size_of f ≡ size_of s
  unfolding size_of
  size_kept = rw (hosts_kept fl, rows_end_kept fl, end_pair_kept) refl

  count_at_kept : count_at f ≡ count_at s
  unfolding count_at quad_at
  count_at_kept = rw (pair_head 0 (omega arith), pair_head 2 (omega arith)) refl

  length_kept : length_fits f ≡ length_fits s
  unfolding length_fits
  length_kept = rw (count_at_kept, fl.size, size_kept) refl

  -- 16, 17, 18
  known_kept : agents_known f ≡ agents_known s
  unfolding agents_known
  known_kept = rw (agents_kept fl, places_kept fl) refl

  few_kept : dependencies_few f ≡ dependencies_few s
  unfolding dependencies_few
  few_kept = rw (count_kept fl) refl

  none_kept : (k : ℕ) → names_missing (dependency_bytes f) (rows_at f) k ≡ names_missing (dependency_bytes s) (rows_at s) k
  unfolding names_missing
  none_kept k = rw (rows_kept fl, from_kept fl k, to_kept fl k) refl

  named_kept : dependencies_named f ≡ dependencies_named s
  unfolding dependencies_named
  named_kept = rw (count_kept fl) (ap not (any_cong (names_missing (dependency_bytes f) (rows_at f)) (names_missing (dependency_bytes s) (rows_at s)) _
      (λ k l. none_kept k)))

  hosts_fault_kept : hosts_fault f ≡ hosts_fault s
  unfolding hosts_fault
  hosts_fault_kept = rw (known_kept, few_kept, named_kept) refl

  header_kept : header_fault f ≡ header_fault s
  unfolding header_fault shape_or
  header_kept = rw (fl.size, version_fits_kept, limits_kept, length_kept, hosts_fault_kept) refl

  row_fault_kept : (i : ℕ) → row_fault_at f i ≡ row_fault_at s i
  unfolding row_fault_at sources_of
  row_fault_kept i =
      rw (hosts_kept fl, places_kept fl, agents_kept fl, row_kept fl i)
      (⊎_elim (λ e. fault_any (has_hosts s) (places_of s) (agents_at s) (row_of (row_bytes s) i) (source_of (row_bytes f) i)
      (source_of (row_bytes s) i) (blank_reads s i e)) (λ n. rw (source_kept fl i n) refl) (which (blank_at s i)))

  -- the sources of a filling are those that a check admits
  abbrev pub Admits : Type 0
  Admits = (i : ℕ) → i < rows_at s → source_broken false (table_of s) (sources_of f) i ≡ false

  pub filling_sound : Sound true s → Admits → Sound false f
  unfolding table_fault
  filling_sound h a =
      record {
        header = header_kept ∙ h.header;
        row = λ i l. row_fault_kept i ∙ h.row i (below l);
        among = λ i l. rw (table_kept fl) (let c = among_right h i (below l) in rw (c.class, a i (below l), c.rank, c.instance, c.run) refl);
      }
    where
      below : {i : ℕ} → i < rows_at f → i < rows_at s
      below {i} l = subst (λ (n : ℕ). i < n) (rows_kept fl) l

  pub sound_filling : Sound false f → Admits
  sound_filling h i l =
      subst (λ (t : Table). source_broken false t (sources_of f) i ≡ false) (table_kept fl)
      (among_right h i (subst (λ (n : ℕ). i < n) (sym (rows_kept fl)) l)).source

-- ---- the filled bytes are a filling

module _ (s : List ℕ) (bytes : Bytes s) (h : Sound true s) (source : ℕ → ℕ)
    (named : (i : ℕ) → i < rows_at s → blank_at s i ≡ true → (source i ≡ INITIAL) ⊎ (source i < rows_at s)) where
  abbrev begin : ℕ
  begin = rows_begin s

  abbrev f : List ℕ
  f = filled_bytes s source

  size : length f ≡ length s
  unfolding filled_bytes
  size = length_tabulate (filled_byte s source) (length s)

  long : begin + ROW_BYTES * rows_at s ≤ length s
  unfolding size_of rows_end
  long = let e = length_is h in ⊎_elim (at_hosts e) (at_plain e) (which (has_hosts s))
    where
      n : ℕ
      n = begin + ROW_BYTES * rows_at s

      at_hosts : length s ≡ cond (has_hosts s) (n + 2 + 4 * pair_at s n) n → has_hosts s ≡ true → n ≤ length s
      at_hosts e b = let g : length s ≡ n + 2 + 4 * pair_at s n = rw b at e in omega arith

      at_plain : length s ≡ cond (has_hosts s) (n + 2 + 4 * pair_at s n) n → has_hosts s ≡ false → n ≤ length s
      at_plain e b = let g : length s ≡ n = rw b at e in omega arith

  inside_at : (k : ℕ) → k < length s → get_or f k 0 ≡ filled_byte s source k
  unfolding filled_bytes
  inside_at k l = get_d_tabulate (filled_byte s source) (length s) k 0 l

  -- a byte before the rows
  head_at : (k : ℕ) → k < begin → get_or f k 0 ≡ get_or s k 0
  unfolding filled_byte
  head_at k l = let e = long in inside_at k (omega arith) ∙ simp (lt-ltb k begin l)

  -- a byte of a row
  row_at : (i j : ℕ) → i < rows_at s → j < ROW_BYTES → get_or f (begin + (i * ROW_BYTES + j)) 0 ≡ row_byte s source i j (get_or s (begin + (i * ROW_BYTES + j)) 0)
  unfolding filled_byte
  row_at i j l m =
      let e = long in
      let q : (begin + (i * ROW_BYTES + j) - begin) / ROW_BYTES ≡ i = omega arith in
      let r : (begin + (i * ROW_BYTES + j) - begin) % ROW_BYTES ≡ j = omega arith in
      inside_at (begin + (i * ROW_BYTES + j)) (omega arith) ∙ rw (le-ltb (begin + (i * ROW_BYTES + j)) begin (omega arith), q, r) refl

  -- what a byte of a row becomes
  byte_12 : (i : ℕ) → i < rows_at s → blank_at s i ≡ true → (old : ℕ) → row_byte s source i 12 old ≡ source i / 256
  unfolding row_byte
  byte_12 i l b old = rw (and_true (lt-ltb i (rows_at s) l) b) refl

  byte_13 : (i : ℕ) → i < rows_at s → blank_at s i ≡ true → (old : ℕ) → row_byte s source i 13 old ≡ source i % 256
  unfolding row_byte
  byte_13 i l b old = rw (and_true (lt-ltb i (rows_at s) l) b) refl

  byte_other : (i j : ℕ) → (i < rows_at s → blank_at s i ≡ true → (j ≡ 12) ⊎ (j ≡ 13) → ⊥) → (old : ℕ) → row_byte s source i j old ≡ old
  unfolding row_byte
  byte_other i j n old = ⊎_elim (λ e. at (ltb-true i (rows_at s) (split e).0) (split e).1) (λ e. rw e refl) (which (ltb i (rows_at s) and blank_at s i))
    where
      at : i < rows_at s → blank_at s i ≡ true
          → cond (ltb i (rows_at s) and blank_at s i) (cond (eqb j 12) (source i / 256) (cond (eqb j 13) (source i % 256) old)) old ≡ old
      at l b = inner (ltb i (rows_at s) and blank_at s i) (rw (ne_eqb j 12 (λ e. n l b (inl e)), ne_eqb j 13 (λ e. n l b (inr e))) refl)
        where
          inner : (c : Bool) {x : ℕ} → x ≡ old → cond c x old ≡ old
          inner true e = e
          inner false e = refl

  small : (i : ℕ) → i < rows_at s → blank_at s i ≡ true → source i < 65536
  small i l b = let r = rows_fit h in ⊎_elim (λ e. omega arith) (λ m. omega arith) (named i l b)

  -- a byte of a row or after the rows, whichever it is
  row_byte_lem : (i j old : ℕ) → old < 256 → row_byte s source i j old < 256
  row_byte_lem i j old m = go (dec_lt i (rows_at s)) (which (blank_at s i)) (ℕ_discrete j 12) (ℕ_discrete j 13)
    where
      go : Dec (i < rows_at s) → (blank_at s i ≡ true) ⊎ (blank_at s i ≡ false) → Dec (j ≡ 12) → Dec (j ≡ 13) → row_byte s source i j old < 256
      go (no o) b d e = rw (byte_other i j (λ l b c. o l) old) m
      go (yes l) (inr n) d e = rw (byte_other i j (λ l b c. not_both b n) old) m
      go (yes l) (inl b) (yes e) d = let q = small i l b in rw (e, byte_12 i l b old) (omega arith)
      go (yes l) (inl b) (no n) (yes e) = rw (e, byte_13 i l b old) (omega arith)
      go (yes l) (inl b) (no n) (no k) = rw (byte_other i j (λ l c d. ⊎_elim n k d) old) m

  -- a byte by its place
  past_at : (k : ℕ) → length s ≤ k → get_or f k 0 ≡ get_or s k 0
  past_at k l = get_or-eq_default f 0 (subst (λ (n : ℕ). n ≤ k) (sym size) l) ∙ sym (get_or-eq_default s 0 l)

  place_at_lem : (k : ℕ) → begin ≤ k → k < length s
      → get_or f k 0 ≡ row_byte s source ((k - begin) / ROW_BYTES) ((k - begin) % ROW_BYTES) (get_or s k 0)
  unfolding filled_byte
  place_at_lem k l m = inside_at k m ∙ simp (le-ltb k begin l)

  byte_fits : (k : ℕ) → get_or f k 0 < 256
  byte_fits k = go (dec_lt k begin) (dec_lt k (length s))
    where
      go : Dec (k < begin) → Dec (k < length s) → get_or f k 0 < 256
      go (yes l) d = rw (head_at k l) (bytes k)
      go (no l) (yes m) = rw (place_at_lem k (omega arith) m) (row_byte_lem _ _ _ (bytes k))
      go (no l) (no m) = rw (past_at k (omega arith)) (bytes k)

  byte_kept : (k : ℕ) → ((i : ℕ) → i < rows_at s → blank_at s i ≡ true → (k ≡ source_begin s i) ⊎ (k ≡ source_begin s i + 1) → ⊥) → get_or f k 0 ≡ get_or s k 0
  unfolding source_begin
  byte_kept k n = go (dec_lt k begin) (dec_lt k (length s))
    where
      go : Dec (k < begin) → Dec (k < length s) → get_or f k 0 ≡ get_or s k 0
      go (yes l) d = head_at k l
      go (no l) (yes m) =
          place_at_lem k (omega arith) m
          ∙ byte_other ((k - begin) / ROW_BYTES) ((k - begin) % ROW_BYTES)
          (λ r b c. n ((k - begin) / ROW_BYTES) r b (⊎_elim (λ e. inl (omega arith)) (λ e. inr (omega arith)) c)) (get_or s k 0)
      go (no l) (no m) = past_at k (omega arith)

  filled_begin : rows_begin f ≡ rows_begin s
  filled_begin = begin_same s f head_at

  filled_rows : rows_at f ≡ rows_at s
  filled_rows = rows_same s f head_at

  -- a blank gets its source
  pub filled_source : (i : ℕ) → i < rows_at s → blank_at s i ≡ true → sources_of f i ≡ source i
  unfolding sources_of source_of
  filled_source i l b =
      pair_is (row_bytes f) i 12
      ∙ ap₂ (λ (x y : ℕ). x * 256 + y) (bytes_at s f i 12 filled_begin filled_rows l (omega arith) ∙ row_at i 12 l (omega arith)
      ∙ byte_12 i l b _) (bytes_at s f i 13 filled_begin filled_rows l (omega arith) ∙ row_at i 13 l (omega arith) ∙ byte_13 i l b _)
      ∙ omega arith

  pub filled_filling : Filling s f
  filled_filling =
      record {
        size = size;
        bytes = byte_fits;
        named = λ i l b. ⊎_elim (λ e. inl (filled_source i l b ∙ e)) (λ m. inr (subst (λ (n : ℕ). n < rows_at s) (sym (filled_source i l b)) m)) (named i l b);
        kept = byte_kept;
      }
