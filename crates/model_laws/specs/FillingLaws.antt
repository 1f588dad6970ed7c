-- A filling changes no order and no race: what the rules of order read of the filled bytes is what they read of the table with its
-- blanks. Assumes nothing.
use Rattle.std.specs.Prelude.{◌≡◌, Bool, List, ◌⊎◌, ℕ, ◌+◌, ◌*◌, ◌≤◌, ◌<◌, get_or, take, drop, leb}
use Rattle.std.proofs.Math.Path.{refl, sym, ap₂, fun_ext}
use Rattle.std.proofs.Common.{◌∙◌, inl, inr, arith, length-take, get_or-drop, get_or-take, eqb-true, leb-true}
use Rattle.std.proofs.Math.Bool.{true, false, cond}
use Rattle.std.proofs.Math.Logic.{⊎_elim}
use Rattle.std.proofs.Math.Decide.{dec_lt}
use Rattle.std.proofs.Math.ListN.{get_or-eq_default}
use Rattle.std.proofs.Math.Dec.{eqb}
use Rattle.finite.specs.Logic.{◌and◌, split, which, not_both}
use Rattle.finite.specs.Lists.{tabulate_cong}
use Rattle.model.specs.declared.Row.{Row}
use Rattle.model.specs.Limits.{DEPENDENCIES, INITIAL, BLANK}
use Rattle.model.specs.Row.{PLAIN_READ, ATOMIC_READ, atomic, plain_read}
use Rattle.model.specs.Header.{DEPENDENCY_BYTES, ROW_BYTES, pair_at, version_at, agents_at, rows_at}
use Rattle.model.specs.Table.{byte_of, pair_of}
use Rattle.model.specs.Header.{has_hosts, places_of, rows_begin, rows_end, row_bytes, dependency_bytes}
use Rattle.model.specs.Table.{row_of, source_of, atomic_source, dependency_count, dependency_end, dependency_from, dependency_to, depends_of, decode}
use Rattle.model.specs.Table.{table_under, table_of, sources_of, mode_of}
use Rattle.model.specs.Header.{VERSION_COUNTED}
use Rattle.model.specs.Fill.{blank}
use Rattle.model.specs.Words.{blank_at, source_begin, Filling}
use Rattle.model_laws.specs.HeadLaws.{version_same, hosts_same, agents_same, rows_same, begin_same, places_same, counted_same}

-- an atomic row has no blank
atomic_not_blank : (r : Row) → atomic r ≡ true → plain_read r ≡ true → ⊥
unfolding atomic plain_read
atomic_not_blank r a p =
    let k : r.kind ≡ PLAIN_READ = eqb-true r.kind PLAIN_READ p in
    let l : ATOMIC_READ ≤ r.kind = leb-true ATOMIC_READ r.kind (split a).0 in
    omega arith

-- byte k of row i, in the bytes of the table; past the rows there is none
pub bytes_past : (g : List ℕ) (i k : ℕ) → rows_at g ≤ i → byte_of (row_bytes g) i k ≡ 0
unfolding byte_of row_bytes
bytes_past g i k l =
    let n = length-take (ROW_BYTES * rows_at g) (drop (rows_begin g) g) in
    get_or-eq_default (take (ROW_BYTES * rows_at g) (drop (rows_begin g) g)) 0 (omega arith)

pub bytes_at : (s g : List ℕ) (i k : ℕ) → rows_begin g ≡ rows_begin s → rows_at g ≡ rows_at s → i < rows_at s → k < ROW_BYTES
    → byte_of (row_bytes g) i k ≡ get_or g (rows_begin s + (i * ROW_BYTES + k)) 0
unfolding byte_of row_bytes
bytes_at s g i k e r l m =
    rw (e, r)
    (get_or-take (ROW_BYTES * rows_at s) (drop (rows_begin s) g) (i * ROW_BYTES + k) 0 (omega arith)
    ∙ get_or-drop (rows_begin s) g (i * ROW_BYTES + k) 0)

-- where each row's byte k stays, it stays past the rows too
pub bytes_kept : (s g : List ℕ) (i k : ℕ) → rows_begin g ≡ rows_begin s → rows_at g ≡ rows_at s → k < ROW_BYTES
    → get_or g (rows_begin s + (i * ROW_BYTES + k)) 0 ≡ get_or s (rows_begin s + (i * ROW_BYTES + k)) 0 → byte_of (row_bytes g) i k ≡ byte_of (row_bytes s) i k
bytes_kept s g i k e r m q = go (dec_lt i (rows_at s))
  where
    go : Dec (i < rows_at s) → byte_of (row_bytes g) i k ≡ byte_of (row_bytes s) i k
    go (yes l) = bytes_at s g i k e r l m ∙ q ∙ sym (bytes_at s s i k refl refl l m)
    go (no l) = bytes_past g i k (omega arith) ∙ sym (bytes_past s i k (omega arith))

-- a pair is its two bytes
pub pair_is : (b : List ℕ) (i k : ℕ) → pair_of b i k ≡ byte_of b i k * 256 + byte_of b i (k + 1)
unfolding pair_of pair_at byte_of
pair_is b i k = let e : i * ROW_BYTES + k + 1 ≡ i * ROW_BYTES + (k + 1) = omega arith in rw e refl

module _ {s f : List ℕ} (fl : Filling s f) where
  -- ---- bytes

  -- a byte before the rows
  pub head_kept : (k : ℕ) → k < rows_begin s → get_or f k 0 ≡ get_or s k 0
  unfolding source_begin
  head_kept k h = fl.kept k (λ i l b. ⊎_elim (λ e. omega arith) (λ e. omega arith))

  -- a byte of row i, other than those of its source
  field_kept : (i k : ℕ) → k < ROW_BYTES → (k < 12) ⊎ (13 < k) → get_or f (rows_begin s + (i * ROW_BYTES + k)) 0 ≡ get_or s (rows_begin s + (i * ROW_BYTES + k)) 0
  unfolding source_begin
  field_kept i k h o =
      fl.kept _ (λ j l b. ⊎_elim (λ e. ⊎_elim (λ p. omega arith) (λ p. omega arith) o) (λ e. ⊎_elim (λ p. omega arith) (λ p. omega arith) o))

  -- each byte of a row without a blank
  pub whole_kept : (i k : ℕ) → k < ROW_BYTES → blank_at s i ≡ false → get_or f (rows_begin s + (i * ROW_BYTES + k)) 0 ≡ get_or s (rows_begin s + (i * ROW_BYTES + k)) 0
  unfolding source_begin
  whole_kept i k h n = fl.kept _ (λ j l b. ⊎_elim (λ e. other j b (omega arith)) (λ e. other j b (omega arith)))
    where
      other : (j : ℕ) → blank_at s j ≡ true → j ≡ i → ⊥
      other j b e = not_both (rw e at b) n

  -- ---- the header and the places

  pub version_kept : version_at f ≡ version_at s
  version_kept = version_same s f head_kept

  pub hosts_kept : has_hosts f ≡ has_hosts s
  hosts_kept = hosts_same s f head_kept

  pub agents_kept : agents_at f ≡ agents_at s
  agents_kept = agents_same s f head_kept

  pub rows_kept : rows_at f ≡ rows_at s
  rows_kept = rows_same s f head_kept

  pub begin_kept : rows_begin f ≡ rows_begin s
  begin_kept = begin_same s f head_kept

  pub places_kept : places_of f ≡ places_of s
  places_kept = places_same s f head_kept

  counted_kept : leb VERSION_COUNTED (version_at f) ≡ leb VERSION_COUNTED (version_at s)
  counted_kept = counted_same s f head_kept

  -- ---- the rows

  byte_kept : (i k : ℕ) → k < ROW_BYTES → (k < 12) ⊎ (13 < k) → byte_of (row_bytes f) i k ≡ byte_of (row_bytes s) i k
  byte_kept i k h o = bytes_kept s f i k begin_kept rows_kept h (field_kept i k h o)

  byte_whole : (i k : ℕ) → k < ROW_BYTES → blank_at s i ≡ false → byte_of (row_bytes f) i k ≡ byte_of (row_bytes s) i k
  byte_whole i k h n = bytes_kept s f i k begin_kept rows_kept h (whole_kept i k h n)

  pair_kept : (i k : ℕ) → k + 1 < ROW_BYTES → (k + 1 < 12) ⊎ (13 < k) → pair_of (row_bytes f) i k ≡ pair_of (row_bytes s) i k
  pair_kept i k h o =
      pair_is (row_bytes f) i k
      ∙ ap₂ (λ (x y : ℕ). x * 256 + y) (byte_kept i k (omega arith) (⊎_elim (λ p. inl (omega arith)) (λ p. inr p) o))
      (byte_kept i (k + 1) h (⊎_elim (λ p. inl p) (λ p. inr (omega arith)) o))
      ∙ sym (pair_is (row_bytes s) i k)

  pub row_kept : (i : ℕ) → row_of (row_bytes f) i ≡ row_of (row_bytes s) i
  unfolding row_of
  row_kept i =
      λ d.
      record {
        kind = one 0 (omega arith) d;
        agent = one 1 (omega arith) d;
        order = one 2 (omega arith) d;
        scope = one 3 (omega arith) d;
        classes = one 4 (omega arith) d;
        flags = one 5 (omega arith) d;
        class = one 6 (omega arith) d;
        size = one 7 (omega arith) d;
        start = pair_kept i 8 (omega arith) (inl (omega arith)) d;
        reference = pair_kept i 10 (omega arith) (inl (omega arith)) d;
        rank = pair_kept i 14 (omega arith) (inr (omega arith)) d;
      }
    where
      one : (k : ℕ) → k < 12 → byte_of (row_bytes f) i k ≡ byte_of (row_bytes s) i k
      one k h = byte_kept i k (omega arith) (inl h)

  -- the source of a row without a blank
  pub source_kept : (i : ℕ) → blank_at s i ≡ false → sources_of f i ≡ sources_of s i
  unfolding sources_of source_of
  source_kept i n =
      pair_is (row_bytes f) i 12 ∙ ap₂ (λ (x y : ℕ). x * 256 + y) (byte_whole i 12 (omega arith) n) (byte_whole i 13 (omega arith) n)
      ∙ sym (pair_is (row_bytes s) i 12)

  atomic_no_blank : (i : ℕ) → atomic (row_of (row_bytes s) i) ≡ true → blank_at s i ≡ false
  unfolding blank_at blank table_of table_under decode
  atomic_no_blank i a =
      ⊎_elim (λ t. absurd (atomic_not_blank (row_of (row_bytes s) i) a (split t).0)) (λ n. n)
      (which (plain_read (row_of (row_bytes s) i) and eqb (sources_of s i) BLANK))

  atomic_kept : (i : ℕ) → atomic_source (row_bytes f) i ≡ atomic_source (row_bytes s) i
  unfolding atomic_source sources_of
  atomic_kept i = rw (row_kept i) (⊎_elim at (λ n. rw n refl) (which (atomic (row_of (row_bytes s) i))))
    where
      at : atomic (row_of (row_bytes s) i) ≡ true
          → cond (atomic (row_of (row_bytes s) i)) (source_of (row_bytes f) i) INITIAL ≡ cond (atomic (row_of (row_bytes s) i)) (source_of (row_bytes s) i) INITIAL
      at a = rw a (source_kept i (atomic_no_blank i a))

  -- ---- the dependencies

  -- a byte after the rows
  pub end_kept : (k : ℕ) → rows_end s ≤ k → get_or f k 0 ≡ get_or s k 0
  unfolding source_begin rows_end
  end_kept k h = fl.kept k (λ i l b. ⊎_elim (λ e. omega arith) (λ e. omega arith))

  pub rows_end_kept : rows_end f ≡ rows_end s
  unfolding rows_end
  rows_end_kept = rw (begin_kept, rows_kept) refl

  after_kept : (k : ℕ) → get_or (dependency_bytes f) k 0 ≡ get_or (dependency_bytes s) k 0
  unfolding dependency_bytes
  after_kept k = rw rows_end_kept (get_or-drop (rows_end s) f k 0 ∙ end_kept (rows_end s + k) (omega arith) ∙ sym (get_or-drop (rows_end s) s k 0))

  pair_after : (k : ℕ) → pair_at (dependency_bytes f) k ≡ pair_at (dependency_bytes s) k
  unfolding pair_at
  pair_after k = rw (after_kept k, after_kept (k + 1)) refl

  pub count_kept : dependency_count (dependency_bytes f) ≡ dependency_count (dependency_bytes s)
  unfolding dependency_count
  count_kept = pair_after 0

  pub from_kept : (k : ℕ) → dependency_from (dependency_bytes f) k ≡ dependency_from (dependency_bytes s) k
  unfolding dependency_from dependency_end
  from_kept k = pair_after (2 + k * DEPENDENCY_BYTES)

  pub to_kept : (k : ℕ) → dependency_to (dependency_bytes f) k ≡ dependency_to (dependency_bytes s) k
  unfolding dependency_to dependency_end
  to_kept k = pair_after (4 + k * DEPENDENCY_BYTES)

  mode_kept : (chains : Bool) → mode_of chains f ≡ mode_of chains s
  unfolding mode_of
  mode_kept chains =
      λ d.
      record {
        counted = counted_kept d;
        chains = chains;
        dependencies = count_kept d;
        first = tabulate_cong (dependency_from (dependency_bytes f)) (dependency_from (dependency_bytes s)) DEPENDENCIES (λ k l. from_kept k) d;
        second = tabulate_cong (dependency_to (dependency_bytes f)) (dependency_to (dependency_bytes s)) DEPENDENCIES (λ k l. to_kept k) d;
      }

  -- ---- what the rules of order read

  -- a filling changes nothing that the rules of order read
  pub under_kept : (chains : Bool) → table_under chains f ≡ table_under chains s
  unfolding table_under decode
  under_kept chains =
      λ d.
      record {
        rows = rows_kept d;
        places = places_kept d;
        counted = (mode_kept chains d).counted;
        chains = (mode_kept chains d).chains;
        row = fun_ext {f = row_of (row_bytes f)} {g = row_of (row_bytes s)} row_kept d;
        source = fun_ext {f = atomic_source (row_bytes f)} {g = atomic_source (row_bytes s)} atomic_kept d;
        depends = depends_of (mode_kept chains d);
      }

  pub table_kept : table_of f ≡ table_of s
  unfolding table_of
  table_kept = under_kept false
