-- A table whose bytes are moved is alike: the only page of the proof that knows where a byte stands. Assumes nothing.
use Rattle.std.specs.Prelude.{◌≡◌, Bool, List, ◌⊎◌, ℕ, ◌+◌, ◌*◌, ◌≤◌, ◌<◌, get_or, leb}
use Rattle.std.proofs.Math.Path.{refl, sym}
use Rattle.std.proofs.Common.{ap₂, ◌∙◌, inl, inr, ⊎_elim, arith}
use Rattle.std.proofs.Math.Bool.{true, false, cond}
use Rattle.std.proofs.Math.Decide.{dec_lt}
use Rattle.finite.specs.Logic.{◌and◌}
use Rattle.finite.specs.Below.{any_cong}
use Rattle.finite.specs.Lists.{tabulate, get_d_tabulate}
use Rattle.model.specs.Limits.{DEPENDENCIES, INITIAL, ROWS}
use Rattle.model.specs.Row.{atomic}
use Rattle.model.specs.Header.{ROW_BYTES, VERSION_COUNTED, version_at, rows_at}
use Rattle.model.specs.Table.{mode_of, byte_of, pair_of, row_of, source_of}
use Rattle.model.specs.Header.{places_of, rows_begin, row_bytes, dependency_bytes}
use Rattle.model.specs.Table.{atomic_source, dependency_count, dependency_from, dependency_to, dependency, depends_of, decode, table_under, sources_of}
use Rattle.model_laws.specs.AdmissionLaws.{Sound, dependencies_fit_lem, rows_fit}
use Rattle.model_laws.specs.HeadLaws as header
use Rattle.model_laws.specs.FillingLaws.{bytes_at, bytes_past, pair_is}
use Rattle.model_page_order.specs.Renumber.{Renumbering, to_below, eqb_to}
use Rattle.model_page_order.specs.Moved.{Moved}
use Rattle.model_page_order.specs.Alike.{Alike}
use Rattle.model_page_order.specs.MovedAlike.{of_rows, of_table_lem}

-- ---- a moved table

module _ {blanks : Bool} {s s' : List ℕ} {π : Renumbering (rows_at s)} (m : Moved s s' π) (h : Sound blanks s) (h' : Sound blanks s') where
  -- ---- the header and the places

  counted_same : leb VERSION_COUNTED (version_at s') ≡ leb VERSION_COUNTED (version_at s)
  counted_same = header.counted_same s s' m.head

  pub rows_same : rows_at s' ≡ rows_at s
  rows_same = header.rows_same s s' m.head

  begin_same : rows_begin s' ≡ rows_begin s
  begin_same = header.begin_same s s' m.head

  places_same : places_of s' ≡ places_of s
  places_same = header.places_same s s' m.head

  -- ---- the rows

  past_same : (i k : ℕ) → rows_at s ≤ i → byte_of (row_bytes s') (π.to i) k ≡ byte_of (row_bytes s) i k
  past_same i k l =
      let e : rows_at s' ≡ rows_at s = rows_same in
      bytes_past s' (π.to i) k (let q = π.others i l in omega arith) ∙ sym (bytes_past s i k l)

  byte_same : (i k : ℕ) → k < ROW_BYTES → (k < 12) ⊎ (13 < k) → byte_of (row_bytes s') (π.to i) k ≡ byte_of (row_bytes s) i k
  byte_same i k l o = go (dec_lt i (rows_at s))
    where
      go : Dec (i < rows_at s) → byte_of (row_bytes s') (π.to i) k ≡ byte_of (row_bytes s) i k
      go (yes p) = bytes_at s s' (π.to i) k begin_same rows_same (to_below π i p) l ∙ m.fields i k p l o ∙ sym (bytes_at s s i k refl refl p l)
      go (no p) = past_same i k (omega arith)

  pair_same : (i k : ℕ) → k + 1 < ROW_BYTES → (k + 1 < 12) ⊎ (13 < k) → pair_of (row_bytes s') (π.to i) k ≡ pair_of (row_bytes s) i k
  pair_same i k l o =
      pair_is (row_bytes s') (π.to i) k
      ∙ ap₂ (λ (x y : ℕ). x * 256 + y) (byte_same i k (omega arith) (⊎_elim (λ p. inl (omega arith)) (λ p. inr p) o))
      (byte_same i (k + 1) l (⊎_elim (λ p. inl p) (λ p. inr (omega arith)) o))
      ∙ sym (pair_is (row_bytes s) i k)

  row_same : (i : ℕ) → row_of (row_bytes s') (π.to i) ≡ row_of (row_bytes s) i
  unfolding row_of
  row_same i =
      λ d.
      record {
        kind = one 0 (omega arith) d;
        agent = one 1 (omega arith) d;
        order = one 2 (omega arith) d;
        scope = one 3 (omega arith) d;
        classes = one 4 (omega arith) d;
        flags = one 5 (omega arith) d;
        class = one 6 (omega arith) d;
        size = one 7 (omega arith) d;
        start = pair_same i 8 (omega arith) (inl (omega arith)) d;
        reference = pair_same i 10 (omega arith) (inl (omega arith)) d;
        rank = pair_same i 14 (omega arith) (inr (omega arith)) d;
      }
    where
      one : (k : ℕ) → k < 12 → byte_of (row_bytes s') (π.to i) k ≡ byte_of (row_bytes s) i k
      one k l = byte_same i k (omega arith) (inl l)

  -- ---- the sources of atomic rows

  -- past its rows a table has none
  past_plain : (i : ℕ) → rows_at s ≤ i → atomic (row_of (row_bytes s) i) ≡ false
  unfolding atomic row_of ◌and◌
  past_plain i l = rw (bytes_past s i 0 l) refl

  stays : π.to INITIAL ≡ INITIAL
  stays = let n : rows_at s ≤ ROWS = rows_fit h in π.others INITIAL (omega arith)

  source_same : (i : ℕ) → atomic_source (row_bytes s') (π.to i) ≡ π.to (atomic_source (row_bytes s) i)
  unfolding atomic_source sources_of
  source_same i = rw (row_same i) (go (dec_lt i (rows_at s)))
    where
      at : (b : Bool) → source_of (row_bytes s') (π.to i) ≡ π.to (source_of (row_bytes s) i)
          → cond b (source_of (row_bytes s') (π.to i)) INITIAL ≡ π.to (cond b (source_of (row_bytes s) i) INITIAL)
      at true e = e
      at false e = sym stays

      go : Dec (i < rows_at s)
          → cond (atomic (row_of (row_bytes s) i)) (source_of (row_bytes s') (π.to i)) INITIAL ≡ π.to
          (cond (atomic (row_of (row_bytes s) i)) (source_of (row_bytes s) i) INITIAL)
      go (yes l) = at (atomic (row_of (row_bytes s) i)) (m.sources i l)
      go (no l) = rw (past_plain i (omega arith)) (sym stays)

  -- ---- the dependencies

  -- number k of a list of them, in so many places as a table may have
  listed : (f : ℕ → ℕ) (k : ℕ) → k < dependency_count (dependency_bytes s) → get_or (tabulate f DEPENDENCIES) k 0 ≡ f k
  listed f k l = let n : dependency_count (dependency_bytes s) ≤ DEPENDENCIES = dependencies_fit_lem h in get_d_tabulate f DEPENDENCIES k 0 (omega arith)

  depends_same : (chains : Bool) (x y : ℕ) → depends_of (mode_of chains s') (π.to x) (π.to y) ≡ depends_of (mode_of chains s) x y
  unfolding depends_of dependency mode_of
  depends_same chains x y = rw m.count (any_cong (dependency (mode_of chains s') (π.to x) (π.to y)) (dependency (mode_of chains s) x y)
      (dependency_count (dependency_bytes s)) same)
    where
      same : (k : ℕ) → k < dependency_count (dependency_bytes s) → dependency (mode_of chains s') (π.to x) (π.to y) k ≡ dependency (mode_of chains s) x y k
      same k l =
          rw (
            listed (dependency_from (dependency_bytes s')) k l,
            listed (dependency_to (dependency_bytes s')) k l,
            listed (dependency_from (dependency_bytes s)) k l,
            listed (dependency_to (dependency_bytes s)) k l,
            m.first k l,
            m.second k l,
            eqb_to π (dependency_from (dependency_bytes s) k) x,
            eqb_to π (dependency_to (dependency_bytes s) k) y,
          ) refl

  -- ---- the order of an agent's rows

  order_same : (i j : ℕ) → i < j → (row_of (row_bytes s) i).agent ≡ (row_of (row_bytes s) j).agent → π.to i < π.to j
  order_same i j l q = go (dec_lt j (rows_at s)) (dec_lt i (rows_at s))
    where
      go : Dec (j < rows_at s) → Dec (i < rows_at s) → π.to i < π.to j
      go (yes p) d = m.order i j l p q
      go (no p) (yes d) = let e = π.others j (omega arith) in let f = to_below π i d in omega arith
      go (no p) (no d) = let e = π.others j (omega arith) in let f = π.others i (omega arith) in omega arith

  -- a moved table is alike, with chains and without
  pub moved_alike : (chains : Bool) → Alike (table_under chains s) (table_under chains s') (of_table_lem chains s π)
  unfolding table_under decode mode_of
  moved_alike chains =
      record {
        rows = rows_same;
        places = places_same;
        counted = counted_same;
        chains = refl;
        row = row_same;
        source = source_same;
        depends = depends_same chains;
        kept = order_same;
      }

  -- the sources of all rows
  pub sources_moved : (chains : Bool) (i : ℕ) → i < (table_under chains s).rows → sources_of s' (π.to i) ≡ π.to (sources_of s i)
  sources_moved chains i l = m.sources i (of_rows chains s l)
