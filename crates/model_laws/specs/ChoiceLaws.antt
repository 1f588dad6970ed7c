-- Why a blank has at most one source: in a table where no pair races, a source that leaves the table well formed and consistent is
-- the one that `choice` names. Assumes nothing.
use Rattle.std.specs.Prelude.{◌≡◌, refl, false, ◌⊎◌, ℕ, ◌+◌, ◌-◌, ◌≤◌, ◌<◌, eqb}
use Rattle.std.proofs.Math.Path.{sym}
use Rattle.std.proofs.Common.{subst, inl, inr, arith}
use Rattle.std.proofs.Math.Bool.{true, not}
use Rattle.std.proofs.Math.Logic.{⊎_elim}
use Rattle.std.proofs.Math.Decide.{dec_lt, ℕ_discrete}
use borrow.Author.Tests.{eqb-true, eqb-false, eq-eqb, ne_eqb, ltb-true, lt-ltb, leb-true, le-leb}
use Rattle.finite.specs.Logic.{◌and◌, ◌or◌, split, and_true, or_cases, or_left, or_right, which, not_both, not_so, not_in, not_out}
use Rattle.finite.specs.Below.{any_below, any_in, any_out, any_off, any_not, least_unique}
use Rattle.finite.specs.Closure.{one, more}
use Rattle.model.specs.declared.Row.{Row}
use Rattle.model.specs.Limits.{ROWS, LONGEST, INITIAL}
use Rattle.model.specs.Row.{PLAIN_READ, PLAIN_WRITE, ATOMIC_READ, ATOMIC_WRITE, RMW, access, atomic, plain_read, reads, writes, ranked, touches}
use Rattle.model.specs.Row.{covers, overlap}
use Rattle.model.specs.Table.{Table}
use Rattle.model.specs.Scope.{mutual_rows, mutually, later, later_writer, follows}
use Rattle.model.specs.Location.{common, before}
use Rattle.model.specs.Race.{nth}
use Rattle.model.specs.Edge.{before_nth, before_some, reads_from, from_reads, edge, overwrites}
use Rattle.model_laws.specs.WriterLaws.{Rivals, Ordered}
use Rattle.model_laws.specs.EdgeLaws.{edge_any}
use Rattle.model.specs.TableFault.{writer_fits, same_rank, same_rank_at, rank_taken}
use Rattle.model.specs.Fill.{not_before_at, written_by, written, overwrites_between, between, candidate, choice}
use Rattle.model.specs.Words.{Races, Cyclic, Consistent}
use Rattle.model_laws.specs.RaceLaws.{Sized, touched}
use Rattle.model_laws.specs.PairLaws.{inside_in, inside_out, overlap_is, common_in, common_out, either_way, mutually_sym, mutual_sym}

-- ---- definitions

-- no pair races
abbrev pub NoRace : Table → Type 0
NoRace t = (x y : ℕ) → x < y → y < t.rows → Races t x y → ⊥

-- what the laws ask of a table, as admission gives it
pub record Fair (t : Table) : Type 0 where
  pub few : t.rows ≤ ROWS
  pub sized : Sized t
  pub nonempty : (i : ℕ) → i < t.rows → access (t.row i) ≡ true → 1 ≤ (t.row i).size
  pub ranks : (i : ℕ) → i < t.rows → rank_taken t i ≡ false
  pub order : Ordered t

-- ---- kinds

plain_accesses : (r : Row) → plain_read r ≡ true → access r ≡ true
unfolding plain_read access
plain_accesses r e = let k = eqb-true r.kind PLAIN_READ e in le-leb r.kind RMW (omega arith)

plain_reads : (r : Row) → plain_read r ≡ true → reads r ≡ true
unfolding plain_read reads
plain_reads r e = or_left _ (or_left _ e)

plain_not_atomic : (r : Row) → plain_read r ≡ true → atomic r ≡ false
unfolding plain_read atomic
plain_not_atomic r e = not_so _ (λ a. let k = eqb-true r.kind PLAIN_READ e in let l = leb-true ATOMIC_READ r.kind (split a).0 in absurd (omega arith))

writer_accesses : (r : Row) → writes r ≡ true → access r ≡ true
unfolding writes access
writer_accesses r e =
    ⊎_elim (λ f. ⊎_elim (λ g. let k = eqb-true r.kind PLAIN_WRITE g in le-leb r.kind RMW (omega arith)) (λ g.
    let k = eqb-true r.kind ATOMIC_WRITE g in
    le-leb r.kind RMW (omega arith)) (or_cases (eqb r.kind PLAIN_WRITE) (eqb r.kind ATOMIC_WRITE) f))
    (λ f. let k = eqb-true r.kind RMW f in le-leb r.kind RMW (omega arith))
    (or_cases (eqb r.kind PLAIN_WRITE or eqb r.kind ATOMIC_WRITE) (eqb r.kind RMW) e)

plain_not_writes : (r : Row) → plain_read r ≡ true → writes r ≡ true → ⊥
unfolding plain_read writes
plain_not_writes r p e =
    let k = eqb-true r.kind PLAIN_READ p in
    ⊎_elim (λ f. ⊎_elim (λ g. let j = eqb-true r.kind PLAIN_WRITE g in omega arith) (λ g. let j = eqb-true r.kind ATOMIC_WRITE g in
    omega arith) (or_cases (eqb r.kind PLAIN_WRITE) (eqb r.kind ATOMIC_WRITE) f))
    (λ f. let j = eqb-true r.kind RMW f in omega arith)
    (or_cases (eqb r.kind PLAIN_WRITE or eqb r.kind ATOMIC_WRITE) (eqb r.kind RMW) e)

-- an atomic writer has a rank
atomic_ranked : (r : Row) → atomic r ≡ true → writes r ≡ true → ranked r ≡ true
unfolding atomic writes ranked
atomic_ranked r a e =
    ⊎_elim (λ f. ⊎_elim (λ g. let j = eqb-true r.kind PLAIN_WRITE g in let l = leb-true ATOMIC_READ r.kind (split a).0 in
    absurd (omega arith)) (λ g. or_left _ g) (or_cases (eqb r.kind PLAIN_WRITE) (eqb r.kind ATOMIC_WRITE) f))
    (λ f. or_right (eqb r.kind ATOMIC_WRITE) f)
    (or_cases (eqb r.kind PLAIN_WRITE or eqb r.kind ATOMIC_WRITE) (eqb r.kind RMW) e)

-- ---- edges and bytes

module _ (t : Table) where
  pub before_common : (x y b : ℕ) → before t x y b ≡ true → common (t.row x) (t.row y) b ≡ true
  unfolding before
  before_common x y b e = (split (split e).0).1

  pub before_ne : (x y b : ℕ) → before t x y b ≡ true → x ≡ y → ⊥
  unfolding before
  before_ne x y b e = eqb-false x y (not_out _ (split (split e).0).0)

  -- a byte of x, counted from where it starts
  pub count_byte : (x b : ℕ) → (t.row x).size ≤ LONGEST → touches (t.row x) b ≡ true → (k : ℕ) × (k < LONGEST) × (nth t x k ≡ b)
  count_byte x b l e =
      let p = touched (t.row x) b l e in
      let lo = p.0 in
      let hi = p.1 in
      (b - (t.row x).start, omega arith, omega arith)

  pub some_before : (x y b : ℕ) → (t.row x).size ≤ LONGEST → before t x y b ≡ true → before_some t x y ≡ true
  unfolding before_some before_nth
  some_before x y b l e =
      let c = count_byte x b l (common_out (t.row x) (t.row y) b (before_common x y b e)).2 in
      any_in (λ k. before t x y (nth t x k)) LONGEST c.0 c.1 (subst (λ (z : ℕ). before t x y z ≡ true) (sym c.2) e)

  pub before_some_lem : (x y : ℕ) → before_some t x y ≡ true → (b : ℕ) × (before t x y b ≡ true)
  unfolding before_some before_nth
  before_some_lem x y e = let r = any_out (λ k. before t x y (nth t x k)) LONGEST e in (nth t x r.0, r.2)

  module _ (source : ℕ → ℕ) where
    edge_order : (x y : ℕ) → before_some t x y ≡ true → edge t source x y ≡ true
    edge_order x y e = rw (edge_any t source x y) (or_left _ (or_left _ (or_left _ e)))

    edge_reads : (x y : ℕ) → reads_from t source x y ≡ true → edge t source x y ≡ true
    edge_reads x y e = rw (edge_any t source x y) (or_left _ (or_right _ e))

    edge_from : (x y : ℕ) → from_reads t source x y ≡ true → edge t source x y ≡ true
    edge_from x y e = rw (edge_any t source x y) (or_right _ e)

    -- two edges that lead there and back break axiom A
    two_cycle : (x y : ℕ) → x < t.rows → y < t.rows → edge t source x y ≡ true → edge t source y x ≡ true → Cyclic t source
    two_cycle x y l m e f = (x, l, more e m (one f))

-- ---- candidates

-- what a candidate s for y is known to be
record Candidate (t : Table) (y s : ℕ) : Type 0 where
  row : s < t.rows
  writer : writes (t.row s) ≡ true
  each : (k : ℕ) → k < LONGEST → touches (t.row y) (nth t y k) ≡ true → before t s y (nth t y k) ≡ true
  alone : (z : ℕ) → z < t.rows → between t y s z ≡ false

candidate_out : (t : Table) (y s : ℕ) → candidate t y s ≡ true → Candidate t y s
unfolding candidate writer_fits not_before_at
candidate_out t y s e =
    let a = split e in
    let b = split a.0 in
    let c = split (split (split b.0).0).0 in
    record {
      row = ltb-true s t.rows c.0;
      writer = (split (split b.0).0).1;
      each = λ k l h. ⊎_elim (λ g. g) (λ g. not_both (and_true h (not_in g))
          (any_off (λ j. touches (t.row y) (nth t y j) and not (before t s y (nth t y j))) LONGEST (not_out _ b.1) k l))
          (which (before t s y (nth t y k)));
      alone = λ z l. any_off (between t y s) t.rows (not_out _ a.1) z l;
    }

module _ (t : Table) (fair : Fair t) (free : NoRace t) where
  -- of two mutually-ordered writers one follows the other, since no rank is taken twice
  ranked_apart : (x y : ℕ) → x < y → y < t.rows → mutually t x y ≡ true → writes (t.row x) ≡ true → writes (t.row y) ≡ true
      → (t.row x).rank ≡ (t.row y).rank → ⊥
  unfolding rank_taken same_rank_at same_rank mutually mutual_rows
  ranked_apart x y earlier below_y ordered writes_x writes_y same_rank =
      let q = (split ordered).1 in
      let c = split (split (split q).0).0 in
      let same : mutual_rows t.places (t.row y) (t.row x) ≡ true = mutual_sym t.places (t.row x) (t.row y) q in
      let taken = any_in (same_rank_at t y) y x earlier (and_true (and_true (atomic_ranked (t.row x) c.0 writes_x) (eq-eqb _ _ same_rank)) same) in
      not_both (and_true (atomic_ranked (t.row y) c.1 writes_y) taken) (fair.ranks y below_y)

  mutually_ne : (x y : ℕ) → mutually t x y ≡ true → x ≡ y → ⊥
  unfolding mutually
  mutually_ne x y u = eqb-false x y (not_out _ (split u).0)

  follows_in : (x y : ℕ) → mutually t x y ≡ true → writes (t.row x) ≡ true → writes (t.row y) ≡ true
      → later t.counted (t.row y).rank (t.row x).rank ≡ true → follows t x y ≡ true
  unfolding follows later_writer
  follows_in x y m wx wy l = and_true m (and_true (and_true wy wx) l)

  rivals : (x y : ℕ) → x < t.rows → y < t.rows → mutually t x y ≡ true → writes (t.row x) ≡ true → writes (t.row y) ≡ true → Rivals t x y
  unfolding mutually mutual_rows
  rivals x y below_x below_y ordered writes_x writes_y =
      let q = split (split (split ordered).1).0 in
      let c = split q.0 in
      (below_x, below_y, atomic_ranked (t.row x) c.0 writes_x, atomic_ranked (t.row y) c.1 writes_y, q.1)

  pub follows_total : (x y : ℕ) → x < t.rows → y < t.rows → mutually t x y ≡ true → writes (t.row x) ≡ true → writes (t.row y) ≡ true
      → (follows t x y ≡ true) ⊎ (follows t y x ≡ true)
  follows_total x y below_x below_y ordered writes_x writes_y = go (ℕ_discrete (t.row x).rank (t.row y).rank)
    where
      apart : (t.row x).rank ≡ (t.row y).rank → Dec (x < y) → Dec (y < x) → ⊥
      apart e (yes a) d = ranked_apart x y a below_y ordered writes_x writes_y e
      apart e (no a) (yes b) = ranked_apart y x b below_x (mutually_sym t x y ordered) writes_y writes_x (sym e)
      apart e (no a) (no b) = mutually_ne x y ordered (omega arith)

      go : Dec ((t.row x).rank ≡ (t.row y).rank) → (follows t x y ≡ true) ⊎ (follows t y x ≡ true)
      go (yes e) = absurd (apart e (dec_lt x y) (dec_lt y x))
      go (no n) =
          ⊎_elim (λ h. inl (follows_in x y ordered writes_x writes_y h.0))
          (λ h. inr (follows_in y x (mutually_sym t x y ordered) writes_y writes_x h.1))
          (fair.order.one x y (rivals x y below_x below_y ordered writes_x writes_y) n)

  -- ---- a blank y

  module _ (y : ℕ) (yl : y < t.rows) (py : plain_read (t.row y) ≡ true) where
    -- y has a first byte
    first_byte : touches (t.row y) (nth t y 0) ≡ true
    unfolding touches
    first_byte = let n = fair.nonempty y yl (plain_accesses (t.row y) py) in
        inside_in (t.row y).start (t.row y).size ((t.row y).start + 0) (omega arith) (omega arith)

    between_order : (s z : ℕ) → writes (t.row z) ≡ true → before t s z (nth t y 0) ≡ true → before t z y (nth t y 0) ≡ true → between t y s z ≡ true
    unfolding between overwrites_between
    between_order s z w a b = and_true w (or_right _
        (any_in (λ k. before t s z (nth t y k) and before t z y (nth t y k)) LONGEST 0 (omega arith) (and_true a b)))

    between_follow : (s z b : ℕ) → z < t.rows → writes (t.row z) ≡ true → follows t s z ≡ true → before t z y b ≡ true → between t y s z ≡ true
    unfolding between
    between_follow s z b l w f e = and_true w (or_left _ (and_true f (some_before t z y b (fair.sized z l) e)))

    -- two candidates are one
    pub candidates_same : (s z : ℕ) → candidate t y s ≡ true → candidate t y z ≡ true → s ≡ z
    candidates_same s z a b = go (ℕ_discrete s z)
      where
        cs : Candidate t y s
        cs = candidate_out t y s a

        cz : Candidate t y z
        cz = candidate_out t y z b

        es : before t s y (nth t y 0) ≡ true
        es = cs.each 0 (omega arith) first_byte

        ez : before t z y (nth t y 0) ≡ true
        ez = cz.each 0 (omega arith) first_byte

        both : common (t.row s) (t.row z) (nth t y 0) ≡ true
        both =
            let p = common_out (t.row s) (t.row y) (nth t y 0) (before_common t s y (nth t y 0) es) in
            let q = common_out (t.row z) (t.row y) (nth t y 0) (before_common t z y (nth t y 0) ez) in
            common_in (t.row s) (t.row z) (nth t y 0) p.0 q.0 p.2 q.2

        mutuals : mutually t s z ≡ true → ⊥
        mutuals m =
            ⊎_elim (λ f. not_both (between_follow s z (nth t y 0) cz.row cz.writer f ez) (cs.alone z cz.row))
            (λ f. not_both (between_follow z s (nth t y 0) cs.row cs.writer f es) (cz.alone s cs.row))
            (follows_total s z cs.row cz.row m cs.writer cz.writer)

        ordered : (s ≡ z → ⊥) → mutually t s z ≡ false → ⊥
        ordered n m =
            ⊎_elim (λ f. not_both (between_order s z cz.writer f ez) (cs.alone z cz.row))
            (λ f. not_both (between_order z s cs.writer f es) (cz.alone s cs.row))
            (either_way t free s z (nth t y 0) cs.row cz.row n both (inl cs.writer) m)

        go : Dec (s ≡ z) → s ≡ z
        go (yes e) = e
        go (no n) = absurd (⊎_elim mutuals (ordered n) (which (mutually t s z)))

    choice_candidate : (s : ℕ) → written t y ≡ true → candidate t y s ≡ true → choice t y ≡ s
    unfolding choice
    choice_candidate s w c =
        rw w
        (least_unique (candidate t y) t.rows s (candidate_out t y s c).row c
        (λ j l. not_so _ (λ e. let q = candidates_same j s e c in absurd (omega arith))))

    -- ---- a consistent source

    module _ (source : ℕ → ℕ) (con : Consistent t source) where
      from_initial : (z : ℕ) → source y ≡ INITIAL → writes (t.row z) ≡ true → (y ≡ z → ⊥) → overlap (t.row y) (t.row z) ≡ true
          → from_reads t source y z ≡ true
      unfolding from_reads
      from_initial z e w n o = and_true (and_true (not_in (ne_eqb y z n)) (plain_reads (t.row y) py)) (rw (eq-eqb (source y) INITIAL e) (and_true w o))

      -- a read of the initial value has no writer before it
      initial_unwritten : source y ≡ INITIAL → written t y ≡ false
      unfolding written written_by
      initial_unwritten e = any_not (λ z. writes (t.row z) and before_some t z y) t.rows (λ z l. not_so _ (λ h. absurd (bad z l (split h).0 (split h).1)))
        where
          bad : (z : ℕ) → z < t.rows → writes (t.row z) ≡ true → before_some t z y ≡ true → ⊥
          bad z l w h =
              let b = before_some_lem t z y h in
              let c = common_out (t.row z) (t.row y) b.0 (before_common t z y b.0 b.1) in
              con.0 (two_cycle t source z y l yl (edge_order t source z y h)
              (edge_from t source y z (from_initial z e w (λ q. before_ne t z y b.0 b.1 (sym q))
              ((overlap_is (t.row y) (t.row z)).1 (b.0, c.3, c.2)))))

      -- a read of a row: the row is a candidate, and so what `choice` names
      module _ (fits : writer_fits t y (source y) ≡ true) where
        source_row : source y < t.rows
        unfolding writer_fits
        source_row = ltb-true (source y) t.rows (split (split (split fits).0).0).0

        source_ne : source y ≡ y → ⊥
        unfolding writer_fits
        source_ne = eqb-false (source y) y (not_out _ (split (split (split fits).0).0).1)

        source_writes : writes (t.row (source y)) ≡ true
        unfolding writer_fits
        source_writes = (split (split fits).0).1

        source_touches : (b : ℕ) → touches (t.row y) b ≡ true → touches (t.row (source y)) b ≡ true
        unfolding writer_fits covers touches
        source_touches b h =
            let p = inside_out (t.row y).start (t.row y).size b h in
            let lo = p.0 in
            let hi = p.1 in
            let c = (split fits).1 in
            let d = leb-true (t.row (source y)).start (t.row y).start (split c).0 in
            let e = leb-true ((t.row y).start + (t.row y).size) ((t.row (source y)).start + (t.row (source y)).size) (split c).1 in
            inside_in (t.row (source y)).start (t.row (source y)).size b (omega arith) (omega arith)

        not_mutual : mutually t (source y) y ≡ false
        unfolding mutually mutual_rows
        not_mutual = not_so _ (λ u. not_both (split (split (split (split u).1).0).0).1 (plain_not_atomic (t.row y) py))

        reads_edge : edge t source (source y) y ≡ true
        unfolding reads_from
        reads_edge = edge_reads t source (source y) y (and_true (plain_reads (t.row y) py) (eq-eqb (source y) (source y) refl))

        source_before : (b : ℕ) → touches (t.row y) b ≡ true → before t (source y) y b ≡ true
        source_before b h =
            ⊎_elim (λ e. e)
            (λ e. absurd (con.0 (two_cycle t source y (source y) yl source_row
            (edge_order t source y (source y) (some_before t y (source y) b (fair.sized y yl) e)) reads_edge)))
            (either_way t free (source y) y b source_row yl source_ne
            (common_in (t.row (source y)) (t.row y) b (writer_accesses (t.row (source y)) source_writes) (plain_accesses (t.row y) py)
            (source_touches b h) h)
            (inl source_writes) not_mutual)

        source_written : written t y ≡ true
        unfolding written written_by
        source_written =
            any_in (λ z. writes (t.row z) and before_some t z y) t.rows (source y) source_row
            (and_true source_writes (some_before t (source y) y (nth t y 0) (fair.sized (source y) source_row) (source_before (nth t y 0) first_byte)))

        no_miss : any_below LONGEST (not_before_at t y (source y)) ≡ false
        unfolding not_before_at
        no_miss =
            any_not (λ k. touches (t.row y) (nth t y k) and not (before t (source y) y (nth t y k))) LONGEST
            (λ k l. not_so _ (λ h. not_both (source_before (nth t y k) (split h).0) (not_out _ (split h).1)))

        from_follow : (z : ℕ) → writes (t.row z) ≡ true → follows t (source y) z ≡ true → edge t source y z ≡ true
        unfolding from_reads
        from_follow z w f =
            let r = source_row in
            let n = fair.few in
            edge_from t source y z
            (and_true (and_true (not_in (ne_eqb y z
            (λ q. plain_not_writes (t.row y) py (subst (λ (v : ℕ). writes (t.row v) ≡ true) (sym q) w)))) (plain_reads (t.row y) py))
            (rw (ne_eqb (source y) INITIAL (λ q. absurd (omega arith))) f))

        broken : (z b : ℕ) → writes (t.row z) ≡ true → before t (source y) z b ≡ true → before t z y b ≡ true → overwrites t source y z b ≡ true
        unfolding overwrites
        broken z b w p q = and_true (and_true (and_true (and_true (plain_reads (t.row y) py) w) (lt-ltb (source y) t.rows source_row)) p) q

        nothing_between : (z : ℕ) → z < t.rows → between t y (source y) z ≡ false
        unfolding between overwrites_between
        nothing_between z l = not_so _ (λ h. ⊎_elim (λ a. follow (split h).0 a) (λ a. hide (split h).0 a)
            (or_cases (follows t (source y) z and before_some t z y) _ (split h).1))
          where
            follow : writes (t.row z) ≡ true → (follows t (source y) z and before_some t z y) ≡ true → ⊥
            follow w a = con.0 (two_cycle t source y z yl l (from_follow z w (split a).0) (edge_order t source z y (split a).1))

            hide : writes (t.row z) ≡ true → any_below LONGEST (λ k. before t (source y) z (nth t y k) and before t z y (nth t y k)) ≡ true → ⊥
            hide w a =
                let r = any_out (λ k. before t (source y) z (nth t y k) and before t z y (nth t y k)) LONGEST a in
                con.1 (y, z, nth t y r.0, yl, l, broken z (nth t y r.0) w (split r.2).0 (split r.2).1)

        source_candidate : candidate t y (source y) ≡ true
        unfolding candidate
        source_candidate = and_true (and_true fits (not_in no_miss)) (not_in (any_not (between t y (source y)) t.rows nothing_between))

      -- a consistent source of a blank is the one that `choice` names
      pub choice_forced : (source y ≡ INITIAL) ⊎ (writer_fits t y (source y) ≡ true) → source y ≡ choice t y
      unfolding choice
      choice_forced (inl e) = rw (initial_unwritten e) e
      choice_forced (inr f) = sym (choice_candidate (source y) (source_written f) (source_candidate f))
