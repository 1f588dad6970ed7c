-- Edges, axiom B and races by sets of rows and the bits of pairs: SOME, FULL, LATER (which is `follows`), OVERLAP, MUTUAL, and which
-- rows read and write. What is found by them is what the model shows. Of tables whose rows have at most LONGEST bytes.
use Rattle.std.specs.Prelude.{◌≡◌, refl, Bool, not, ◌⊎◌, ℕ, suc, ◌+◌, ◌-◌, ◌≤◌, ◌<◌, leb}
use Rattle.std.proofs.Math.Path.{sym, ap, ap₂}
use Rattle.std.proofs.Common.{◌∙◌, subst}
use Rattle.std.proofs.Math.Bool.{true, false, cond}
use Rattle.std.proofs.Math.Logic.{⊎_elim}
use native.Mathlib.Omega.{arith}
use Rattle.std.proofs.Math.Decide.{dec_lt, ℕ_discrete}
use Rattle.std.proofs.Math.Dec.{ltb, eqb}
use borrow.Author.Tests.{eqb-true, eq-eqb, ne_eqb, leb-true, le-leb, ltb-true, lt-ltb, le-ltb}
use Rattle.finite.specs.Logic.{◌and◌, ◌or◌, split, and_true, and_false_left, and_on, or_cases, or_left, or_right, which, not_both, not_so, bool_ext}
use Rattle.finite.specs.Below.{least, least_is, least_cong}
use Rattle.model.specs.Limits.{LONGEST, INITIAL}
use Rattle.model.specs.Row.{reads, writes, overlap}
use Rattle.model.specs.Table.{Table}
use Rattle.model.specs.Scope.{follows}
use Rattle.model.specs.Location.{before}
use Rattle.model.specs.Race.{nth}
use Rattle.model_laws.specs.EdgeLaws.{edge_any}
use Rattle.model.specs.Edge.{before_nth, before_some, reads_from, from_reads, edge, overwrites, overwrites_nth, over_nth, overwriting, over_writer, is_overwritten}
use Rattle.model.specs.Edge.{over_reader, over_byte}
use Rattle.model_laws.specs.PairLaws.{overlap_is, common_out}
use Rattle.model_laws.specs.RaceLaws.{Sized, touched}
use Rattle.model_placing.specs.Leads.{cond_on, cond_off}
use Rattle.model_placing.specs.Whole.{before_shared, shared_common, some_in}

-- ---- definitions: edges

-- a reader's source is a row, or the initial value, as refusal 9 sees to
abbrev pub Sourced : Table → (ℕ → ℕ) → Type 0
Sourced t source = (y : ℕ) → y < t.rows → reads (t.row y) ≡ true → (source y < t.rows) ⊎ (source y ≡ INITIAL)

-- the edges 4 from the reader y: LATER of its source, or the writers that share a byte with it; less y itself
unfoldable pub from_source : Table → (ℕ → ℕ) → ℕ → ℕ → Bool
from_source t source y z =
    not (eqb y z) and cond (ltb (source y) t.rows) (follows t (source y) z) (overlap (t.row y) (t.row z) and writes (t.row z))

-- the edges from x, with the readers below m done
unfoldable pub edges_below : Table → (ℕ → ℕ) → ℕ → ℕ → ℕ → Bool
edges_below t source m x y =
    before_some t x y or follows t x y or (ltb x m and (reads (t.row x) and from_source t source x y))
    or (ltb y m and (reads (t.row y) and eqb (source y) x))

-- ---- definitions: bits of pairs, counted from another row

-- the bit of the pair x, y for the byte b
unfoldable pub bit_at : Table → ℕ → ℕ → ℕ → Bool
bit_at t x y b = leb (t.row x).start b and ltb (b - (t.row x).start) LONGEST and before_nth t x y (b - (t.row x).start)

-- ---- definitions: axiom B

-- z may overwrite the source of the reader y
unfoldable pub may_overwrite : Table → (ℕ → ℕ) → ℕ → ℕ → Bool
may_overwrite t source y z =
    ltb (source y) t.rows and (before_some t (source y) z and overlap (t.row y) (t.row z) and writes (t.row z)) and before_some t z y

unfoldable pub over_bit : Table → (ℕ → ℕ) → ℕ → ℕ → ℕ → Bool
over_bit t source y z k = bit_at t (source y) z (nth t y k) and bit_at t z y (nth t y k)

unfoldable pub over_bits : Table → (ℕ → ℕ) → ℕ → ℕ → Bool
over_bits t source y z = may_overwrite t source y z and ltb (least LONGEST (over_bit t source y z)) LONGEST

unfoldable pub over_row : Table → (ℕ → ℕ) → ℕ → Bool
over_row t source y = reads (t.row y) and ltb (least t.rows (over_bits t source y)) t.rows

-- ---- laws: edges

off_end : (a b : Bool) → b ≡ false → (a or b) ≡ a
unfolding ◌or◌
off_end true b e = refl
off_end false b e = e

-- one more number passes
grow : (i m : ℕ) (c : Bool) → (ltb i (suc m) and c) ≡ ((ltb i m and c) or (eqb i m and c))
unfolding ◌and◌
grow i m c = go (ℕ_discrete i m) (dec_lt i m)
  where
    go : Dec (i ≡ m) → Dec (i < m) → (ltb i (suc m) and c) ≡ ((ltb i m and c) or (eqb i m and c))
    go (yes e) d = rw (eq-eqb i m e, le-ltb i m (omega arith), lt-ltb i (suc m) (omega arith)) (or_start c)
      where
        or_start : (c : Bool) → c ≡ (false or c)
        or_start c = bool_ext _ _ (λ e. or_right false e) (λ e. ⊎_elim (λ h. not_both h refl) (λ h. h) (or_cases false c e))
    go (no e) (yes l) = rw (ne_eqb i m e, lt-ltb i m l, lt-ltb i (suc m) (omega arith)) (sym (off_end c false refl))
    go (no e) (no l) = rw (ne_eqb i m e, le-ltb i m (omega arith), le-ltb i (suc m) (omega arith)) (sym (off_end false false refl))

-- ORs in another order
four : (a c e d f : Bool) → (a or (c or d) or (e or f)) ≡ (a or c or e or d or f)
unfolding ◌or◌
four true c e d f = refl
four false true e d f = refl
four false false true true f = refl
four false false true false f = refl
four false false false true f = refl
four false false false false f = refl

module _ (t : Table) (source : ℕ → ℕ) where
  pub edges_none : (x y : ℕ) → edges_below t source 0 x y ≡ (before_some t x y or follows t x y)
  unfolding edges_below
  edges_none x y =
      off_end _ _ (and_false_left _ _ (le-ltb y 0 (omega arith))) ∙ off_end _ _ (and_false_left _ _ (le-ltb x 0 (omega arith)))

  -- a row that doesn't read adds none
  pub edges_skip : (m x y : ℕ) → reads (t.row m) ≡ false → edges_below t source (suc m) x y ≡ edges_below t source m x y
  unfolding edges_below
  edges_skip m x y e =
      ap₂ (λ (c d : Bool). before_some t x y or follows t x y or c or d)
      (grow x m _ ∙ off_end _ _ (silent x (reads (t.row x)) _ (λ q. ap (λ (i : ℕ). reads (t.row i)) q ∙ e)))
      (grow y m _ ∙ off_end _ _ (silent y (reads (t.row y)) _ (λ q. ap (λ (i : ℕ). reads (t.row i)) q ∙ e)))
    where
      silent : (i : ℕ) (c d : Bool) → (i ≡ m → c ≡ false) → (eqb i m and (c and d)) ≡ false
      silent i c d h = not_so _ (λ o. not_both (split (split o).1).0 (h (eqb-true i m (split o).0)))

  -- a reader m: the edges 4 from m itself, and the edge 3 from its source
  pub edges_step : (m x y : ℕ) → reads (t.row m) ≡ true
      → edges_below t source (suc m) x y ≡ (edges_below t source m x y or (eqb x m and from_source t source m y) or (eqb y m and eqb (source m) x))
  unfolding edges_below
  edges_step m x y e =
      ap₂ (λ (c d : Bool). before_some t x y or follows t x y or c or d)
      (grow x m _ ∙ ap (λ (c : Bool). (ltb x m and (reads (t.row x) and from_source t source x y)) or c)
      (alone x (reads (t.row x)) _ _ (λ q. ap (λ (i : ℕ). reads (t.row i)) q ∙ e) (λ q. ap (λ (i : ℕ). from_source t source i y) q)))
      (grow y m _ ∙ ap (λ (c : Bool). (ltb y m and (reads (t.row y) and eqb (source y) x)) or c)
      (alone y (reads (t.row y)) _ _ (λ q. ap (λ (i : ℕ). reads (t.row i)) q ∙ e) (λ q. ap (λ (i : ℕ). eqb (source i) x) q)))
      ∙ four (before_some t x y or follows t x y) (ltb x m and (reads (t.row x) and from_source t source x y))
      (ltb y m and (reads (t.row y) and eqb (source y) x)) (eqb x m and from_source t source m y) (eqb y m and eqb (source m) x)
    where
      alone : (i : ℕ) (c d d₂ : Bool) → (i ≡ m → c ≡ true) → (i ≡ m → d ≡ d₂) → (eqb i m and (c and d)) ≡ (eqb i m and d₂)
      alone i c d d₂ h k =
          bool_ext _ _ (λ o. and_true (split o).0 (sym (k (eqb-true i m (split o).0)) ∙ (split (split o).1).1))
          (λ o. and_true (split o).0 (and_true (h (eqb-true i m (split o).0)) (k (eqb-true i m (split o).0) ∙ (split o).1)))

  -- edge 4 of a table whose sources fit
  from_source_lem : (y z : ℕ) → y < t.rows → t.rows ≤ INITIAL → Sourced t source → from_reads t source y z ≡ (reads (t.row y) and from_source t source y z)
  unfolding from_reads from_source
  from_source_lem y z l most sourced = bool_ext _ _ forth back
    where
      same : reads (t.row y) ≡ true
          → cond (eqb (source y) INITIAL) (writes (t.row z) and overlap (t.row y) (t.row z)) (follows t (source y) z)
          ≡ cond (ltb (source y) t.rows) (follows t (source y) z) (overlap (t.row y) (t.row z) and writes (t.row z))
      same r =
          ⊎_elim
          (λ s. cond_off _ _ _ (ne_eqb (source y) INITIAL (λ q. absurd (omega arith))) ∙ sym (cond_on _ _ _ (lt-ltb _ _ s)))
          (λ s. cond_on _ _ _ (eq-eqb (source y) INITIAL s) ∙ swap _ _ ∙ sym (cond_off _ _ _ (le-ltb (source y) t.rows (omega arith))))
          (sourced y l r)
        where
          swap : (a b : Bool) → (a and b) ≡ (b and a)
          swap a b = bool_ext _ _ (λ e. and_true (split e).1 (split e).0) (λ e. and_true (split e).1 (split e).0)

      forth : (not (eqb y z) and reads (t.row y)
          and cond (eqb (source y) INITIAL) (writes (t.row z) and overlap (t.row y) (t.row z)) (follows t (source y) z)) ≡ true
          → (reads (t.row y) and (not (eqb y z)
          and cond (ltb (source y) t.rows) (follows t (source y) z) (overlap (t.row y) (t.row z) and writes (t.row z)))) ≡ true
      forth e = let u = split (split e).0 in and_true u.1 (and_true u.0 (sym (same u.1) ∙ (split e).1))

      back : (reads (t.row y) and (not (eqb y z)
          and cond (ltb (source y) t.rows) (follows t (source y) z) (overlap (t.row y) (t.row z) and writes (t.row z)))) ≡ true
          → (not (eqb y z) and reads (t.row y)
          and cond (eqb (source y) INITIAL) (writes (t.row z) and overlap (t.row y) (t.row z)) (follows t (source y) z)) ≡ true
      back e = let u = split (split e).1 in and_true (and_true u.0 (split e).0) (same (split e).0 ∙ u.1)

  -- with all readers done, they are the edges
  pub edges_done : t.rows ≤ INITIAL → Sourced t source → (x y : ℕ) → x < t.rows → y < t.rows → edges_below t source t.rows x y ≡ edge t source x y
  unfolding edges_below reads_from
  edges_done most sourced x y l m =
      ap₂ (λ (c d : Bool). before_some t x y or follows t x y or c or d) (and_on _ _ (lt-ltb x t.rows l)) (and_on _ _ (lt-ltb y t.rows m))
      ∙ ap (λ (c : Bool). before_some t x y or follows t x y or c or (reads (t.row y) and eqb (source y) x)) (sym (from_source_lem x y l most sourced))
      ∙ last (before_some t x y or follows t x y) _ _ ∙ sym (edge_any t source x y)
    where
      last : (a c d : Bool) → (a or c or d) ≡ (a or d or c)
      last a c d =
          bool_ext _ _
          (λ e. ⊎_elim (λ h. ⊎_elim (λ i. or_left _ (or_left _ i)) (λ i. or_right _ i) (or_cases a c h)) (λ h. or_left _ (or_right _ h))
          (or_cases (a or c) d e))
          (λ e. ⊎_elim (λ h. ⊎_elim (λ i. or_left _ (or_left _ i)) (λ i. or_right _ i) (or_cases a d h)) (λ h. or_left _ (or_right _ h))
          (or_cases (a or d) c e))

-- ---- laws: bits of pairs

module _ (t : Table) (sized : Sized t) where
  -- the bits of x, y say all of their location order, counted from any row
  pub bit_is : (x y b : ℕ) → x < t.rows → before t x y b ≡ bit_at t x y b
  unfolding bit_at before_nth
  bit_is x y b l = bool_ext _ _ forth back
    where
      forth : before t x y b ≡ true
          → (leb (t.row x).start b and ltb (b - (t.row x).start) LONGEST and before t x y (nth t x (b - (t.row x).start))) ≡ true
      forth e =
          let c = common_out (t.row x) (t.row y) b (shared_common t x y b (before_shared t x y b e)) in
          let p = touched (t.row x) b (sized x l) c.2 in
          let lo = p.0 in
          let hi = p.1 in
          let q : b ≡ (t.row x).start + (b - (t.row x).start) = omega arith in
          and_true (and_true (le-leb (t.row x).start b lo) (lt-ltb (b - (t.row x).start) LONGEST (omega arith)))
          (subst (λ (z : ℕ). before t x y z ≡ true) q e)

      back : (leb (t.row x).start b and ltb (b - (t.row x).start) LONGEST and before t x y (nth t x (b - (t.row x).start))) ≡ true → before t x y b ≡ true
      back e =
          let lo = leb-true (t.row x).start b (split (split e).0).0 in
          let q : (t.row x).start + (b - (t.row x).start) ≡ b = omega arith in
          subst (λ (z : ℕ). before t x y z ≡ true) q (split e).1

  -- ---- laws: axiom B

  module _ (source : ℕ → ℕ) where
    over_reads : (y z k : ℕ) → overwrites_nth t source y z k ≡ true → reads (t.row y) ≡ true
    unfolding overwrites_nth overwrites
    over_reads y z k e = (split (split (split (split e).0).0).0).0

    over_hit : (y z : ℕ) → over_nth t source y z < LONGEST → overwrites_nth t source y z (over_nth t source y z) ≡ true
    unfolding over_nth
    over_hit y z l = (least_is (overwrites_nth t source y z) LONGEST).hit l

    writer_reads : (y : ℕ) → over_writer t source y < t.rows → reads (t.row y) ≡ true
    unfolding over_writer overwriting
    writer_reads y l =
        let e = (least_is (overwriting t source y) t.rows).hit l in
        over_reads y _ _ (over_hit y (least t.rows (overwriting t source y)) (ltb-true _ _ e))

    over_bit_is : (y z k : ℕ) → reads (t.row y) ≡ true → z < t.rows → may_overwrite t source y z ≡ true → overwrites_nth t source y z k ≡ over_bit t source y z k
    unfolding overwrites_nth overwrites over_bit may_overwrite
    over_bit_is y z k r l e =
        let u = split (split e).0 in
        let s = ltb-true (source y) t.rows u.0 in
        bool_ext _ _
        (λ h. and_true (sym (bit_is (source y) z (nth t y k) s) ∙ (split (split h).0).1) (sym (bit_is z y (nth t y k) l) ∙ (split h).1))
        (λ h. and_true (and_true (and_true (and_true r (split u.1).1) u.0) (bit_is (source y) z (nth t y k) s ∙ (split h).0))
        (bit_is z y (nth t y k) l ∙ (split h).1))

    may_over : (y z k : ℕ) → z < t.rows → overwrites_nth t source y z k ≡ true → may_overwrite t source y z ≡ true
    unfolding overwrites_nth overwrites may_overwrite
    may_over y z k l e =
        let a = split e in
        let b = split a.0 in
        let c = split b.0 in
        let d = split c.0 in
        let s = ltb-true (source y) t.rows c.1 in
        let m = common_out (t.row z) (t.row y) (nth t y k) (shared_common t z y (nth t y k) (before_shared t z y (nth t y k) a.1)) in
        and_true
        (and_true c.1
        (and_true (and_true (some_in t (source y) z sized s (nth t y k) b.1) ((overlap_is (t.row y) (t.row z)).1 (nth t y k, m.3, m.2))) d.1))
        (some_in t z y sized l (nth t y k) a.1)

    -- the byte: the lowest bit that the two pairs have
    pub over_nth_is : (y z : ℕ) → reads (t.row y) ≡ true → z < t.rows → may_overwrite t source y z ≡ true
        → over_nth t source y z ≡ least LONGEST (over_bit t source y z)
    unfolding over_nth
    over_nth_is y z r l e = least_cong (overwrites_nth t source y z) (over_bit t source y z) LONGEST (λ k m. over_bit_is y z k r l e)

    pub over_byte_is : (y z : ℕ) → reads (t.row y) ≡ true → z < t.rows → may_overwrite t source y z ≡ true
        → over_byte t source y z ≡ nth t y (least LONGEST (over_bit t source y z))
    unfolding over_byte
    over_byte_is y z r l e = ap (λ (k : ℕ). nth t y k) (over_nth_is y z r l e)

    overwriting_is : (y z : ℕ) → reads (t.row y) ≡ true → z < t.rows → overwriting t source y z ≡ over_bits t source y z
    unfolding overwriting over_bits
    overwriting_is y z r l = bool_ext _ _ forth back
      where
        forth : ltb (over_nth t source y z) LONGEST ≡ true → (may_overwrite t source y z and ltb (least LONGEST (over_bit t source y z)) LONGEST) ≡ true
        forth e =
            let m = may_over y z (over_nth t source y z) l (hit (ltb-true _ _ e)) in
            and_true m (sym (ap (λ (k : ℕ). ltb k LONGEST) (over_nth_is y z r l m)) ∙ e)
          where
            hit : over_nth t source y z < LONGEST → overwrites_nth t source y z (over_nth t source y z) ≡ true
            hit o = over_hit y z o

        back : (may_overwrite t source y z and ltb (least LONGEST (over_bit t source y z)) LONGEST) ≡ true → ltb (over_nth t source y z) LONGEST ≡ true
        back e = ap (λ (k : ℕ). ltb k LONGEST) (over_nth_is y z r l (split e).0) ∙ (split e).1

    -- the writer: the least of SOME of the source, OVERLAP and the writers, that has y in SOME and a bit left
    pub over_writer_is : (y : ℕ) → reads (t.row y) ≡ true → over_writer t source y ≡ least t.rows (over_bits t source y)
    unfolding over_writer
    over_writer_is y r = least_cong (overwriting t source y) (over_bits t source y) t.rows (λ z l. overwriting_is y z r l)

    -- the reader: the least that reads and has such a writer
    over_row_is : (y : ℕ) → is_overwritten t source y ≡ over_row t source y
    unfolding is_overwritten over_row
    over_row_is y = ⊎_elim reading silent (which (reads (t.row y)))
      where
        reading : reads (t.row y) ≡ true
            → ltb (over_writer t source y) t.rows ≡ (reads (t.row y) and ltb (least t.rows (over_bits t source y)) t.rows)
        reading r = ap (λ (z : ℕ). ltb z t.rows) (over_writer_is y r) ∙ sym (and_on _ _ r)

        silent : reads (t.row y) ≡ false
            → ltb (over_writer t source y) t.rows ≡ (reads (t.row y) and ltb (least t.rows (over_bits t source y)) t.rows)
        silent r = not_so _ (λ e. not_both (writer_reads y (ltb-true _ _ e)) r) ∙ sym (and_false_left _ _ r)

    pub over_reader_is : over_reader t source ≡ least t.rows (over_row t source)
    unfolding over_reader
    over_reader_is = least_cong (is_overwritten t source) (over_row t source) t.rows (λ y l. over_row_is y)
