-- The tests of Edge.antt decide the axioms A and B as Words.antt states them, and what is shown is the least break. Assumes nothing.
use Rattle.std.specs.Prelude.{◌≡◌, ◌⊎◌, ◌↔◌, ℕ, ◌-◌, ◌≤◌, ◌<◌}
use Rattle.std.proofs.Math.Path.{refl, subst}
use Rattle.std.proofs.Common.{sym, ◌∙◌, inl, inr, eq-or-lt_of_le}
use Rattle.std.proofs.Math.Bool.{true}
use Rattle.std.proofs.Math.Logic.{⊎_elim}
use native.Mathlib.Omega.{arith}
use borrow.Author.Tests.{ltb-true, lt-ltb, eqb-true, eq-eqb}
use Rattle.finite.specs.Logic.{split, and_true}
use Rattle.finite.specs.Below.{least_is, least_low}
use Rattle.finite.specs.Closure.{reach_cong}
use Rattle.finite.specs.Cycle.{cycle_exists, cycle_none}
use Rattle.model.specs.Limits.{LONGEST}
use Rattle.model.specs.Table.{Table}
use Rattle.model.specs.Location.{common, before}
use Rattle.model.specs.Race.{nth}
use Rattle.model.specs.Edge.{reads_from, from_reads, edge_number, edge, cycle_row, overwrites, overwrites_nth, over_nth, overwriting, over_writer, is_overwritten}
use Rattle.model.specs.Edge.{over_reader, over_byte, consistent}
use Rattle.model.specs.Words.{Cyclic, Overwritten, FirstOverwrite, Consistent}
use Rattle.model_laws.specs.RaceLaws.{Sized, touched, common_right}

-- ---- axiom A

module _ (t : Table) (source : ℕ → ℕ) where
  pub cyclic_is : (cycle_row t source < t.rows) ↔ Cyclic t source
  unfolding cycle_row
  cyclic_is = cycle_exists t.rows (edge t source)

  acyclic_is : (cycle_row t source ≡ t.rows) ↔ (Cyclic t source → ⊥)
  unfolding cycle_row
  acyclic_is =
      let c = cycle_none t.rows (edge t source) in
      (λ e w. c.0 e w.0 w.1 w.2, λ f. c.1 (λ x l r. f (x, l, r)))

  -- ---- axiom B

  before_right : (x y b : ℕ) → before t x y b ≡ true → common (t.row x) (t.row y) b ≡ true
  unfolding before
  before_right x y b e = (split (split e).0).1

  module _ (sized : Sized t) where
    -- what is overwritten is a byte of the reader
    counted : (y z b : ℕ) → y < t.rows → overwrites t source y z b ≡ true → (k : ℕ) × (k < LONGEST) × (nth t y k ≡ b)
    unfolding overwrites
    counted y z b l e =
        let p = touched (t.row y) b (sized y l) (common_right (t.row z) (t.row y) b (before_right z y b (split e).1)) in
        let lo = p.0 in
        let hi = p.1 in
        (b - (t.row y).start, omega arith, omega arith)

    nth_low : (y z b : ℕ) → y < t.rows → overwrites t source y z b ≡ true → (over_nth t source y z < LONGEST) × (over_byte t source y z ≤ b)
    unfolding over_byte over_nth overwrites_nth
    nth_low y z b l e =
        let c = counted y z b l e in
        let h : overwrites t source y z (nth t y c.0) ≡ true = subst (λ (v : ℕ). overwrites t source y z v ≡ true) (sym c.2) e in
        let m = least_low (λ k. overwrites t source y z (nth t y k)) LONGEST c.0 h in
        let f = c.1 in
        let g = c.2 in
        (omega arith, omega arith)

    nth_hit : (y z : ℕ) → overwriting t source y z ≡ true → overwrites t source y z (over_byte t source y z) ≡ true
    unfolding overwriting over_byte over_nth overwrites_nth
    nth_hit y z h = (least_is (λ k. overwrites t source y z (nth t y k)) LONGEST).hit (ltb-true _ _ h)

    writer_low : (y z b : ℕ) → y < t.rows → overwrites t source y z b ≡ true → over_writer t source y ≤ z
    unfolding over_writer overwriting
    writer_low y z b l e = least_low (overwriting t source y) t.rows z (lt-ltb _ _ (nth_low y z b l e).0)

    writer_hit : (y : ℕ) → over_writer t source y < t.rows → overwriting t source y (over_writer t source y) ≡ true
    unfolding over_writer
    writer_hit y l = (least_is (overwriting t source y) t.rows).hit l

    reader_low : (y z b : ℕ) → y < t.rows → z < t.rows → overwrites t source y z b ≡ true → over_reader t source ≤ y
    unfolding over_reader is_overwritten
    reader_low y z b l m e =
        let w = writer_low y z b l e in
        least_low (is_overwritten t source) t.rows y (lt-ltb (over_writer t source y) t.rows (omega arith))

    reader_hit : over_reader t source < t.rows → over_writer t source (over_reader t source) < t.rows
    unfolding over_reader is_overwritten
    reader_hit l = ltb-true _ _ ((least_is (is_overwritten t source) t.rows).hit l)

    reader_bound : over_reader t source ≤ t.rows
    unfolding over_reader
    reader_bound = (least_is (is_overwritten t source) t.rows).bound

    pub overwrite_shown : over_reader t source < t.rows
        → FirstOverwrite t source (over_reader t source) (over_writer t source (over_reader t source))
        (over_byte t source (over_reader t source) (over_writer t source (over_reader t source)))
    overwrite_shown l = record { reader = l; writer = reader_hit l; broken = nth_hit y z (writer_hit y (reader_hit l)); first = first }
      where
        y : ℕ
        y = over_reader t source

        z : ℕ
        z = over_writer t source y

        same : (u v c : ℕ) → y ≡ u → v < t.rows → overwrites t source u v c ≡ true → (z < v) ⊎ ((z ≡ v) × (over_byte t source y z ≤ c))
        same u v c e m h =
            let k : overwrites t source y v c ≡ true = subst (λ (a : ℕ). overwrites t source a v c ≡ true) (sym e) h in
            ⊎_elim (λ q. inr (q, (nth_low y z c l (subst (λ (a : ℕ). overwrites t source y a c ≡ true) (sym q) k)).1)) (λ q. inl q)
            (eq-or-lt_of_le (writer_low y v c l k))

        first : (u v c : ℕ) → u < t.rows → v < t.rows → overwrites t source u v c ≡ true
            → (y < u) ⊎ ((y ≡ u) × ((z < v) ⊎ ((z ≡ v) × (over_byte t source y z ≤ c))))
        first u v c l m h = ⊎_elim (λ e. inr (e, same u v c e m h)) (λ q. inl q) (eq-or-lt_of_le (reader_low u v c l m h))

    pub overwritten_is : (over_reader t source < t.rows) ↔ Overwritten t source
    overwritten_is = (
      λ l. let s = overwrite_shown l in (_, _, _, s.reader, s.writer, s.broken),
      λ w. let p = reader_low w.0 w.1 w.2 w.3 w.4 w.5 in let q = w.3 in omega arith,
    )

    -- the test decides consistency
    pub consistent_is : (consistent t source ≡ true) ↔ Consistent t source
    unfolding consistent
    consistent_is = (
      λ e. (
        acyclic_is.0 (eqb-true _ _ (split e).0),
        λ w. let p = overwritten_is.1 w in let q = eqb-true (over_reader t source) t.rows (split e).1 in omega arith,
      ),
      λ c. and_true (eq-eqb _ _ (acyclic_is.1 c.0)) (eq-eqb _ _ (none c.1)),
    )
      where
        none : (Overwritten t source → ⊥) → over_reader t source ≡ t.rows
        none f = ⊎_elim (λ e. e) (λ l. absurd (f (overwritten_is.0 l))) (eq-or-lt_of_le reader_bound)

-- ---- the axioms read the sources of the table's own rows alone

module _ (t : Table) (a b : ℕ → ℕ) (same : (i : ℕ) → i < t.rows → a i ≡ b i) where
  edge_cong : (x y : ℕ) → x < t.rows → y < t.rows → edge t b x y ≡ edge t a x y
  unfolding edge edge_number reads_from from_reads
  edge_cong x y l m = rw (same x l, same y m) refl

  overwrites_cong : (y z c : ℕ) → y < t.rows → overwrites t b y z c ≡ overwrites t a y z c
  unfolding overwrites
  overwrites_cong y z c l = rw (same y l) refl

  pub consistent_cong : Consistent t a → Consistent t b
  consistent_cong c = (
    λ w. c.0 (w.0, w.1, reach_cong (edge t b) (edge t a) t.rows edge_cong w.1 w.1 w.2),
    λ w. c.1 (w.0, w.1, w.2, w.3, w.4, sym (overwrites_cong w.0 w.1 w.2 w.3) ∙ w.5),
  )
