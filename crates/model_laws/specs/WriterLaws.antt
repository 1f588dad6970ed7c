-- What admission gives of the ranks of a table's writers, in both versions. Assumes nothing.
use Rattle.std.specs.Prelude.{◌≡◌, Bool, false, not, ◌⊎◌, ◌↔◌, ℕ, suc, ◌≤◌, ◌<◌, ltb}
use Rattle.std.proofs.Math.Path.{refl}
use Rattle.std.proofs.Common.{sym, ◌∙◌, inl, inr, arith, eq-eqb, eqb-true, ltb-true}
use Rattle.std.proofs.Math.Bool.{true}
use Rattle.std.proofs.Math.Logic.{⊎_elim}
use Rattle.std.proofs.Math.Decide.{dec_lt}
use Rattle.finite.specs.Logic.{◌and◌, ◌or◌, split, and_true, which, not_in, not_out, not_so, not_both, or_cases, or_false}
use Rattle.finite.specs.Below.{any_below, any_out, any_off}
use Rattle.model.specs.declared.Row.{Row}
use Rattle.model.specs.Limits.{COUNTS, RUN}
use Rattle.model.specs.Row.{ranked}
use Rattle.model.specs.Table.{Table}
use Rattle.model.specs.Scope.{same_location, age, later}
use Rattle.model.specs.TableFault.{rival, outside, outside_at, begins, unfit}
use Rattle.model_laws.specs.RunLaws.{Fits, outside_run, begins_run, fits, fits_in, fits_out}
use Rattle.model_laws.specs.RankLaws.{Ranks, InRun, ranks_plain, ranks_counted}

-- ---- one start, length and reference

same_out : (r q : Row) → same_location r q ≡ true → (r.start ≡ q.start) × (r.size ≡ q.size) × (r.reference ≡ q.reference)
unfolding same_location
same_out r q e =
    let a = split e in
    let b = split a.0 in
    (eqb-true r.start q.start b.0, eqb-true r.size q.size b.1, eqb-true r.reference q.reference a.1)

same_in : (r q : Row) → r.start ≡ q.start → r.size ≡ q.size → r.reference ≡ q.reference → same_location r q ≡ true
unfolding same_location
same_in r q a b c =
    and_true (and_true (eq-eqb r.start q.start a) (eq-eqb r.size q.size b)) (eq-eqb r.reference q.reference c)

same_self : (r : Row) → same_location r r ≡ true
same_self r = same_in r r refl refl refl

pub same_sym : (r q : Row) → same_location r q ≡ true → same_location q r ≡ true
same_sym r q e = let a = same_out r q e in same_in q r (sym a.0) (sym a.1) (sym a.2)

pub same_trans : (r q p : Row) → same_location r q ≡ true → same_location q p ≡ true → same_location r p ≡ true
same_trans r q p e f =
    let a = same_out r q e in
    let b = same_out q p f in
    same_in r p (a.0 ∙ b.0) (a.1 ∙ b.1) (a.2 ∙ b.2)

module _ (t : Table) where
  -- ---- definitions

  -- rows x and y are atomic writers of one start, length and reference
  abbrev pub Rivals : ℕ → ℕ → Type 0
  Rivals x y = (x < t.rows) × (y < t.rows) × (ranked (t.row x) ≡ true) × (ranked (t.row y) ≡ true) × (same_location (t.row x) (t.row y) ≡ true)

  -- y's rank is later than x's, as the version names it
  abbrev pub After : ℕ → ℕ → Bool
  After x y = later t.counted (t.row y).rank (t.row x).rank

  -- among them, of two different ranks exactly one is later, and later is transitive
  pub record Ordered : Type 0 where
    pub one : (x y : ℕ) → Rivals x y → ((t.row x).rank ≡ (t.row y).rank → ⊥)
        → ((After x y ≡ true) × (After y x ≡ false)) ⊎ ((After x y ≡ false) × (After y x ≡ true))
    pub chain : (x y z : ℕ) → Rivals x y → Rivals y z → After x y ≡ true → After y z ≡ true → After x z ≡ true

  -- ---- laws

  module _ (small : (i : ℕ) → i < t.rows → (t.row i).rank < COUNTS) (fit : (i : ℕ) → i < t.rows → unfit t i ≡ false) where
    -- all rivals up to row i lie in one run
    abbrev Run : ℕ → Type 0
    Run i = (c : ℕ) × (c < COUNTS) × ((j : ℕ) → j ≤ i → rival (t.row i) (t.row j) ≡ true → age (t.row j).rank c < RUN)

    begun : (i m : ℕ) → i < t.rows → m ≤ i → begins t i m ≡ true → Run i
    unfolding begins outside_at outside
    begun i m l h e = ((t.row m).rank, small m (omega arith), λ j k r. near j k r (ℕ-cases j i k))
      where
        off : (any_below i (outside_at t i m) ≡ false) × (outside_at t i m i ≡ false)
        off = or_false _ _ (not_out _ (split e).1)

        ℕ-cases : (j i : ℕ) → j ≤ i → (j < i) ⊎ (j ≡ i)
        ℕ-cases j i k = go (dec_lt j i)
          where
            go : Dec (j < i) → (j < i) ⊎ (j ≡ i)
            go (yes a) = inl a
            go (no a) = inr (omega arith)

        out : (j : ℕ) → (j < i) ⊎ (j ≡ i) → (rival (t.row i) (t.row j) and not (ltb (age (t.row j).rank (t.row m).rank) RUN)) ≡ false
        out j (inl a) = any_off (outside_at t i m) i off.0 j a
        out j (inr a) = rw a off.1

        near : (j : ℕ) → j ≤ i → rival (t.row i) (t.row j) ≡ true → (j < i) ⊎ (j ≡ i) → age (t.row j).rank (t.row m).rank < RUN
        near j k r o =
            ⊎_elim (λ y. ltb-true (age (t.row j).rank (t.row m).rank) RUN y) (λ n. not_both (and_true r (not_in n)) (out j o))
            (which (ltb (age (t.row j).rank (t.row m).rank) RUN))

    run : (i : ℕ) → i < t.rows → t.counted ≡ true → ranked (t.row i) ≡ true → Run i
    unfolding unfit
    run i l c r =
        ⊎_elim (λ e. let m = any_out (begins t i) i e in let h = m.1 in begun i m.0 l (omega arith) m.2) (λ e. begun i i l (omega arith) e)
        (or_cases (any_below i (begins t i)) (begins t i i) fits)
      where
        fits : (any_below i (begins t i) or begins t i i) ≡ true
        fits = ⊎_elim (λ e. e) (λ e. not_both (and_true (and_true c r) (not_in e)) (fit i l)) (which (any_below i (begins t i) or begins t i i))

    -- three rivals in one run
    abbrev Three : ℕ → ℕ → ℕ → Type 0
    Three x y z = (c : ℕ) × (c < COUNTS) × InRun c (t.row x).rank × InRun c (t.row y).rank × InRun c (t.row z).rank

    member : (i j : ℕ) → ranked (t.row j) ≡ true → same_location (t.row i) (t.row j) ≡ true → rival (t.row i) (t.row j) ≡ true
    unfolding rival
    member i j r e = and_true r e

    three : (x y z : ℕ) → t.counted ≡ true → Rivals x y → Rivals y z → Three x y z
    three x y z c p q = go (dec_lt x y) (dec_lt y z) (dec_lt x z)
      where
        xl : x < t.rows
        xl = p.0

        yl : y < t.rows
        yl = p.1

        zl : z < t.rows
        zl = q.1

        xy : same_location (t.row x) (t.row y) ≡ true
        xy = p.4

        yz : same_location (t.row y) (t.row z) ≡ true
        yz = q.4

        from : (i : ℕ) → i < t.rows → ranked (t.row i) ≡ true → x ≤ i → y ≤ i → z ≤ i → same_location (t.row i) (t.row x) ≡ true → Three x y z
        from i below_i is_ranked from_x from_y from_z same =
            let w = run i below_i c is_ranked in
            let ey = same_trans (t.row i) (t.row x) (t.row y) same xy in
            let ez = same_trans (t.row i) (t.row y) (t.row z) ey yz in (
              w.0,
              w.1,
              (small x xl, w.2 x from_x (member i x p.2 same)),
              (small y yl, w.2 y from_y (member i y p.3 ey)),
              (small z zl, w.2 z from_z (member i z q.3 ez)),
            )

        at_x : y ≤ x → z ≤ x → Three x y z
        at_x a b = from x xl p.2 (omega arith) a b (same_self (t.row x))

        at_y : x ≤ y → z ≤ y → Three x y z
        at_y a b = from y yl p.3 a (omega arith) b (same_sym (t.row x) (t.row y) xy)

        at_z : x ≤ z → y ≤ z → Three x y z
        at_z a b = from z zl q.3 a b (omega arith) (same_sym (t.row x) (t.row z) (same_trans (t.row x) (t.row y) (t.row z) xy yz))

        go : Dec (x < y) → Dec (y < z) → Dec (x < z) → Three x y z
        go (yes a) (yes b) d = at_z (omega arith) (omega arith)
        go (yes a) (no b) d = at_y (omega arith) (omega arith)
        go (no a) b (yes d) = at_z (omega arith) (omega arith)
        go (no a) b (no d) = at_x (omega arith) (omega arith)

    self : (x y : ℕ) → Rivals x y → Rivals y y
    self x y p = (p.1, p.1, p.3, p.3, same_self (t.row y))

    pub writers_ordered : Ordered
    writers_ordered = go (which t.counted)
      where
        plain : Ranks (later false) (λ a. a < COUNTS)
        plain = ranks_plain (λ a. a < COUNTS)

        go : (t.counted ≡ true) ⊎ (t.counted ≡ false) → Ordered
        go (inl e) =
            record {
              one = λ x y p n. let w = three x y y e p (self x y p) in rw e ((ranks_counted w.0 w.1).one _ _ w.3 w.2 (λ h. n (sym h)));
              chain = λ x y z p q a b. let w = three x y z e p q in
                  rw e ((ranks_counted w.0 w.1).chain _ _ _ w.4 w.3 w.2 (rw e at b) (rw e at a));
            }
        go (inr e) =
            record {
              one = λ x y p n. rw e (plain.one _ _ (small y p.1) (small x p.0) (λ h. n (sym h)));
              chain = λ x y z p q a b. rw e (plain.chain _ _ _ (small z q.1) (small y p.1) (small x p.0) (rw e at b) (rw e at a));
            }

  -- refusal 15 is as docs/FORMAT.md says it: counted ranks of row i's location, up to row i, fit in no run of consecutive counts
  module _ (small : (i : ℕ) → i < t.rows → (t.row i).rank < COUNTS) (i : ℕ) (l : i < t.rows) where
    abbrev rival_of : ℕ → Bool
    rival_of j = rival (t.row i) (t.row j)

    abbrev rank_of : ℕ → ℕ
    rank_of j = (t.row j).rank

    abbrev pub FitsAt : Type 0
    FitsAt = Fits rival_of rank_of (suc i)

    fits_is : fits rival_of rank_of (suc i) ≡ (any_below i (begins t i) or begins t i i)
    unfolding fits begins_run outside_run begins outside_at outside any_below
    fits_is = refl

    within : (j : ℕ) → j < suc i → rival_of j ≡ true → rank_of j < COUNTS
    within j k r = small j (omega arith)

    own : ranked (t.row i) ≡ true → rival_of i ≡ true
    unfolding rival
    own r = and_true r (same_self (t.row i))

    pub unfit_is : (unfit t i ≡ true) ↔ ((t.counted ≡ true) × (ranked (t.row i) ≡ true) × (FitsAt → ⊥))
    unfolding unfit
    unfit_is = (
      (λ e.
          let a = split e in
          let b = split a.0 in
          (b.0, b.1, λ f. not_both (sym fits_is ∙ fits_in rival_of rank_of (suc i) within i (omega arith) (own b.1) f) (not_out _ a.1))),
      (λ h. and_true (and_true h.0 h.1) (not_in (not_so _ (λ e. h.2 (fits_out rival_of rank_of (suc i) within (fits_is ∙ e)))))),
    )
