-- A fill's choice by sets of rows and the bits of pairs. Assumes nothing.
use Rattle.std.specs.Prelude.{◌≡◌, Bool, true, false, not, List, ℕ, ◌+◌, ◌-◌, ◌*◌, ◌≤◌, ◌<◌}
use Rattle.std.proofs.Math.Path.{refl, sym, ap, ap₂}
use Rattle.std.proofs.Common.{subst, ◌∙◌, arith}
use Rattle.std.proofs.Math.Logic.{⊎_elim}
use Rattle.std.proofs.Math.Dec.{ltb}
use Rattle.std.specs.Int.Bits.{bit_and, bit_xor}
use Rattle.std.proofs.lemmas.Nat.{xor_lt, and_le_l}
use borrow.Author.Tests.{ltb-true, lt-ltb, le-leb, eqb-true}
use Rattle.finite.specs.Logic.{◌and◌, ◌or◌, bool_ext, split, and_true, and_same, or_cases, or_left, or_right, not_so, not_both, not_in, not_out, which}
use Rattle.finite.specs.Below.{any_below, any_in, any_out, any_off, any_not, least, least_is}
use Rattle.model.specs.declared.Row.{Row}
use Rattle.model.specs.Limits.{ROWS, LONGEST}
use Rattle.model.specs.Row.{access, plain_read, writes, touches, covers}
use Rattle.model.specs.Table.{Table}
use Rattle.model.specs.Scope.{follows}
use Rattle.model.specs.Location.{before}
use Rattle.model.specs.Race.{nth}
use Rattle.model.specs.Edge.{before_some}
use Rattle.model.specs.TableFault.{writer_fits}
use Rattle.model.specs.Fill.{not_before_at, written_by, written, overwrites_between, between, candidate}
use Rattle.model_laws.specs.PairLaws.{overlap_is, inside_in, inside_out, common_out}
use Rattle.model_laws.specs.RaceLaws.{Sized}
use Rattle.model_laws.specs.ChoiceLaws.{before_some_lem}
use Rattle.model_placing.specs.Whole.{shared_at, before_shared, shared_common, some_in}
use Rattle.model_placing.specs.Judge.{bit_is, over_bit}
use Rattle.work_area.specs.Regions.{LOCATION, PAIR, PAIRS, OVERLAP}
use Rattle.work_area.specs.State.{overlaps}
use Rattle.work_area.specs.Mask.{mask_at}
use Rattle.sets_of_rows.specs.declared.Set.{Set}
use Rattle.sets_of_rows.specs.Member.{in_set}
use Rattle.sets_of_rows.specs.Kept.{set_at}
use Rattle.sets_of_rows.specs.Word.{bit_of_less}
use Rattle.sets_of_rows.specs.Rows.{Rows, rows_at, rows_in_lem, rows_and, rows_cut, rows_cong}
use Rattle.sets_of_table.specs.Says.{says_kind}
use Rattle.sets_of_table.specs.Tested.{WRITES}
use Rattle.sets_of_table.specs.Known.{Opened, says_rows}
use Rattle.sets_bytes.specs.Masks.{Mask, shared_bit, moved_bit}
use Rattle.sets_grids.specs.Regions.{SOME, LATER}
use Rattle.sets_grids.specs.Grid.{grid_at}
use Rattle.sets_grids.specs.Filling.{member_in}
use Rattle.sets_grids.specs.RowThat.{RowThat}
use Rattle.sets_grids.specs.Location.{Judging, Judged}
use Rattle.find_sources.specs.Choice.{missed, fitting}
use Rattle.sets_overwritten.specs.Over.{always, moved_bit_lem, lowest_bit, no_bit, cut_found, cut_none}

-- ---- definitions

-- what the choice of the read y is made from: the writers before it, and location order
pub record Choosing (t : Table) (n y : ℕ) (writers : Set) (w : List ℕ) : Type 0 where
  pub judged : Judged t n w
  pub reader : RowThat access t.row n y
  pub earlier : Rows n (written_by t y) writers

-- y is in SOME's row z
unfoldable pub in_column : List ℕ → ℕ → ℕ → Bool
in_column w y z = in_set (set_at w (SOME + 2 * z)) y

-- what the searches look for, of n rows
unfoldable pub between_in : Table → ℕ → ℕ → ℕ → ℕ → Bool
between_in t n y s z = ltb z n and between t y s z

unfoldable pub candidate_in : Table → ℕ → ℕ → ℕ → Bool
candidate_in t n y s = ltb s n and candidate t y s

-- ---- laws: the writers before a row

pub in_column_lem : (w : List ℕ) (y z : ℕ) {x : Set} {b : Bool} → x ≡ set_at w (SOME + 2 * z) → b ≡ in_set x y → b ≡ in_column w y z
unfolding in_column
in_column_lem w y z e f = f ∙ ap (λ (v : Set). in_set v y) e

-- a row that is ordered before y shares bytes with it
some_over : (t : Table) (z y : ℕ) → before_some t z y ≡ true → overlaps t y z ≡ true
unfolding overlaps
some_over t z y e =
    let b = before_some_lem t z y e in
    let c = common_out (t.row z) (t.row y) b.0 (shared_common t z y b.0 (before_shared t z y b.0 b.1)) in
    (overlap_is (t.row y) (t.row z)).1 (b.0, c.3, c.2)

pub writers_rows : {t : Table} {n : ℕ} {s w : List ℕ} → Opened t n s → Judging t n w → (y : ℕ) (a b x r : Set) → y < n → a ≡ set_at w (OVERLAP + 2 * y) → b ≡ set_at s WRITES
    → ((j : ℕ) → in_set x j ≡ (in_set a j and in_set b j)) → ((j : ℕ) → in_set r j ≡ (in_set x j and in_column w y j)) → Rows n (written_by t y) r
unfolding written_by in_column
writers_rows {t} {n} {s} {w} o g y a b x r l a_is b_is x_is r_is =
    rows_cong same
    (rows_cut (λ j. in_set (set_at w (SOME + 2 * j)) y)
    (rows_and (grid_at g.overlapping l a_is) (rows_at b_is (says_rows o.known.tested.accesses.writes)) x_is) r_is)
  where
    column : (j : ℕ) → j < n → in_set (set_at w (SOME + 2 * j)) y ≡ before_some t j y
    column j m = rows_in_lem (g.some.row j m) y l

    same : (j : ℕ) → j < n → ((overlaps t y j and writes (t.row j)) and in_set (set_at w (SOME + 2 * j)) y) ≡ (writes (t.row j) and before_some t j y)
    same j m =
        bool_ext _ _ (λ e. let u = split e in and_true (split u.0).1 (sym (column j m) ∙ u.1))
        (λ e. let u = split e in and_true (and_true (some_over t j y u.1) u.0) (column j m ∙ u.1))

pub written_some : (t : Table) {n : ℕ} (y : ℕ) {x : Set} (b : Bool) → t.rows ≡ n → n ≤ ROWS → Rows n (written_by t y) x → b ≡ any_below ROWS (in_set x) → b ≡ written t y
unfolding written
written_some t {n} y {x} b r few h e = e ∙ bool_ext _ _ forth back
  where
    forth : any_below ROWS (in_set x) ≡ true → any_below t.rows (written_by t y) ≡ true
    forth f =
        let z = any_out (in_set x) ROWS f in
        let m = member_in z.0 h z.2 in
        let l = m.0 in
        any_in (written_by t y) t.rows z.0 (omega arith) m.1

    back : any_below t.rows (written_by t y) ≡ true → any_below ROWS (in_set x) ≡ true
    back f =
        let z = any_out (written_by t y) t.rows f in
        let l = z.1 in
        any_in (in_set x) ROWS z.0 (omega arith) (rows_in_lem h z.0 (omega arith) ∙ z.2)

-- ---- laws: the bytes of y at which s isn't ordered before it

pub missed_mask : (t : Table) {n : ℕ} {w : List ℕ} (rows_are : t.rows ≡ n) (few : n ≤ ROWS) (judging : Judging t n w) (sized : Sized t) (s y m a all : ℕ)
    → s < n → y < n → m ≡ mask_at w (LOCATION * 64 + s * PAIRS + y * PAIR) → Mask (moved_bit t m s y) a → Mask (shared_bit t y y) all
    → Mask (not_before_at t y s) (bit_xor all (bit_and all a))
unfolding not_before_at shared_bit
missed_mask t rows_are few judging sized s y m a all ls ly e moved own =
    record {
      low = xor_lt 16 all (bit_and all a) own.low (let h = and_le_l all a in let i = own.low in omega arith);
      is = λ k h.
          bit_of_less all a k
          ∙ ap₂ (λ (p q : Bool). p and not q) (own.is k h ∙ and_same (touches (t.row y) (nth t y k)))
          (moved.is k h ∙ moved_bit_lem t rows_are few judging s y y k m ls ly e ∙ sym (bit_is t sized s y (nth t y k) (omega (arith, rows_are))));
    }

-- ---- laws: a writer between s and y

module _ {t : Table} {n y s : ℕ} {writers : Set} {w : List ℕ} (c : Choosing t n y writers w) (ls : s < n) where
  over_is : (z k : ℕ) → z < n → over_bit t (always s) y z k ≡ overwrites_between t y s z k
  unfolding over_bit overwrites_between
  over_is z k lz =
      let r = c.judged.fitting.rows in
      ap₂ ◌and◌ (sym (bit_is t c.judged.fitting.fit.sized s z (nth t y k) (omega arith))) (sym (bit_is t c.judged.fitting.fit.sized z y (nth t y k) (omega arith)))

  few : n ≤ ROWS
  few = let r = c.judged.fitting.rows in let f = c.judged.fitting.fit.few in omega arith

  -- those that follow s
  pub later_rows : {x z : Set} → x ≡ set_at w (LATER + 2 * s) → ((j : ℕ) → in_set z j ≡ (in_set writers j and in_set x j)) → Rows n (λ j. written_by t y j and follows t s j) z
  later_rows e f = rows_and c.earlier (grid_at c.judged.judging.laters ls e) f

  pub later_hit : {x : Set} → Rows n (λ j. written_by t y j and follows t s j) x → any_below ROWS (in_set x) ≡ true → any_below n (between t y s) ≡ true
  unfolding between written_by
  later_hit {x} h e =
      let z = any_out (in_set x) ROWS e in
      let m = member_in z.0 h z.2 in
      let u = split m.1 in
      let v = split u.0 in
      any_in (λ j. writes (t.row j) and ((follows t s j and before_some t j y) or any_below LONGEST (overwrites_between t y s j))) n z.0 m.0
      (and_true v.0 (or_left _ (and_true u.1 v.1)))

  module _ {x : Set} (later : Rows n (λ j. written_by t y j and follows t s j) x) (none : any_below ROWS (in_set x) ≡ false) where
    -- none follows s: what comes between does so at a byte
    hidden : (z : ℕ) → z < n → between t y s z ≡ true → (writes (t.row z) ≡ true) × (any_below LONGEST (overwrites_between t y s z) ≡ true)
    unfolding between written_by
    hidden z l e =
        let u = split e in
        let f = few in (
          u.0,
          ⊎_elim
              (λ q. let v = split q in not_both (any_in (in_set x) ROWS z (omega arith) (rows_in_lem later z l ∙ and_true (and_true u.0 v.1) v.0)) none)
              (λ q. q) (or_cases (follows t s z and before_some t z y) (any_below LONGEST (overwrites_between t y s z)) u.1),
        )

    -- it is a writer before y that s comes before
    pub between_off : {left : Set} → Rows n (λ j. written_by t y j and before_some t s j) left → (z : ℕ) → in_set left z ≡ false → between_in t n y s z ≡ false
    unfolding between_in overwrites_between written_by
    between_off rows z e =
        not_so _ (λ h.
        let a = split h in
        let l = ltb-true z n a.0 in
        let b = hidden z l a.1 in
        let r = c.judged.fitting.rows in
        let k = any_out (λ k. before t s z (nth t y k) and before t z y (nth t y k)) LONGEST b.1 in
        let v = split k.2 in
        not_both (rows_in_lem rows z l
        ∙ and_true (and_true b.0 (some_in t z y c.judged.fitting.fit.sized (omega arith) (nth t y k.0) v.1)) (some_in t s z c.judged.fitting.fit.sized (omega arith) (nth t y k.0) v.0)) e)

    pub between_clear : (z m : ℕ) → z < n → Mask (over_bit t (always s) y z) m → m ≤ 0 → between_in t n y s z ≡ false
    unfolding between_in
    between_clear z m l mask e =
        not_so _ (λ h.
        let b = hidden z l (split h).1 in
        let k = any_out (overwrites_between t y s z) LONGEST b.1 in
        not_both (over_is z k.0 l ∙ k.2) (no_bit (over_bit t (always s) y z) m mask e k.0 k.1))

  pub some_rows : {x z : Set} → x ≡ set_at w (SOME + 2 * s) → ((j : ℕ) → in_set z j ≡ (in_set writers j and in_set x j)) → Rows n (λ j. written_by t y j and before_some t s j) z
  some_rows e f = rows_and c.earlier (grid_at c.judged.judging.some ls e) f

  pub between_hit : (z m : ℕ) → z < n → (written_by t y z and before_some t s z) ≡ true → Mask (over_bit t (always s) y z) m → 0 < m → any_below n (between t y s) ≡ true
  unfolding between written_by
  between_hit z m l a mask pos =
      let g = lowest_bit (over_bit t (always s) y z) m mask pos in
      let o : least LONGEST (over_bit t (always s) y z) < LONGEST = omega (arith, g.0, g.1) in
      let h = (least_is (over_bit t (always s) y z) LONGEST).hit o in
      any_in (λ j. writes (t.row j) and ((follows t s j and before_some t j y) or any_below LONGEST (overwrites_between t y s j))) n z l
      (and_true (split (split a).0).0 (or_right _ (any_in (overwrites_between t y s z) LONGEST (least LONGEST (over_bit t (always s) y z)) o (sym (over_is z _ l) ∙ h))))

  pub between_none : ROWS ≡ least ROWS (between_in t n y s) → any_below n (between t y s) ≡ false
  unfolding between_in
  between_none e =
      any_not (between t y s) n (λ j l. not_so _ (λ h. let f = few in
      not_both (and_true (lt-ltb j n l) h) ((least_is (λ z. ltb z n and between t y s z) ROWS).miss j (subst (λ (v : ℕ). j < v) e (omega arith)))))

-- ---- laws: candidates

module _ {t : Table} {n y : ℕ} {writers : Set} {w : List ℕ} (c : Choosing t n y writers w) where
  -- s comes before y at each byte
  each : (s : ℕ) → any_below LONGEST (not_before_at t y s) ≡ false → (k : ℕ) → k < (t.row y).size → before t s y (nth t y k) ≡ true
  unfolding not_before_at touches
  each s none k l =
      let r = c.judged.fitting.rows in
      let h = c.reader.low in
      let z = c.judged.fitting.fit.sized y (omega arith) in
      let o = any_off (not_before_at t y s) LONGEST none k (omega arith) in
      ⊎_elim (λ b. b) (λ b. not_both (and_true (inside_in (t.row y).start (t.row y).size (nth t y k) (omega arith) (omega arith)) (not_in b)) o) (which (before t s y (nth t y k)))

  some : 1 ≤ (t.row y).size
  some = let r = c.judged.fitting.rows in let h = c.reader.low in c.judged.fitting.fit.filled y (omega arith) c.reader.is

  -- so it covers y
  fits : (s : ℕ) → s < n → writes (t.row s) ≡ true → any_below LONGEST (not_before_at t y s) ≡ false → writer_fits t y s ≡ true
  unfolding writer_fits covers shared_at touches
  fits s l wr none =
      let r = c.judged.fitting.rows in
      let z = some in
      let first = before_shared t s y (nth t y 0) (each s none 0 (omega arith)) in
      let last = before_shared t s y (nth t y ((t.row y).size - 1)) (each s none ((t.row y).size - 1) (omega arith)) in
      let a = inside_out (t.row s).start (t.row s).size (nth t y 0) (common_out (t.row s) (t.row y) (nth t y 0) (split first).1).2 in
      let b = inside_out (t.row s).start (t.row s).size (nth t y ((t.row y).size - 1)) (common_out (t.row s) (t.row y) (nth t y ((t.row y).size - 1)) (split last).1).2 in
      let lo = a.0 in
      let hi = b.1 in
      and_true (and_true (and_true (lt-ltb s t.rows (omega arith)) (split first).0) wr)
      (and_true (le-leb (t.row s).start (t.row y).start (omega arith)) (le-leb ((t.row y).start + (t.row y).size) ((t.row s).start + (t.row s).size) (omega arith)))

  pub candidate_missed : (s m : ℕ) → Mask (not_before_at t y s) m → 0 < m → false ≡ candidate t y s
  candidate_missed s m mask pos =
      let g = lowest_bit (not_before_at t y s) m mask pos in
      let o : least LONGEST (not_before_at t y s) < LONGEST = omega (arith, g.0, g.1) in
      missed t y s _ refl _ refl (any_in (not_before_at t y s) LONGEST (least LONGEST (not_before_at t y s)) o ((least_is (not_before_at t y s) LONGEST).hit o))

  pub candidate_between : (s m : ℕ) (b : Bool) → in_set writers s ≡ true → Mask (not_before_at t y s) m → m ≤ 0 → b ≡ any_below n (between t y s) → not b ≡ candidate t y s
  unfolding written_by
  candidate_between s m b i mask zero e =
      let h = member_in s c.earlier i in
      let none = any_not (not_before_at t y s) LONGEST (no_bit (not_before_at t y s) m mask zero) in
      fitting t y s _ refl _ refl (fits s h.0 (split h.1).0 none) none b (e ∙ ap (λ (v : ℕ). any_below v (between t y s)) (sym c.judged.fitting.rows))

-- ---- laws: the first

module _ {t : Table} {n y : ℕ} {writers : Set} {w : List ℕ} (c : Choosing t n y writers w) where
  -- a candidate is one of the writers before y
  pub candidate_off : (s : ℕ) → in_set writers s ≡ false → candidate_in t n y s ≡ false
  unfolding candidate_in candidate writer_fits written_by
  candidate_off s e =
      not_so _ (λ h.
      let a = split h in
      let l = ltb-true s n a.0 in
      let r = c.judged.fitting.rows in
      let z = some c in
      let u = split (split a.1).0 in
      let none = not_out (any_below LONGEST (not_before_at t y s)) u.1 in
      not_both (rows_in_lem c.earlier s l ∙ and_true (split (split u.0).0).1 (some_in t s y c.judged.fitting.fit.sized (omega arith) (nth t y 0) (each c s none 0 (omega arith)))) e)

  pub candidate_first : (s : ℕ) → s < n → s ≡ least ROWS (candidate_in t n y) → candidate_in t n y s ≡ true → s ≡ least n (candidate t y)
  unfolding candidate_in
  candidate_first s l e h = sym (cut_found (candidate t y) n s l e h)

  pub candidate_none : ROWS ≡ least ROWS (candidate_in t n y) → n ≡ least n (candidate t y)
  unfolding candidate_in
  candidate_none e = let r = c.judged.fitting.rows in let f = c.judged.fitting.fit.few in sym (cut_none (candidate t y) n (omega arith) e)

  pub candidate_on : (s : ℕ) (b : Bool) → s < n → b ≡ candidate t y s → b ≡ true → candidate_in t n y s ≡ true
  unfolding candidate_in
  candidate_on s b l e h = and_true (lt-ltb s n l) (sym e ∙ h)

  pub candidate_not : (s : ℕ) (b : Bool) → b ≡ candidate t y s → b ≡ false → candidate_in t n y s ≡ false
  unfolding candidate_in
  candidate_not s b e h = not_so _ (λ q. not_both (split q).1 (sym e ∙ h))

-- ---- laws: plain reads

pub plain_has : {t : Table} {n : ℕ} {s : List ℕ} → Opened t n s → (i : ℕ) {x : Set} {b : Bool} → i < n → x ≡ set_at s 0 → b ≡ in_set x i → b ≡ plain_read (t.row i)
unfolding plain_read
plain_has o i l e f = f ∙ rows_in_lem (rows_at e (says_rows (says_kind o.known.tested.ground 0 (omega arith)))) i l

pub plain_access : (r : Row) (a c : Bool) → a ≡ plain_read r → (a and c) ≡ true → access r ≡ true
unfolding plain_read access
plain_access r a c e h = le-leb r.kind 4 (let k = eqb-true r.kind 0 (sym e ∙ (split h).0) in omega arith)
