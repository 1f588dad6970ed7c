-- Two rows that conflict, and the bytes at which they have no order, as bits. Assumes nothing.
use Rattle.std.specs.Prelude.{◌≡◌, refl, Bool, true, not, List, ℕ, ◌+◌, ◌-◌, ◌*◌, ◌/◌, ◌%◌, ◌^◌, ◌<◌, get_or}
use Rattle.std.proofs.Math.Path.{sym, ap}
use Rattle.std.proofs.Common.{ap₂, subst, ◌∙◌, arith, pow-add}
use Rattle.std.proofs.Math.Bool.{false}
use Rattle.std.proofs.Math.Logic.{⊎_elim}
use Rattle.std.proofs.Math.Nat.{div-div-eq-div-mul}
use Rattle.std.proofs.Math.Decide.{dec_lt}
use Rattle.std.proofs.Math.Dec.{ltb, leb}
use Rattle.std.specs.Int.Bits.{bit_and, bit_or, bit_xor}
use Rattle.std.proofs.lemmas.Nat.{xor_lt, and_le_l}
use Rattle.std.specs.Int.Count.{count_trailing_zeros}
use borrow.Author.Tests.{lt-ltb, le-ltb, ltb-true, ne_eqb}
use Rattle.finite.specs.Logic.{◌and◌, ◌or◌, bool_ext, split, and_true, and_on, and_false_left, not_in, not_both, or_left, or_right, or_cases, which}
use Rattle.finite.specs.Below.{least, least_is, least_off, least_unique}
use Rattle.model.specs.Limits.{ROWS, LONGEST, BYTES}
use Rattle.model.specs.Row.{access, writes, touches}
use Rattle.model.specs.Table.{Table}
use Rattle.model.specs.Scope.{mutually}
use Rattle.model.specs.Location.{common, before}
use Rattle.model.specs.Edge.{before_nth}
use Rattle.model.specs.Race.{nth, clash, conflict, unordered, unordered_nth}
use Rattle.model_laws.specs.PairLaws.{overlap_is, inside_out, common_out}
use Rattle.bits.specs.Bit.{bit, bit_of, bit_of_or, bit_of_zero}
use Rattle.bits.specs.Cube.{cube_bit}
use Rattle.work_area.specs.Regions.{LOCATION, PAIRS, PAIR, OVERLAP}
use Rattle.work_area.specs.Mask.{mask_at}
use Rattle.work_area.specs.State.{overlaps}
use Rattle.work_sets.specs.Lowest.{Lowest, lowest_is}
use Rattle.sets_of_rows.specs.declared.Set.{Set}
use Rattle.sets_of_rows.specs.Member.{in_set}
use Rattle.sets_of_rows.specs.Kept.{set_at}
use Rattle.sets_of_rows.specs.Rows.{Rows, rows_at, rows_cong, rows_cut, rows_and, rows_less}
use Rattle.sets_of_rows.specs.Word.{bit_of_cut, bit_of_less, bit_of_small}
use Rattle.sets_of_table.specs.Fit.{Fit}
use Rattle.sets_of_table.specs.Tested.{WRITES}
use Rattle.sets_of_table.specs.Known.{says_rows}
use Rattle.sets_grids.specs.Grid.{grid_at}
use Rattle.sets_grids.specs.Given.{Given}
use Rattle.sets_grids.specs.Location.{Judging, Judged}
use Rattle.model_placing.specs.Judge.{bit_at, bit_is}
use Rattle.sets_bytes.specs.Masks.{Mask, shared_bit, moved_bit}
use Rattle.sets_races.specs.Sums.{above}

-- ---- definitions

-- row y comes after x, conflicts with it, and isn't mutually-ordered with it
unfoldable pub open_after : Table → ℕ → ℕ → Bool
open_after t x y = above (conflict t) x y and not (mutually t x y)

-- the rows after x that share bytes with it
unfoldable pub over_after : Table → ℕ → ℕ → Bool
over_after t x y = overlaps t x y and (ltb x y and ltb y ROWS)

-- ---- laws

pub open_conflict : (t : Table) (x y : ℕ) → open_after t x y ≡ true → conflict t x y ≡ true
unfolding open_after above
open_conflict t x y e = (split (split e).0).1

-- ---- laws: rows that conflict

module _ {t : Table} {n i : ℕ} {s w : List ℕ} (g : Given t n s w) (j : Judging t n w) (l : i < n) (a : access (t.row i) ≡ true) where
  over_access : (k : ℕ) → k < n → overlaps t i k ≡ true → access (t.row k) ≡ true
  unfolding overlaps touches
  over_access k m e = ⊎_elim (λ h. h) (λ h. absurd (no h)) (which (access (t.row k)))
    where
      no : access (t.row k) ≡ false → ⊥
      no h =
          let b = (overlap_is (t.row i) (t.row k)).0 e in
          let c = inside_out (t.row k).start (t.row k).size b.0 b.2 in
          let lo = c.0 in
          let hi = c.1 in
          let r = g.opened.rows in
          let z = g.opened.fit.empty k (omega arith) h in
          absurd (omega arith)

  pub over_rows : {x z : Set} (y : Set) → x ≡ set_at w (OVERLAP + 2 * i) → ((k : ℕ) → in_set y k ≡ (ltb i k and ltb k ROWS))
      → ((k : ℕ) → in_set z k ≡ (in_set x k and in_set y k)) → Rows n (over_after t i) z
  unfolding over_after
  over_rows {x} {z} y e up both =
      rows_cut (λ k. ltb i k and ltb k ROWS) (grid_at j.overlapping l e) (λ k. both k ∙ ap (λ (b : Bool). in_set x k and b) (up k))

  conflict_by : (k : ℕ) → k < n → over_after t i k ≡ true → (writes (t.row i) or writes (t.row k)) ≡ true → above (conflict t) i k ≡ true
  unfolding over_after above conflict clash overlaps
  conflict_by k m e o =
      let u = split e in
      let v = split u.1 in
      let x = ltb-true i k v.0 in
      and_true v.0 (and_true (not_in (ne_eqb i k (λ q. absurd (omega arith)))) (and_true (and_true (and_true a (over_access k m u.0)) o) u.0))

  conflict_out : (k : ℕ) → k < n → above (conflict t) i k ≡ true → (over_after t i k ≡ true) × ((writes (t.row i) or writes (t.row k)) ≡ true)
  unfolding over_after above conflict clash overlaps
  conflict_out k m e =
      let u = split e in
      let v = split (split u.1).1 in
      let f = g.opened.fit.few in
      let r = g.opened.rows in
      (and_true v.1 (and_true u.0 (lt-ltb k ROWS (omega arith))), (split v.0).1)

  pub writer_rows : {x z : Set} {b : Bool} → x ≡ set_at s WRITES → b ≡ in_set x i → b ≡ true → Rows n (over_after t i) z → Rows n (above (conflict t) i) z
  writer_rows {x} e f h r =
      let u = (split (sym ((rows_at e (says_rows g.opened.known.tested.accesses.writes)).is i) ∙ sym f ∙ h)).1 in
      rows_cong (λ k m. bool_ext _ _ (λ o. conflict_by k m o (or_left _ u)) (λ o. (conflict_out k m o).0)) r

  pub reader_rows : {x z y : Set} {b : Bool} → x ≡ set_at s WRITES → b ≡ in_set x i → b ≡ false → Rows n (over_after t i) z
      → ((k : ℕ) → in_set y k ≡ (in_set z k and in_set x k)) → Rows n (above (conflict t) i) y
  reader_rows {x} e f h r both =
      rows_cong (λ k m. bool_ext _ _ (λ o. conflict_by k m (split o).0 (or_right _ (split o).1)) (λ o. let c = conflict_out k m o in and_true c.0 (back k c.1)))
      (rows_and r writers both)
    where
      writers : Rows n (λ k. writes (t.row k)) x
      writers = rows_at e (says_rows g.opened.known.tested.accesses.writes)

      silent : writes (t.row i) ≡ false
      silent = sym (writers.is i ∙ and_on _ _ (lt-ltb i n l)) ∙ sym f ∙ h

      back : (k : ℕ) → (writes (t.row i) or writes (t.row k)) ≡ true → writes (t.row k) ≡ true
      back k o = ⊎_elim (λ q. not_both q silent) (λ q. q) (or_cases (writes (t.row i)) (writes (t.row k)) o)

  -- less those mutually-ordered with i
  pub open_rows : {x y z : Set} → Rows n (above (conflict t) i) x → y ≡ set_at w (0 + 2 * i) → ((k : ℕ) → in_set z k ≡ (in_set x k and not (in_set y k)))
      → Rows n (open_after t i) z
  unfolding open_after
  open_rows r e but = rows_less r (grid_at j.mutuals l e) but

-- ---- laws: the bits of a pair

shr_is : (m s k : ℕ) → bit_of (m / 2 ^ s) k ≡ bit_of m (s + k)
unfolding bit_of
shr_is m s k = rw (div-div-eq-div-mul m (2 ^ s) (2 ^ k), pow-add 2 s k) refl

mask_bit : (w : List ℕ) (at k : ℕ) → at % 16 ≡ 0 → k < 16 → bit_of (mask_at w at) k ≡ bit w (at + k)
unfolding mask_at bit
mask_bit w at k a l =
    let q : (at + k) / 64 ≡ at / 64 = omega arith in
    let r : (at + k) % 64 ≡ at % 64 + k = omega arith in
    bit_of_cut (get_or w (at / 64) 0 / 2 ^ (at % 64)) 16 k l ∙ shr_is (get_or w (at / 64) 0) (at % 64) k
    ∙ sym (ap₂ (λ (c d : ℕ). bit_of (get_or w c 0) d) q r)

pub mask_low : (w : List ℕ) (at : ℕ) → mask_at w at < 65536
unfolding mask_at
mask_low w at = omega arith

shape : (a b u v p q : Bool) → a ≡ true → b ≡ true → ((u and v) and not (p or q)) ≡ (a and b and u and v and not p and not q)
unfolding ◌and◌ ◌or◌
shape a b u v p q e f = rw (e, f) (go u v p q)
  where
    go : (u v p q : Bool) → ((u and v) and not (p or q)) ≡ (true and true and u and v and not p and not q)
    go true true true q = refl
    go true true false q = refl
    go true false p q = refl
    go false v p q = refl

assoc : (a b c : Bool) → (a and (b and c)) ≡ (a and b and c)
unfolding ◌and◌
assoc true b c = refl
assoc false b c = refl

both : (t : Table) (x y : ℕ) → conflict t x y ≡ true → (access (t.row x) ≡ true) × (access (t.row y) ≡ true)
unfolding conflict clash
both t x y c = split (split (split (split c).1).0).0

final : (t : Table) (x y k : ℕ) → conflict t x y ≡ true → (shared_bit t x y k and not (before_nth t x y k or before t y x (nth t x k))) ≡ unordered_nth t x y k
unfolding shared_bit before_nth unordered_nth unordered common
final t x y k c = let a = both t x y c in shape _ _ _ _ _ _ a.0 a.1

module _ {t : Table} {n : ℕ} {w : List ℕ} (j : Judged t n w) where
  pair_bit : (x y k v : ℕ) → x < n → y < n → k < 16 → v ≡ mask_at w (LOCATION * 64 + x * PAIRS + y * PAIR) → bit_of v k ≡ before_nth t x y k
  pair_bit x y k v l m o e =
      ap (λ (z : ℕ). bit_of z k) e ∙ mask_bit w (LOCATION * 64 + x * PAIRS + y * PAIR) k (omega arith) o
      ∙ cube_bit j.judging.location (LOCATION * 64 + x * PAIRS + y * PAIR + k) x y k refl l m o

  -- past sixteen there is none
  pair_cut : (x y d v : ℕ) → x < n → y < n → v ≡ mask_at w (LOCATION * 64 + x * PAIRS + y * PAIR) → bit_of v d ≡ (ltb d LONGEST and before_nth t x y d)
  pair_cut x y d v l m e = go (dec_lt d 16)
    where
      go : Dec (d < 16) → bit_of v d ≡ (ltb d LONGEST and before_nth t x y d)
      go (yes o) = pair_bit x y d v l m o e ∙ sym (and_on (ltb d LONGEST) (before_nth t x y d) (lt-ltb d LONGEST o))
      go (no o) =
          bit_of_small v 16 d (subst (λ (z : ℕ). z < 65536) (sym e) (mask_low w _)) (omega arith)
          ∙ sym (and_false_left (ltb d LONGEST) (before_nth t x y d) (le-ltb d LONGEST (omega arith)))

  moved_is : (x z k v : ℕ) → x < n → z < n → v ≡ mask_at w (LOCATION * 64 + x * PAIRS + z * PAIR) → moved_bit t v x z k ≡ before t x z (nth t z k)
  unfolding moved_bit bit_at
  moved_is x z k v l m e =
      let r = j.fitting.rows in
      ap (λ (b : Bool). leb (t.row x).start (nth t z k) and b) (pair_cut x z (nth t z k - (t.row x).start) v l m e)
      ∙ assoc (leb (t.row x).start (nth t z k)) (ltb (nth t z k - (t.row x).start) LONGEST) (before_nth t x z (nth t z k - (t.row x).start))
      ∙ sym (bit_is t j.fitting.fit.sized x z (nth t z k) (omega arith))

  pub unordered_mask : (x y all m v b : ℕ) → x < n → y < n → conflict t x y ≡ true → Mask (shared_bit t x y) all
      → m ≡ mask_at w (LOCATION * 64 + x * PAIRS + y * PAIR) → v ≡ mask_at w (LOCATION * 64 + y * PAIRS + x * PAIR) → Mask (moved_bit t v y x) b
      → Mask (unordered_nth t x y) (bit_xor all (bit_and all (bit_or m b)))
  unordered_mask x y all m v b l o c shared e f moved =
      record {
        low = xor_lt 16 all (bit_and all (bit_or m b)) shared.low (let h = and_le_l all (bit_or m b) in let i = shared.low in omega arith);
        is = λ k h.
            bit_of_less all (bit_or m b) k
            ∙ ap₂ (λ (p q : Bool). p and not q) (shared.is k h)
            (bit_of_or m b k ∙ ap₂ ◌or◌ (pair_bit x y k m l o h e) (moved.is k h ∙ moved_is y x k v o l f))
            ∙ final t x y k c;
      }

-- ---- laws: the lowest bit

module _ {p : ℕ → Bool} {m : ℕ} (h : Mask p m) where
  pub mask_empty : m ≡ 0 → least LONGEST p ≡ LONGEST
  mask_empty e = least_off p LONGEST (λ k l. sym (h.is k l) ∙ ap (λ (z : ℕ). bit_of z k) e ∙ bit_of_zero k)

  pub mask_first : 0 < m → (count_trailing_zeros 64 m < LONGEST) × (least LONGEST p ≡ count_trailing_zeros 64 m)
  mask_first l = (small (dec_lt t LONGEST), least_unique p LONGEST t (small (dec_lt t LONGEST)) (sym (h.is t (small (dec_lt t LONGEST))) ∙ f.hit) (λ k o. sym (h.is k (omega (arith, o, small (dec_lt t LONGEST)))) ∙ f.miss k o))
    where
      t : ℕ
      t = count_trailing_zeros 64 m

      f : Lowest m t
      f = lowest_is 64 m l (let u = h.low in omega arith)

      small : Dec (t < LONGEST) → t < LONGEST
      small (yes o) = o
      small (no o) = not_both f.hit (bit_of_small m 16 t h.low (omega arith))

-- the byte fits in 16 bits
pub byte_fits : (t : Table) (x y k : ℕ) → Fit t → x < t.rows → unordered_nth t x y k ≡ true → (t.row x).start + k < BYTES
unfolding unordered_nth unordered touches
byte_fits t x y k f l e =
    let c = common_out (t.row x) (t.row y) (nth t x k) (split (split e).0).0 in
    let i = (inside_out (t.row x).start (t.row x).size (nth t x k) c.2).1 in
    let b = f.ended x l c.0 in
    omega arith

-- that of the lowest bit does
pub byte_at : (t : Table) (x y : ℕ) {m : ℕ} → Fit t → x < t.rows → Mask (unordered_nth t x y) m → 0 < m → (t.row x).start + count_trailing_zeros 64 m < BYTES
byte_at t x y f l h p =
    let q = mask_first h p in
    byte_fits t x y _ f l (subst (λ (k : ℕ). unordered_nth t x y k ≡ true) q.1 ((least_is (unordered_nth t x y) LONGEST).hit (subst (λ (k : ℕ). k < LONGEST) (sym q.1) q.0)))
