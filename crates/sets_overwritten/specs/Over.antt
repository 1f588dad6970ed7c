-- Axiom B by sets of rows and the bits of pairs. Assumes nothing.
use Rattle.std.specs.Prelude.{◌≡◌, Bool, true, cond, List, leb, get_or}
use Rattle.std.proofs.Math.Path.{refl, sym, ap, ap₂}
use Rattle.std.proofs.Common.{subst, ◌∙◌, arith, pow-add}
use Rattle.std.proofs.Math.Bool.{false}
use Prim.Native.Nat.{ℕ, ◌+◌, ◌-◌, ◌*◌, ◌/◌, ◌%◌, ◌^◌, ◌≤◌, ◌<◌}
use Rattle.std.proofs.Math.Decide.{dec_lt}
use Rattle.std.proofs.Math.Nat.{div-div-eq-div-mul}
use Rattle.std.proofs.Math.Dec.{ltb}
use Rattle.std.specs.Int.Bits.{bit_and, and_le_l}
use Rattle.std.specs.Int.Count.{count_trailing_zeros}
use borrow.Author.Tests.{ltb-true, lt-ltb, le-ltb}
use Rattle.finite.specs.Logic.{◌and◌, bool_ext, split, and_true, and_on_right, and_false_left, and_false_right, not_so, not_both}
use Rattle.finite.specs.Below.{least, least_is, least_unique, least_off, least_cong}
use Rattle.model.specs.Limits.{ROWS, LONGEST}
use Rattle.model.specs.Row.{reads, writes, touches}
use Rattle.model.specs.Table.{Table}
use Rattle.model.specs.Race.{nth}
use Rattle.model.specs.Edge.{before_nth, before_some, over_reader, over_writer, over_byte}
use Rattle.model_laws.specs.PairLaws.{inside_out, common_out}
use Rattle.model_laws.specs.RaceLaws.{Sized}
use Rattle.model_placing.specs.Whole.{before_shared, shared_common}
use Rattle.model_placing.specs.Judge.{bit_at, bit_is, may_overwrite, over_bit, over_bits, over_row, over_byte_is, over_writer_is, over_reader_is}
use Rattle.bits.specs.Bit.{bit, bit_of}
use Rattle.work_area.specs.Regions.{LOCATION, PAIR, PAIRS, OVERLAP}
use Rattle.work_area.specs.State.{overlaps}
use Rattle.work_area.specs.Mask.{mask_at}
use Rattle.work_sets.specs.Lowest.{Lowest, bit_of_and, lowest_is}
use Rattle.sets_of_rows.specs.declared.Set.{Set}
use Rattle.sets_of_rows.specs.Member.{in_set}
use Rattle.sets_of_rows.specs.Kept.{set_at}
use Rattle.sets_of_rows.specs.Word.{bit_of_cut, bit_of_small}
use Rattle.sets_of_rows.specs.Rows.{Rows, rows_at, rows_in_lem, rows_and}
use Rattle.sets_of_table.specs.Tested.{WRITES}
use Rattle.sets_of_table.specs.Known.{Opened, says_rows}
use Rattle.sets_bytes.specs.Masks.{Mask, shared_bit, moved_bit}
use Rattle.sets_grids.specs.Regions.{SOME}
use Rattle.sets_grids.specs.Grid.{grid_at}
use Rattle.sets_grids.specs.Location.{Judging}
use Rattle.find_race.specs.Bytes.{Bounded}
use Rattle.find_axioms.specs.Overwritten.{over_at, found_overwrite, overwrite_of}
use Rattle.std.specs.declared.option.Option.{Option}
use Rattle.std.specs.declared.option.Option.TheVariants.{None, Some}
use Rattle.model.specs.declared.Overwritten.{Overwritten}

-- ---- definitions

-- every row's source is k
abbrev pub always : ℕ → ℕ → ℕ
always k i = k

-- y, the writer z that overwrites its source k before it, and the lowest byte, where z is a row
unfoldable pub overwrite_by : Table → ℕ → ℕ → ℕ → Option Overwritten
overwrite_by t k y z = cond (ltb z t.rows) (over_at y z (nth t y (least LONGEST (over_bit t (always k) y z)))) None

-- what is shown of the reader y, whose source is the row k
unfoldable pub found_writer : Table → ℕ → ℕ → Option Overwritten
found_writer t k y = overwrite_by t k y (least t.rows (over_bits t (always k) y))

-- what the searches look for, of n rows
unfoldable pub writer_in : Table → ℕ → ℕ → ℕ → ℕ → Bool
writer_in t n k y z = ltb z n and over_bits t (always k) y z

unfoldable pub reader_in : Table → ℕ → (ℕ → ℕ) → ℕ → Bool
reader_in t n source y = ltb y n and over_row t source y

-- a writer may overwrite: SOME of the source, OVERLAP of the reader, WRITES
unfoldable pub may_write : Table → ℕ → ℕ → ℕ → Bool
may_write t k y z = before_some t k z and (overlaps t y z and writes (t.row z))

unfoldable pub is_at : Option Overwritten → Bool
is_at (Some o) = true
is_at None = false

-- ---- laws: the bits of a pair as a number

shr_is : (m s k : ℕ) → bit_of (m / 2 ^ s) k ≡ bit_of m (s + k)
unfolding bit_of
shr_is m s k = rw (div-div-eq-div-mul m (2 ^ s) (2 ^ k), pow-add 2 s k) refl

cut_small : (x : ℕ) → x % 65536 < 65536
cut_small x = omega arith

pub mask_small : (w : List ℕ) (at m : ℕ) → m ≡ mask_at w at → m < 65536
unfolding mask_at
mask_small w at m e = let l = cut_small (get_or w (at / 64) 0 / 2 ^ (at % 64)) in subst (λ (x : ℕ). x < 65536) (sym e) l

mask_bit : (w : List ℕ) (at k : ℕ) → at % 16 ≡ 0 → k < 16 → bit_of (mask_at w at) k ≡ bit w (at + k)
unfolding mask_at bit
mask_bit w at k a l =
    let q : (at + k) / 64 ≡ at / 64 = omega arith in
    let r : (at + k) % 64 ≡ at % 64 + k = omega arith in
    bit_of_cut (get_or w (at / 64) 0 / 2 ^ (at % 64)) 16 k l ∙ shr_is (get_or w (at / 64) 0) (at % 64) k
    ∙ sym (ap₂ (λ (x y : ℕ). bit_of (get_or w x 0) y) q r)

-- the lowest of a mask's bits
pub lowest_bit : (p : ℕ → Bool) (m : ℕ) → Mask p m → 0 < m → (count_trailing_zeros 64 m < LONGEST) × (least LONGEST p ≡ count_trailing_zeros 64 m)
lowest_bit p m mask pos = (low, least_unique p LONGEST (count_trailing_zeros 64 m) low (sym (mask.is _ low) ∙ l.hit) (λ j h. sym (mask.is j (omega (arith, low))) ∙ l.miss j h))
  where
    small : m < 65536
    small = mask.low

    l : Lowest m (count_trailing_zeros 64 m)
    l = lowest_is 64 m pos (omega (arith, small))

    low : count_trailing_zeros 64 m < LONGEST
    low = go (dec_lt (count_trailing_zeros 64 m) LONGEST)
      where
        go : Dec (count_trailing_zeros 64 m < LONGEST) → count_trailing_zeros 64 m < LONGEST
        go (yes o) = o
        go (no o) = not_both l.hit (bit_of_small m 16 (count_trailing_zeros 64 m) small (omega arith))

-- no bit
pub no_bit : (p : ℕ → Bool) (m : ℕ) → Mask p m → m ≤ 0 → (k : ℕ) → k < LONGEST → p k ≡ false
no_bit p m mask z k l = sym (mask.is k l) ∙ ap (λ (x : ℕ). bit_of x k) (let e : m ≡ 0 = omega arith in e) ∙ bit_of_small 0 0 k (omega arith) (omega arith)

-- ---- laws: bytes that are overwritten

module _ (t : Table) {n : ℕ} {w : List ℕ} (rows_are : t.rows ≡ n) (few_are : n ≤ ROWS) (judging : Judging t n w) where
  pub moved_bit_lem : (x z y k m : ℕ) → x < n → z < n → m ≡ mask_at w (LOCATION * 64 + x * PAIRS + z * PAIR) → moved_bit t m x y k ≡ bit_at t x z (nth t y k)
  unfolding moved_bit bit_at
  moved_bit_lem x z y k m l o e = go (dec_lt (nth t y k - (t.row x).start) LONGEST)
    where
      d : ℕ
      d = nth t y k - (t.row x).start

      go : Dec (d < LONGEST)
          → (leb (t.row x).start (nth t y k) and bit_of m d) ≡ (leb (t.row x).start (nth t y k) and ltb d LONGEST and before_nth t x z d)
      go (yes h) =
          ap₂ ◌and◌ (sym (and_on_right (leb (t.row x).start (nth t y k)) (ltb d LONGEST) (lt-ltb d LONGEST h)))
          (ap (λ (v : ℕ). bit_of v d) e ∙ mask_bit w (LOCATION * 64 + x * PAIRS + z * PAIR) d (omega arith) h ∙ judging.location.cell x z d l o h)
      go (no h) =
          and_false_right _ _ (bit_of_small m 16 d (mask_small w _ m e) (omega arith))
          ∙ sym (and_false_left _ _ (and_false_right _ _ (le-ltb d LONGEST (omega arith))))

  pub over_mask : (sized : Sized t) (k z y m o a b c : ℕ) → k < n → z < n → y < n → m ≡ mask_at w (LOCATION * 64 + k * PAIRS + z * PAIR)
      → o ≡ mask_at w (LOCATION * 64 + z * PAIRS + y * PAIR)
      → Mask (moved_bit t m k y) a → Mask (moved_bit t o z y) b → Mask (shared_bit t y y) c → Mask (over_bit t (always k) y z) (bit_and (bit_and a b) c)
  unfolding over_bit shared_bit
  over_mask sized k z y m o a b c lk lz ly m_is o_is first second own =
      record {
        low =
            let p = and_le_l (bit_and a b) c in
            let q = and_le_l a b in
            let r = first.low in
            omega arith;
        is = λ j l.
            bit_of_and (bit_and a b) c j
            ∙ ap₂ ◌and◌
            (bit_of_and a b j ∙ ap₂ ◌and◌ (first.is j l ∙ moved_bit_lem k z y j m lk lz m_is) (second.is j l ∙ moved_bit_lem z y y j o lz ly o_is))
            (own.is j l)
            ∙ own_bytes j;
      }
    where
      own_bytes : (j : ℕ)
          → ((bit_at t k z (nth t y j) and bit_at t z y (nth t y j)) and (touches (t.row y) (nth t y j) and touches (t.row y) (nth t y j)))
          ≡ (bit_at t k z (nth t y j) and bit_at t z y (nth t y j))
      own_bytes j =
          bool_ext _ _ (λ e. (split e).0)
          (λ e.
          let f = bit_is t sized z y (nth t y j) (omega (arith, rows_are)) ∙ (split e).1 in
          let g = common_out (t.row z) (t.row y) (nth t y j) (shared_common t z y (nth t y j) (before_shared t z y (nth t y j) f)) in
          and_true e (and_true g.3 g.3))

-- a byte that is overwritten is a number of 16 bits
pub byte_fits : (t : Table) (k y z j : ℕ) → Sized t → Bounded t → y < t.rows → z < t.rows → over_bit t (always k) y z j ≡ true → (t.row y).start + j < 65536
unfolding over_bit touches
byte_fits t k y z j sized bounded ly lz e =
    let f = bit_is t sized z y (nth t y j) lz ∙ (split e).1 in
    let g = common_out (t.row z) (t.row y) (nth t y j) (shared_common t z y (nth t y j) (before_shared t z y (nth t y j) f)) in
    let h = (inside_out (t.row y).start (t.row y).size (nth t y j) g.3).1 in
    let b = bounded y ly g.1 in
    omega (arith, h, b)

pub byte_lowest : (t : Table) (k y z m : ℕ) → Sized t → Bounded t → y < t.rows → z < t.rows → Mask (over_bit t (always k) y z) m → 0 < m
    → (t.row y).start + count_trailing_zeros 64 m < 65536
byte_lowest t k y z m sized bounded ly lz mask pos =
    let g = lowest_bit (over_bit t (always k) y z) m mask pos in
    let h : least LONGEST (over_bit t (always k) y z) < LONGEST = omega (arith, g.0, g.1) in
    let b = byte_fits t k y z (least LONGEST (over_bit t (always k) y z)) sized bounded ly lz ((least_is (over_bit t (always k) y z) LONGEST).hit h) in
    omega (arith, b, g.1)

-- ---- laws: a search that is cut at n rows

pub cut_found : (p : ℕ → Bool) (n i : ℕ) → i < n → i ≡ least ROWS (λ z. ltb z n and p z) → (ltb i n and p i) ≡ true → least n p ≡ i
cut_found p n i l e h = least_unique p n i l (split h).1 (λ j o. not_so (p j) (λ q. not_both (and_true (lt-ltb j n (omega arith)) q) (miss j o)))
  where
    miss : (j : ℕ) → j < i → (ltb j n and p j) ≡ false
    miss j o = (least_is (λ z. ltb z n and p z) ROWS).miss j (subst (λ (v : ℕ). j < v) e o)

pub cut_none : (p : ℕ → Bool) (n : ℕ) → n ≤ ROWS → ROWS ≡ least ROWS (λ z. ltb z n and p z) → least n p ≡ n
cut_none p n few e = least_off p n (λ j o. not_so (p j) (λ q. not_both (and_true (lt-ltb j n o) q) (miss j (omega arith))))
  where
    miss : (j : ℕ) → j < ROWS → (ltb j n and p j) ≡ false
    miss j o = (least_is (λ z. ltb z n and p z) ROWS).miss j (subst (λ (v : ℕ). j < v) e o)

-- ---- laws: the writer

pub writers_rows : {t : Table} {n : ℕ} {s w : List ℕ} → Opened t n s → Judging t n w → (k y : ℕ) (a b c d x : Set) → k < n → y < n → a ≡ set_at w (OVERLAP + 2 * y) → b ≡ set_at s WRITES
    → ((j : ℕ) → in_set c j ≡ (in_set a j and in_set b j)) → d ≡ set_at w (SOME + 2 * k) → ((j : ℕ) → in_set x j ≡ (in_set d j and in_set c j))
    → Rows n (may_write t k y) x
unfolding may_write
writers_rows o j k y a b c d x lk ly a_is b_is c_is d_is x_is =
    rows_and (grid_at j.some lk d_is) (rows_and (grid_at j.overlapping ly a_is) (rows_at b_is (says_rows o.known.tested.accesses.writes)) c_is) x_is

module _ (t : Table) (n k y : ℕ) where
  may_out : (z : ℕ) → over_bits t (always k) y z ≡ true → (may_write t k y z ≡ true) × (before_some t z y ≡ true)
  unfolding over_bits may_overwrite may_write overlaps
  may_out z e =
      let a = split (split e).0 in
      let b = split (split a.0).1 in
      let c = split b.0 in
      (and_true c.0 (and_true c.1 b.1), a.1)

  pub writer_off : {x : Set} → Rows n (may_write t k y) x → (z : ℕ) → in_set x z ≡ false → writer_in t n k y z ≡ false
  unfolding writer_in
  writer_off rows z e =
      not_so _ (λ h. let a = split h in not_both (rows_in_lem rows z (ltb-true z n a.0) ∙ (may_out z a.1).0) e)

  -- z doesn't come before y, or has no bit left
  pub writer_apart : (z : ℕ) → before_some t z y ≡ false → writer_in t n k y z ≡ false
  unfolding writer_in
  writer_apart z e = not_so _ (λ h. not_both (may_out z (split h).1).1 e)

  pub writer_clear : (z m : ℕ) → Mask (over_bit t (always k) y z) m → m ≤ 0 → writer_in t n k y z ≡ false
  unfolding writer_in over_bits
  writer_clear z m mask e =
      let g = least_off (over_bit t (always k) y z) LONGEST (no_bit (over_bit t (always k) y z) m mask e) in
      and_false_right _ _ (and_false_right _ _ (le-ltb (least LONGEST (over_bit t (always k) y z)) LONGEST (omega (arith, g))))

  pub writer_on : t.rows ≡ n → (z m : ℕ) → k < n → z < n → may_write t k y z ≡ true → before_some t z y ≡ true → Mask (over_bit t (always k) y z) m → 0 < m
      → writer_in t n k y z ≡ true
  unfolding writer_in over_bits may_overwrite may_write overlaps
  writer_on rows_are z m lk lz may some_is mask pos =
      let a = split may in
      let b = split a.1 in
      let g = lowest_bit (over_bit t (always k) y z) m mask pos in
      and_true (lt-ltb z n lz)
      (and_true (and_true (and_true (lt-ltb k t.rows (omega (arith, rows_are))) (and_true (and_true a.0 b.0) b.1)) some_is)
      (lt-ltb (least LONGEST (over_bit t (always k) y z)) LONGEST (omega (arith, g.0, g.1))))

  pub writer_found : t.rows ≡ n → (z m a : ℕ) → z < n → z ≡ least ROWS (writer_in t n k y) → writer_in t n k y z ≡ true → Mask (over_bit t (always k) y z) m → 0 < m
      → a ≡ (t.row y).start → ◌≡◌ {A = Option Overwritten} (over_at y z (a + count_trailing_zeros 64 m)) (found_writer t k y)
  unfolding writer_in found_writer overwrite_by
  writer_found rows_are z m a lz z_is hit mask pos a_is =
      let e : least t.rows (over_bits t (always k) y) ≡ z =
      ap (λ (v : ℕ). least v (over_bits t (always k) y)) rows_are ∙ cut_found (over_bits t (always k) y) n z lz z_is hit in
      let g = lowest_bit (over_bit t (always k) y z) m mask pos in
      let l : z < t.rows = omega (arith, rows_are) in
      rw (e, lt-ltb z t.rows l, g.1, a_is) refl

  pub writer_none : t.rows ≡ n → n ≤ ROWS → ROWS ≡ least ROWS (writer_in t n k y) → ◌≡◌ {A = Option Overwritten} None (found_writer t k y)
  unfolding writer_in found_writer overwrite_by
  writer_none rows_are few none =
      let e : least t.rows (over_bits t (always k) y) ≡ n =
      ap (λ (v : ℕ). least v (over_bits t (always k) y)) rows_are ∙ cut_none (over_bits t (always k) y) n few none in
      let l : t.rows ≤ n = omega (arith, rows_are) in
      rw (e, le-ltb n t.rows l) refl

-- ---- laws: the reader

shown : (b : Bool) (y z c : ℕ) → is_at (cond b (over_at y z c) None) ≡ b
unfolding is_at
shown true y z c = refl
shown false y z c = refl

module _ (t : Table) (source : ℕ → ℕ) (n : ℕ) where
  pub reader_off : {x : Set} → Rows n (λ j. reads (t.row j)) x → (y : ℕ) → in_set x y ≡ false → reader_in t n source y ≡ false
  unfolding reader_in over_row
  reader_off rows y e = not_so _ (λ h. let a = split h in not_both (rows_in_lem rows y (ltb-true y n a.0) ∙ (split a.1).0) e)

  -- the source is no row
  pub reader_source : t.rows ≡ n → (y : ℕ) → n ≤ source y → reader_in t n source y ≡ false
  unfolding reader_in over_row over_bits may_overwrite
  reader_source rows_are y past =
      let g = least_off (over_bits t source y) t.rows (λ z l. none z) in
      and_false_right _ _ (and_false_right _ _ (le-ltb (least t.rows (over_bits t source y)) t.rows (omega (arith, g))))
    where
      none : (z : ℕ) → over_bits t source y z ≡ false
      none z = and_false_left _ _ (and_false_left _ _ (and_false_left _ _ (le-ltb (source y) t.rows (omega (arith, rows_are)))))

  same_writer : (y : ℕ) → least t.rows (over_bits t (always (source y)) y) ≡ least t.rows (over_bits t source y)
  unfolding over_bits may_overwrite over_bit
  same_writer y = least_cong (over_bits t (always (source y)) y) (over_bits t source y) t.rows (λ z l. refl)

  same_byte_lem : (y z : ℕ) → least LONGEST (over_bit t (always (source y)) y z) ≡ least LONGEST (over_bit t source y z)
  unfolding over_bit
  same_byte_lem y z = least_cong (over_bit t (always (source y)) y z) (over_bit t source y z) LONGEST (λ k l. refl)

  is_at_lem : (y : ℕ) (o : Option Overwritten) → o ≡ found_writer t (source y) y → is_at o ≡ ltb (least t.rows (over_bits t source y)) t.rows
  unfolding found_writer overwrite_by
  is_at_lem y o e = ap is_at e ∙ shown _ _ _ _ ∙ ap (λ (z : ℕ). ltb z t.rows) (same_writer y)

  pub reader_none : (y : ℕ) (o : Option Overwritten) → o ≡ found_writer t (source y) y → o ≡ None → reader_in t n source y ≡ false
  unfolding reader_in over_row is_at
  reader_none y o e f = and_false_right _ _ (and_false_right _ _ (sym (is_at_lem y o e) ∙ ap is_at f))

  pub reader_hit : (y : ℕ) (o : Option Overwritten) {a b c : ℕ} → y < n → reads (t.row y) ≡ true → o ≡ found_writer t (source y) y → o ≡ over_at a b c → reader_in t n source y ≡ true
  unfolding reader_in over_row is_at
  reader_hit y o l r e f = and_true (lt-ltb y n l) (and_true r (sym (is_at_lem y o e) ∙ ap is_at f))

  shown_by_lem : (y z : ℕ) → z ≡ least t.rows (over_bits t source y) → z < t.rows → ◌≡◌ {A = Option Overwritten} (found_writer t (source y) y) (over_at y z (nth t y (least LONGEST (over_bit t source y z))))
  unfolding found_writer overwrite_by
  shown_by_lem y z z_is l = rw (same_writer y, ← z_is, lt-ltb z t.rows l, same_byte_lem y z) refl

  pub reader_found : Sized t → t.rows ≡ n → (y : ℕ) (o : Option Overwritten) → y < n → y ≡ least ROWS (reader_in t n source) → reader_in t n source y ≡ true
      → o ≡ found_writer t (source y) y → o ≡ found_overwrite t source
  unfolding reader_in found_overwrite overwrite_of over_row over_bits
  reader_found sized rows_are y o l y_is hit e = e ∙ shown_by_lem y z refl lz ∙ sym there
    where
      z : ℕ
      z = least t.rows (over_bits t source y)

      r : reads (t.row y) ≡ true
      r = (split (split hit).1).0

      lz : z < t.rows
      lz = ltb-true z t.rows (split (split hit).1).1

      may : may_overwrite t source y z ≡ true
      may = (split ((least_is (over_bits t source y) t.rows).hit lz)).0

      reader_is : over_reader t source ≡ y
      reader_is = over_reader_is t sized source ∙ ap (λ (v : ℕ). least v (over_row t source)) rows_are ∙ cut_found (over_row t source) n y l y_is hit

      writer_is : over_writer t source y ≡ z
      writer_is = over_writer_is t sized source y r

      byte_is : over_byte t source y z ≡ nth t y (least LONGEST (over_bit t source y z))
      byte_is = over_byte_is t sized source y z r lz may

      ly : y < t.rows
      ly = omega (arith, l, rows_are)

      there : ◌≡◌ {A = Option Overwritten} (cond (ltb (over_reader t source) t.rows) (over_at (over_reader t source) (over_writer t source (over_reader t source)) (over_byte t source (over_reader t source) (over_writer t source (over_reader t source)))) None)
          (over_at y z (nth t y (least LONGEST (over_bit t source y z))))
      there = rw (reader_is, writer_is, byte_is, lt-ltb y t.rows ly) refl

  pub reader_nothing : Sized t → t.rows ≡ n → n ≤ ROWS → ROWS ≡ least ROWS (reader_in t n source) → ◌≡◌ {A = Option Overwritten} None (found_overwrite t source)
  unfolding reader_in found_overwrite overwrite_of
  reader_nothing sized rows_are few none =
      let e : over_reader t source ≡ n =
      over_reader_is t sized source ∙ ap (λ (v : ℕ). least v (over_row t source)) rows_are ∙ cut_none (over_row t source) n few none in
      let l : t.rows ≤ n = omega (arith, rows_are) in
      rw (e, le-ltb n t.rows l) refl
