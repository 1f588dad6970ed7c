-- The bytes of a public write that a row meets by way of operations of plain rows, as bits of a number. Assumes nothing.
use Rattle.std.specs.Prelude.{◌≡◌, Bool, List, ℕ, ◌+◌, ◌*◌, ◌≤◌, ◌<◌, ltb}
use Rattle.std.proofs.Math.Path.{refl, sym, ap, ap₂}
use Rattle.std.proofs.Common.{subst, ◌∙◌, arith, add-one, lt-ltb, le-ltb, le-leb, ltb-true, eq-eqb, ne_eqb}
use Rattle.std.proofs.Math.Bool.{true, false, not}
use Rattle.std.proofs.Math.Decide.{dec_lt, ℕ_discrete}
use Rattle.std.proofs.Math.Dec.{leb, eqb}
use Rattle.std.specs.Int.Bits.{bit_or, bit_and}
use Rattle.std.proofs.lemmas.Nat.{and_le_l}
use Rattle.std.proofs.lemmas.Bool.{lt-leb}
use Rattle.finite.specs.Logic.{◌and◌, ◌or◌, and_on, and_on_right, and_false_left, and_false_right, and_true, split, bool_ext, or_off, or_assoc, or_left}
use Rattle.finite.specs.Below.{any_below, any_none, any_in, any_out, any_cong}
use Rattle.model.specs.Limits.{ROWS}
use Rattle.model.specs.Row.{access, reads, touches}
use Rattle.model.specs.Table.{Table}
use Rattle.model.specs.Moment.{same_agent}
use Rattle.model.specs.Race.{nth}
use Rattle.model_laws.specs.PairLaws.{eqb_swap}
use Rattle.bits.specs.Bit.{bit_of, bit_of_or}
use Rattle.work_sets.specs.Lowest.{bit_of_and}
use Rattle.model_placing.specs.Leads.{meets, cond_on, cond_off}
use Rattle.model_placing.specs.Elements.{up_to, vis_wide, vis_plain, seen, seen_from}
use Rattle.model_placing.specs.Whole.{narrow, strong_to, wide_seen, part_seen, met_by, narrow_to, part_by}
use Rattle.model_placing.specs.Writer.{wide_in, wide_after, plain_part, wide_after_lem, part_rows}
use Rattle.sets_of_rows.specs.declared.Set.{Set}
use Rattle.sets_of_rows.specs.Member.{in_set}
use Rattle.sets_of_rows.specs.First.{First, first_next, Rest, next}
use Rattle.sets_of_rows.specs.Kept.{set_at}
use Rattle.sets_of_rows.specs.Family
use Rattle.sets_of_rows.specs.Rows.{Rows, rows_at, rows_and, rows_cut, rows_cong, rows_in_lem}
use Rattle.sets_of_rows.specs.Walk.{Walk, walk_begin, walk_turn, walk_end, walk_in}
use Rattle.sets_of_table.specs.Ask.{few}
use Rattle.sets_of_table.specs.Tested.{READS}
use Rattle.sets_of_table.specs.Known.{Opened, says_rows}
use Rattle.sets_bytes.specs.Masks.{Mask, shared_bit}
use Rattle.sets_grids.specs.Regions.{AVAILABLE_TO, VISIBLE_BY}
use Rattle.sets_grids.specs.Available.{shown_to}
use Rattle.sets_grids.specs.Filling.{member_in}
use Rattle.sets_grids.specs.Location.{Locating}
use Rattle.sets_location.specs.declared.part.Available.{Available}
use Rattle.sets_location.specs.Seen.{Among}
use Rattle.sets_location.specs.Elements.{plain_shown, wide_shown, shown_plain, shown_wide, byte_of, byte_to, or_low}
use Rattle.sets_location.specs.Met.{Grasps}
use Rattle.sets_location.specs.Maybe.{narrow_makes}
use Rattle.sets_location.specs.Adds.{Pair, MetBytes}

-- ---- definitions

-- v is a wide visibility operation of x's class before y, by y's agent; a plain one of x's reference up to y
unfoldable pub wide_up : Table → ℕ → ℕ → ℕ → Bool
wide_up t x y v = vis_wide t (t.row x).class v and (eqb (t.row v).agent (t.row y).agent and ltb v y)

unfoldable pub plain_up : Table → ℕ → ℕ → ℕ → Bool
plain_up t x y v = vis_plain t x v and (eqb (t.row v).agent (t.row y).agent and leb v y)

pub record Uptos (t : Table) (n x y : ℕ) (wide plain : Set) : Type 0 where
  pub widely : Rows n (wide_up t x y) wide
  pub plainly : Rows n (plain_up t x y) plain

-- what a makes available is shown by v, of z; and v has x's k-th byte
unfoldable pub shown_in : List ℕ → Set → ℕ → ℕ → Bool
shown_in w z a v = in_set (Family.nth w VISIBLE_BY a) v and in_set z v

unfoldable pub shown_byte : Table → List ℕ → ℕ → Set → ℕ → ℕ → ℕ → Bool
shown_byte t w x z k a v = shown_in w z a v and shared_bit t x v k

-- a, of z, has x's k-th byte, and is shown by a row of `wide`, or by one of `plain` that has the byte too
unfoldable pub byte_seen : Table → List ℕ → ℕ → Set → Set → Set → ℕ → ℕ → Bool
byte_seen t w x wide plain z k a = in_set z a and (shared_bit t x a k and (any_below ROWS (shown_in w wide a) or any_below ROWS (shown_byte t w x plain k a)))

-- m has the bits of q, and those that the numbers below e give
abbrev pub MoreTo : (ℕ → Bool) → (ℕ → ℕ → Bool) → ℕ → ℕ → Type 0
MoreTo q p m e = Mask (λ k. q k or any_below e (p k)) m

-- ---- laws: numbers below others

off_left : (a c : Bool) → a ≡ false → c ≡ (a or c)
unfolding ◌or◌
off_left a c q = rw q refl

any_skip : (p : ℕ → Bool) (k : ℕ) → p k ≡ false → any_below (k + 1) p ≡ any_below k p
unfolding any_below
any_skip p k e = rw add-one (or_off (any_below k p) (p k) e)

any_step : (p : ℕ → Bool) (k : ℕ) → any_below (k + 1) p ≡ (any_below k p or p k)
unfolding any_below
any_step p k = rw add-one refl

-- a test that passes only rows of n
pub any_rows : {n : ℕ} (p q : ℕ → Bool) → n ≤ ROWS → ((v : ℕ) → p v ≡ (ltb v n and q v)) → any_below ROWS p ≡ any_below n q
any_rows {n} p q l e =
    bool_ext _ _
    (λ h.
    let a = any_out p ROWS h in
    let b = split (sym (e a.0) ∙ a.2) in
    any_in q n a.0 (ltb-true a.0 n b.0) b.1)
    (λ h.
    let a = any_out q n h in
    let m = a.1 in
    any_in p ROWS a.0 (omega arith) (e a.0 ∙ and_true (lt-ltb a.0 n m) a.2))

-- ---- laws: a mask that takes in more

module _ (x : Set) (q : ℕ → Bool) (p : ℕ → ℕ → Bool) (off : (i k : ℕ) → in_set x i ≡ false → p k i ≡ false) where
  more_skip : (m i : ℕ) → in_set x i ≡ false → MoreTo q p m i → MoreTo q p m (i + 1)
  more_skip m i e u = record { low = u.low; is = λ k l. u.is k l ∙ sym (ap (λ (b : Bool). q k or b) (any_skip (p k) i (off i k e))) }

  pub more_begin : (m : ℕ) → Mask q m → Walk x x × MoreTo q p m (next x)
  more_begin m h =
      walk_begin x (MoreTo q p m) (more_skip m) (record { low = h.low; is = λ k l. h.is k l ∙ sym (or_off (q k) _ (any_none (p k))) })

  pub more_turn : {m v i : ℕ} {left rest : Set} → Walk x left × MoreTo q p m (next left) → First left i → Rest left rest
      → (in_set x i ≡ true → Mask (λ k. p k i) v) → Walk x rest × MoreTo q p (bit_or m v) (next rest)
  more_turn {m} {v} {i} {left} {rest} inv f h o = walk_turn x (MoreTo q p (bit_or m v)) (more_skip (bit_or m v)) inv.0 f h here
    where
      got : Mask (λ k. p k i) v
      got = o (walk_in inv.0 f)

      at : MoreTo q p m i
      at = subst (MoreTo q p m) (first_next f) inv.1

      here : MoreTo q p (bit_or m v) (i + 1)
      here =
          record {
            low = or_low m v at.low got.low;
            is = λ k l.
                bit_of_or m v k ∙ ap₂ ◌or◌ (at.is k l) (got.is k l) ∙ or_assoc (q k) (any_below i (p k)) (p k i)
                ∙ sym (ap (λ (b : Bool). q k or b) (any_step (p k) i));
          }

  pub more_end : (m : ℕ) (left : Set) → any_below ROWS (in_set left) ≡ false → MoreTo q p m (next left) → MoreTo q p m ROWS
  more_end m left e u = walk_end x (MoreTo q p m) (more_skip m) left e u

pub mask_and : {p q : ℕ → Bool} {a b : ℕ} → Mask p a → Mask q b → Mask (λ k. p k and q k) (bit_and a b)
mask_and {p} {q} {a} {b} f g =
    record {
      low = let h = and_le_l a b in let l = f.low in omega arith;
      is = λ k l. bit_of_and a b k ∙ ap₂ ◌and◌ (f.is k l) (g.is k l);
    }

pub mask_self : {p : ℕ → Bool} {m : ℕ} → Mask p m → Mask (bit_of m) m
mask_self f = record { low = f.low; is = λ k l. refl }

-- ---- laws: one turn of a reader

pub seen_off : (t : Table) (w : List ℕ) (x : ℕ) (wide plain z : Set) (i k : ℕ) → in_set z i ≡ false → byte_seen t w x wide plain z k i ≡ false
unfolding byte_seen
seen_off t w x wide plain z i k e = and_false_left _ _ e

module _ (t : Table) (w : List ℕ) (x i : ℕ) (wide plain z : Set) {visible : Set} (at : visible ≡ set_at w (VISIBLE_BY + 2 * i)) where
  shown_is : (y v : Set) → ((j : ℕ) → in_set v j ≡ (in_set visible j and in_set y j)) → (j : ℕ) → in_set v j ≡ shown_in w y i j
  unfolding shown_in
  shown_is y v e j = e j ∙ ap (λ (u : Set). in_set u j and in_set y j) at

  -- shown by a wide one: all bytes that a has
  pub seen_wide : (v : Set) (b : Bool) {m : ℕ} → ((j : ℕ) → in_set v j ≡ (in_set visible j and in_set wide j)) → b ≡ any_below ROWS (in_set v) → b ≡ true
      → Mask (shared_bit t x i) m → in_set z i ≡ true → Mask (λ k. byte_seen t w x wide plain z k i) m
  unfolding byte_seen
  seen_wide v b e f g h o =
      record {
        low = h.low;
        is = λ k l. h.is k l ∙ sym (and_on _ _ o ∙ and_on_right _ _ (or_left _ (sym (any_cong _ _ ROWS (λ j m. shown_is wide v e j)) ∙ sym f ∙ g)));
      }

  -- by none: those that a plain one has too
  pub seen_part : (v u : Set) (b : Bool) {m s : ℕ} → ((j : ℕ) → in_set v j ≡ (in_set visible j and in_set wide j)) → b ≡ any_below ROWS (in_set v) → b ≡ false
      → ((j : ℕ) → in_set u j ≡ (in_set visible j and in_set plain j)) → Mask (shared_bit t x i) m → Mask (λ k. any_below ROWS (byte_of t x u k)) s → in_set z i ≡ true
      → Mask (λ k. byte_seen t w x wide plain z k i) (bit_and m s)
  unfolding byte_seen byte_of shown_byte
  seen_part v u b {m} {s} e f g d h r o =
      record {
        low = (mask_and h r).low;
        is = λ k l. (mask_and h r).is k l ∙ ap (λ (c : Bool). shared_bit t x i k and c) (here k) ∙ sym (and_on _ _ o);
      }
    where
      none : any_below ROWS (shown_in w wide i) ≡ false
      none = sym (any_cong _ _ ROWS (λ j m. shown_is wide v e j)) ∙ sym f ∙ g

      here : (k : ℕ) → any_below ROWS (byte_of t x u k) ≡ (any_below ROWS (shown_in w wide i) or any_below ROWS (shown_byte t w x plain k i))
      here k =
          any_cong _ _ ROWS (λ j m. ap (λ (c : Bool). c and shared_bit t x j k) (shown_is plain u d j))
          ∙ off_left _ _ none

-- ---- laws: sets of visibility operations up to y

not_after : (j y : ℕ) → not (ltb y j) ≡ leb j y
not_after j y = go (dec_lt y j)
  where
    go : Dec (y < j) → not (ltb y j) ≡ leb j y
    go (yes l) = ap not (lt-ltb y j l) ∙ sym (lt-leb j y l)
    go (no l) = ap not (le-ltb y j (omega arith)) ∙ sym (le-leb j y (omega arith))

strictly : (j y : ℕ) → (leb j y and not (eqb j y)) ≡ ltb j y
strictly j y = go (ℕ_discrete j y) (dec_lt j y)
  where
    go : Dec (j ≡ y) → Dec (j < y) → (leb j y and not (eqb j y)) ≡ ltb j y
    go (yes e) d = and_false_right _ _ (ap not (eq-eqb j y e)) ∙ sym (le-ltb j y (omega arith))
    go (no e) (yes l) = and_true (le-leb j y (omega arith)) (ap not (ne_eqb j y e)) ∙ sym (lt-ltb j y l)
    go (no e) (no l) = and_false_left _ _ (lt-leb j y (omega arith)) ∙ sym (le-ltb j y (omega arith))

last_in : (a b c d : Bool) → ((a and (b and c)) and d) ≡ (a and (b and (c and d)))
unfolding ◌and◌
last_in true true c d = refl
last_in true false c d = refl
last_in false b c d = refl

module _ {t : Table} {n : ℕ} {s : List ℕ} (o : Opened t n s) (x y : ℕ) (l : x < n) (is : access (t.row x) ≡ true) where
  pub upto_sets : (own past upto wv both wide pv plain : Set) → Rows n (same_agent t y) own → ((j : ℕ) → in_set past j ≡ (ltb y j and ltb j ROWS))
      → ((j : ℕ) → in_set upto j ≡ (in_set own j and not (in_set past j))) → ((j : ℕ) → in_set wv j ≡ wide_shown s (t.row x).class j)
      → ((j : ℕ) → in_set both j ≡ (in_set wv j and in_set upto j)) → ((j : ℕ) → in_set wide j ≡ (in_set both j and not (eqb j y)))
      → ((j : ℕ) → in_set pv j ≡ plain_shown s x j) → ((j : ℕ) → in_set plain j ≡ (in_set pv j and in_set upto j)) → Uptos t n x y wide plain
  unfolding wide_up plain_up same_agent
  upto_sets own past upto wv both wide pv plain e1 e2 e3 e4 e5 e6 e7 e8 = record { widely = widely; plainly = plainly }
    where
      up : Rows n (λ j. eqb (t.row j).agent (t.row y).agent and leb j y) upto
      up =
          rows_cong
          (λ j m.
          let f = few o in
          ap₂ ◌and◌ (eqb_swap (t.row y).agent (t.row j).agent)
          (ap not (e2 j ∙ and_on_right (ltb y j) (ltb j ROWS) (lt-ltb j ROWS (omega arith))) ∙ not_after j y))
          (rows_cut (λ j. not (in_set past j)) e1 e3)

      widely : Rows n (wide_up t x y) wide
      widely =
          rows_cong
          (λ j m. last_in (vis_wide t (t.row x).class j) (eqb (t.row j).agent (t.row y).agent) (leb j y) (not (eqb j y))
          ∙ ap (λ (c : Bool). vis_wide t (t.row x).class j and (eqb (t.row j).agent (t.row y).agent and c)) (strictly j y))
          (rows_cut (λ j. not (eqb j y)) (rows_and (shown_wide o x l is wv e4) up e5) e6)

      plainly : Rows n (plain_up t x y) plain
      plainly = rows_and (shown_plain o x l is pv e7) up e8

pub plain_among : {t : Table} {n x y : ℕ} {wide plain : Set} (visible z : Set) → Uptos t n x y wide plain → ((j : ℕ) → in_set z j ≡ (in_set visible j and in_set plain j))
    → Among n z
plain_among visible z up e j m = (member_in j up.plainly (split (sym (e j) ∙ m)).1).0

-- ---- laws: the bytes that are met

wide_sort : (l z v a b : Bool) → ((l and z) and (l and (v and (a and b)))) ≡ (l and (((v and z) and a) and b))
unfolding ◌and◌
wide_sort true true v a b = plain_case v a b
  where
    plain_case : (v a b : Bool) → (v and (a and b)) ≡ (((v and true) and a) and b)
    plain_case true a b = refl
    plain_case false a b = refl
wide_sort true false true a b = refl
wide_sort true false false a b = refl
wide_sort false z v a b = refl

part_sort : (l z v a b c : Bool) → (((l and z) and (l and (v and (a and b)))) and c) ≡ (l and ((((v and a) and b) and c) and z))
part_sort l z v a b c =
    bool_ext _ _
    (λ e.
    let p = split e in
    let q = split p.0 in
    let r = split q.0 in
    let u = split (split q.1).1 in
    let k = split u.1 in
    and_true r.0 (and_true (and_true (and_true (and_true u.0 k.0) k.1) p.1) r.1))
    (λ e.
    let p = split e in
    let q = split p.1 in
    let r = split q.0 in
    let u = split r.0 in
    let k = split u.0 in
    and_true (and_true (and_true p.0 q.1) (and_true p.0 (and_true k.0 (and_true k.1 u.1)))) r.1)

module _ {t : Table} {n : ℕ} {s w : List ℕ} (o : Opened t n s) (lc : Locating t n w) (x y : ℕ) (l : x < n) (m : y < n) (pr : Pair t n x y) {g : Available}
    (h : Grasps t n x g) where
  there : x < t.rows
  there = let e = o.rows in omega arith

  last_there : y < t.rows
  last_there = let e = o.rows in omega arith

  on_rows : (p : ℕ → Bool) → any_below n p ≡ any_below t.rows p
  on_rows p = ap (λ (k : ℕ). any_below k p) (sym o.rows)

  -- x's k-th byte is one of its bytes
  module _ (k : ℕ) (own : touches (t.row x) (nth t x k) ≡ true) where
    byte_is : (v : ℕ) → shared_bit t x v k ≡ touches (t.row v) (nth t x k)
    unfolding shared_bit
    byte_is v = and_on _ _ own

    -- of a set of rows, by the narrow ones of it
    narrow_any : (p : ℕ → Bool) → ((a : ℕ) → in_set g.parts a ≡ false → p a ≡ false)
        → ((a : ℕ) → a < n → in_set g.parts a ≡ true → p a ≡ (touches (t.row a) (nth t x k) and met_by t (meets t) (shown_to t) y (nth t x k) a))
        → any_below ROWS p ≡ any_below t.rows (narrow_to t (meets t) (shown_to t) x y (nth t x k))
    unfolding narrow_to ◌and◌
    narrow_any p off on = any_rows p (narrow_to t (meets t) (shown_to t) x y (nth t x k)) (few o) here ∙ on_rows _
      where
        assoc : (a b c d : Bool) → ((a and b) and (c and d)) ≡ (a and ((b and c) and d))
        assoc true true c d = refl
        assoc true false c d = refl
        assoc false b c d = refl

        M : ℕ → Bool
        M a = met_by t (meets t) (shown_to t) y (nth t x k) a

        here : (a : ℕ) → p a ≡ (ltb a n and narrow_to t (meets t) (shown_to t) x y (nth t x k) a)
        here a = go (in_set g.parts a) refl
          where
            go : (b : Bool) → in_set g.parts a ≡ b → p a ≡ (ltb a n and ((narrow t x a and touches (t.row a) (nth t x k)) and M a))
            go true e =
                on a (member_in a h.parts e).0 e ∙ sym (and_on _ _ (sym (h.parts.is a) ∙ e))
                ∙ assoc (ltb a n) (narrow t x a) (touches (t.row a) (nth t x k)) (M a)
            go false e =
                off a e ∙ sym (sym (assoc (ltb a n) (narrow t x a) (touches (t.row a) (nth t x k)) (M a)) ∙ and_false_left _ _ (sym (h.parts.is a) ∙ e))

    shown_rows : (a : ℕ) → in_set g.parts a ≡ true → Rows n (shown_to t a) (Family.nth w VISIBLE_BY a)
    shown_rows a e =
        let p = member_in a h.parts e in
        let r = o.rows in
        let k = p.0 in
        lc.available.by.row a k (narrow_makes t x a there (omega arith) p.1)

    module _ {wide plain : Set} (up : Uptos t n x y wide plain) where
      wide_any : (z p : ℕ → Bool) (zs : Set) → Rows n z zs → ((v : ℕ) → p v ≡ (in_set zs v and in_set wide v)) → any_below ROWS p ≡ wide_seen t y z
      unfolding wide_up wide_after seen seen_from wide_in up_to
      wide_any z p zs r e =
          any_rows p (seen_from t false (wide_in t x z) y) (few o)
          (λ v.
          e v ∙ ap₂ ◌and◌ (r.is v) (up.widely.is v)
          ∙ wide_sort (ltb v n) (z v) (vis_wide t (t.row x).class v) (eqb (t.row v).agent (t.row y).agent) (ltb v y))
          ∙ on_rows _ ∙ sym (wide_after_lem t x y there last_there o.fit.one pr.first.is pr.second.is pr.same z)

      plain_any : (z p : ℕ → Bool) (zs : Set) → Rows n z zs → ((v : ℕ) → p v ≡ ((in_set zs v and in_set plain v) and shared_bit t x v k))
          → any_below ROWS p ≡ part_seen t y (nth t x k) z
      unfolding plain_up plain_part
      plain_any z p zs r e =
          any_rows p (plain_part t x y (nth t x k) z) (few o)
          (λ v.
          e v ∙ ap₂ ◌and◌ (ap₂ ◌and◌ (r.is v) (up.plainly.is v)) (byte_is v)
          ∙ part_sort (ltb v n) (z v) (vis_plain t x v) (eqb (t.row v).agent (t.row y).agent) (leb v y) (touches (t.row v) (nth t x k)))
          ∙ on_rows _ ∙ sym (part_rows t x y there last_there o.fit.one pr.first.is pr.second.is pr.same (nth t x k) z)

      strong_any : (z : Set) → ((j : ℕ) → in_set z j ≡ (in_set g.by j and in_set plain j))
          → any_below ROWS (byte_of t x z k) ≡ part_seen t y (nth t x k) (strong_to t (shown_to t) x)
      unfolding byte_of
      strong_any z e =
          plain_any (strong_to t (shown_to t) x) (byte_of t x z k) g.by h.by (λ v. ap (λ (c : Bool). c and shared_bit t x v k) (e v))

      seen_any : reads (t.row y) ≡ true
          → any_below ROWS (byte_seen t w x wide plain g.parts k) ≡ any_below t.rows (narrow_to t (meets t) (shown_to t) x y (nth t x k))
      unfolding byte_seen met_by shown_in shown_byte
      seen_any r =
          narrow_any (byte_seen t w x wide plain g.parts k) (λ a e. and_false_left _ _ e)
          (λ a b e.
          and_on _ _ e
          ∙ ap₂ ◌and◌ (byte_is a)
          (ap₂ ◌or◌ (wide_any (shown_to t a) (shown_in w wide a) (Family.nth w VISIBLE_BY a) (shown_rows a e) (λ v. refl))
          (plain_any (shown_to t a) (shown_byte t w x plain k a) (Family.nth w VISIBLE_BY a) (shown_rows a e) (λ v. refl))
          ∙ sym (cond_on _ _ _ r)))

    once_any : reads (t.row y) ≡ false
        → any_below ROWS (byte_to t w x y g.parts k) ≡ any_below t.rows (narrow_to t (meets t) (shown_to t) x y (nth t x k))
    unfolding byte_to met_by
    once_any r =
        narrow_any (byte_to t w x y g.parts k) (λ a e. and_false_left _ _ e)
        (λ a b e.
        and_on _ _ e ∙ and_turn _ _ ∙ ap₂ ◌and◌ (byte_is a)
        (rows_in_lem (to_rows a e) y m ∙ sym (cond_off _ _ _ r)))
      where
        and_turn : (a b : Bool) → (a and b) ≡ (b and a)
        and_turn a b = bool_ext _ _ (λ e. and_true (split e).1 (split e).0) (λ e. and_true (split e).1 (split e).0)

        to_rows : (a : ℕ) → in_set g.parts a ≡ true → Rows n (meets t a) (Family.nth w AVAILABLE_TO a)
        to_rows a e =
            let p = member_in a h.parts e in
            let r = o.rows in
            let k = p.0 in
            lc.available.to.row a k (narrow_makes t x a there (omega arith) p.1)

  touching : (k : ℕ) → shared_bit t x y k ≡ true → touches (t.row x) (nth t x k) ≡ true
  unfolding shared_bit
  touching k e = (split e).0

  -- what a reader meets
  pub seen_met : reads (t.row y) ≡ true → {wide plain : Set} → Uptos t n x y wide plain → (z : Set) → ((j : ℕ) → in_set z j ≡ (in_set g.by j and in_set plain j))
      → {m₀ v : ℕ} → Mask (λ k. any_below ROWS (byte_of t x z k)) m₀ → MoreTo (bit_of m₀) (byte_seen t w x wide plain g.parts) v ROWS → MetBytes t x y v
  unfolding part_by
  seen_met r up z e {m₀} {v} f u =
      record {
        low = u.low;
        is = λ k i sh.
            u.is k i ∙ ap₂ ◌or◌ (f.is k i ∙ strong_any k (touching k sh) up z e ∙ sym (and_on _ _ r)) (seen_any k (touching k sh) up r);
      }

  -- what another row meets
  pub once_met : reads (t.row y) ≡ false → {v : ℕ} → Mask (λ k. any_below ROWS (byte_to t w x y g.parts k)) v → MetBytes t x y v
  unfolding part_by
  once_met r {v} u =
      record {
        low = u.low;
        is = λ k i sh. u.is k i ∙ once_any k (touching k sh) r ∙ off_left _ _ (and_false_left _ _ r);
      }

-- ---- laws: which of the two

pub reads_is : {t : Table} {n : ℕ} {s : List ℕ} (rs : Set) (y : ℕ) {b c : Bool} → Opened t n s → y < n → rs ≡ set_at s READS → b ≡ in_set rs y → b ≡ c
    → reads (t.row y) ≡ c
reads_is rs y o l e f g = sym (rows_in_lem (rows_at e (says_rows o.known.tested.accesses.reads)) y l) ∙ sym f ∙ g

pub parts_among : {t : Table} {n x : ℕ} {g : Available} → Grasps t n x g → Among n g.parts
parts_among h j e = (member_in j h.parts e).0
