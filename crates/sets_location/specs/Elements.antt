-- Elements of a row by sets: visibility operations that cover it, and the bytes of it that rows have. Assumes nothing.
use Rattle.std.specs.Prelude.{◌≡◌, refl, Bool, true, false, not, List, ℕ, ◌+◌, ◌*◌, ◌%◌, ◌^◌, ◌<◌, ltb, leb}
use Rattle.std.proofs.Common.{sym, ap, subst, ◌∙◌, arith, add-one, mod-eq_of_lt, leb-true, le-leb}
use Rattle.std.proofs.Math.Path.{ap₂}
use Rattle.std.specs.Int.Bits.{bit_or}
use Rattle.std.proofs.lemmas.Nat.{or_mod}
use Rattle.finite.specs.Logic.{◌and◌, ◌or◌, and_on, and_false_left, and_false_right, and_true, split, bool_ext, or_off}
use Rattle.finite.specs.Below.{any_below, any_none}
use Rattle.model.specs.Limits.{ROWS}
use Rattle.model.specs.Row.{plain, access, meets, single}
use Rattle.model.specs.Table.{Table}
use Rattle.model.specs.Availability.{same_reference}
use Rattle.model_laws.specs.PairLaws.{eqb_swap}
use Rattle.bits.specs.Bit.{bit_of_or, bit_of_zero}
use Rattle.model_placing.specs.Elements.{shews, vis_wide, vis_plain}
use Rattle.sets_of_rows.specs.declared.Set.{Set}
use Rattle.sets_of_rows.specs.Member.{in_set}
use Rattle.sets_of_rows.specs.First.{First, first_next, Rest, next}
use Rattle.sets_of_rows.specs.Kept.{set_at}
use Rattle.sets_of_rows.specs.Family.{nth}
use Rattle.sets_of_rows.specs.Rows.{Rows, rows_cong}
use Rattle.sets_of_rows.specs.Walk.{Walk, walk_begin, walk_turn, walk_end, walk_in}
use Rattle.sets_of_table.specs.Tested.{VISIBLE}
use Rattle.sets_of_table.specs.Sorted.{PLAIN, HOLDING, holds_class}
use Rattle.sets_of_table.specs.Known.{REFERENCE, Opened, same_name}
use Rattle.sets_bytes.specs.Masks.{Mask, shared_bit}
use Rattle.sets_grids.specs.Regions.{AVAILABLE_TO}

-- ---- definitions

-- row j is in the sets of visibility operations of plain rows, and of x's reference
unfoldable pub plain_shown : List ℕ → ℕ → ℕ → Bool
plain_shown s x j = (in_set (set_at s VISIBLE) j and in_set (set_at s PLAIN) j) and in_set (nth s REFERENCE x) j

-- in those of other rows, and of class q
unfoldable pub wide_shown : List ℕ → ℕ → ℕ → Bool
wide_shown s q j = (in_set (set_at s VISIBLE) j and in_set (nth s HOLDING q) j) and not (in_set (set_at s PLAIN) j)

-- row a of z has x's k-th byte
unfoldable pub byte_of : Table → ℕ → Set → ℕ → ℕ → Bool
byte_of t x z k a = in_set z a and shared_bit t x a k

-- and makes it available to y
unfoldable pub byte_to : Table → List ℕ → ℕ → ℕ → Set → ℕ → ℕ → Bool
byte_to t w x y z k a = in_set z a and (in_set (nth w AVAILABLE_TO a) y and shared_bit t x a k)

-- ---- laws: visibility operations that cover x

plain_access : (k : ℕ) → leb k 1 ≡ true → leb k 4 ≡ true
plain_access k e = let h = leb-true k 1 e in le-leb k 4 (omega arith)

under : (l a b c : Bool) → (((l and a) and (l and b)) and not (l and c)) ≡ (l and ((a and b) and not c))
unfolding ◌and◌
under true a b c = refl
under false a b c = refl

both : (l a b c : Bool) → (((l and a) and (l and b)) and (l and c)) ≡ (l and ((a and b) and c))
unfolding ◌and◌
both true a b c = refl
both false a b c = refl

arranged : (a b c : Bool) → ((a and c) and not b) ≡ ((not b and a) and c)
unfolding ◌and◌
arranged true true true = refl
arranged true true false = refl
arranged true false true = refl
arranged true false false = refl
arranged false true c = refl
arranged false false c = refl

module _ {t : Table} {n : ℕ} {s : List ℕ} (o : Opened t n s) (x : ℕ) (l : x < n) (is : access (t.row x) ≡ true) where
  pub shown_plain : (z : Set) → ((j : ℕ) → in_set z j ≡ plain_shown s x j) → Rows n (vis_plain t x) z
  unfolding plain_shown vis_plain same_name same_reference plain access
  shown_plain z e = rows_cong (λ j m. alike j) all
    where
      all : Rows n (λ j. (shews (t.row j) and plain (t.row j)) and same_name t x j) z
      all =
          record {
            is = λ j.
                e j ∙ ap₂ ◌and◌ (ap₂ ◌and◌ (o.known.tested.marked.visible.is j) (o.known.sorted.plain.is j)) ((o.known.reference x l is).is j)
                ∙ both (ltb j n) (shews (t.row j)) (plain (t.row j)) (same_name t x j);
          }

      alike : (j : ℕ) → ((shews (t.row j) and plain (t.row j)) and same_name t x j) ≡ vis_plain t x j
      alike j =
          bool_ext ((shews (t.row j) and plain (t.row j)) and same_name t x j) (vis_plain t x j)
          (λ h.
          let p = split (split h).0 in
          let q = split (split h).1 in
          and_true (and_true p.1 p.0) (eqb_swap (t.row j).reference (t.row x).reference ∙ q.1))
          (λ h.
          let p = split (split h).0 in
          and_true (and_true p.1 p.0) (and_true (plain_access (t.row j).kind p.0) (eqb_swap (t.row x).reference (t.row j).reference ∙ (split h).1)))

  pub shown_wide : (z : Set) → ((j : ℕ) → in_set z j ≡ wide_shown s (t.row x).class j) → Rows n (vis_wide t (t.row x).class) z
  unfolding wide_shown vis_wide holds_class
  shown_wide z e = rows_cong (λ j m. arranged (shews (t.row j)) (plain (t.row j)) (meets (t.row j).classes (single (t.row x).class))) all
    where
      here : (t.row x).class < 4
      here = o.fit.classed x (let r = o.rows in omega arith) is

      all : Rows n (λ j. (shews (t.row j) and meets (t.row j).classes (single (t.row x).class)) and not (plain (t.row j))) z
      all =
          record {
            is = λ j.
                e j ∙ ap₂ (λ (b c : Bool). b and not c)
                (ap₂ ◌and◌ (o.known.tested.marked.visible.is j) ((o.known.sorted.holding (t.row x).class here).is j)) (o.known.sorted.plain.is j)
                ∙ under (ltb j n) (shews (t.row j)) (meets (t.row j).classes (single (t.row x).class)) (plain (t.row j));
          }

-- ---- laws: masks

pub or_low : (a b : ℕ) → a < 65536 → b < 65536 → bit_or a b < 65536
or_low a b l m =
    let e : bit_or a b % 2 ^ 16 ≡ bit_or (a % 2 ^ 16) (b % 2 ^ 16) = or_mod a b 16 in
    let f : a % 2 ^ 16 ≡ a = mod-eq_of_lt l in
    let g : b % 2 ^ 16 ≡ b = mod-eq_of_lt m in
    let h : bit_or a b % 2 ^ 16 ≡ bit_or a b = e ∙ ap₂ bit_or f g in
    omega arith

pub any_skip : (p : ℕ → Bool) (k : ℕ) → p k ≡ false → any_below (k + 1) p ≡ any_below k p
unfolding any_below
any_skip p k e = rw add-one (or_off (any_below k p) (p k) e)

pub any_step : (p : ℕ → Bool) (k : ℕ) → any_below (k + 1) p ≡ (any_below k p or p k)
unfolding any_below
any_step p k = rw add-one refl

-- m has the bits that the numbers below e give
abbrev pub BitsTo : (ℕ → ℕ → Bool) → ℕ → ℕ → Type 0
BitsTo p m e = Mask (λ k. any_below e (p k)) m

module _ (x : Set) (p : ℕ → ℕ → Bool) (off : (i k : ℕ) → in_set x i ≡ false → p k i ≡ false) where
  bits_skip : (m i : ℕ) → in_set x i ≡ false → BitsTo p m i → BitsTo p m (i + 1)
  bits_skip m i e u = record { low = u.low; is = λ k l. u.is k l ∙ sym (any_skip (p k) i (off i k e)) }

  pub bits_begin : Walk x x × BitsTo p 0 (next x)
  bits_begin =
      walk_begin x (BitsTo p 0) (bits_skip 0) (record { low = omega arith; is = λ k l. bit_of_zero k ∙ sym (any_none (p k)) })

  pub bits_turn : {m v i : ℕ} {left rest : Set} → Walk x left × BitsTo p m (next left) → First left i → Rest left rest
      → (in_set x i ≡ true → Mask (λ k. p k i) v) → Walk x rest × BitsTo p (bit_or m v) (next rest)
  bits_turn {m} {v} {i} {left} {rest} inv f h o = walk_turn x (BitsTo p (bit_or m v)) (bits_skip (bit_or m v)) inv.0 f h here
    where
      got : Mask (λ k. p k i) v
      got = o (walk_in inv.0 f)

      at : BitsTo p m i
      at = subst (BitsTo p m) (first_next f) inv.1

      here : BitsTo p (bit_or m v) (i + 1)
      here =
          record {
            low = or_low m v at.low got.low;
            is = λ k l. bit_of_or m v k ∙ ap₂ ◌or◌ (at.is k l) (got.is k l) ∙ sym (any_step (p k) i);
          }

  pub bits_pass : {m i : ℕ} {left rest : Set} → Walk x left × BitsTo p m (next left) → First left i → Rest left rest
      → ((k : ℕ) → p k i ≡ false) → Walk x rest × BitsTo p m (next rest)
  bits_pass {m} {i} {left} {rest} inv f h o =
      walk_turn x (BitsTo p m) (bits_skip m) inv.0 f h
      (let at : BitsTo p m i = subst (BitsTo p m) (first_next f) inv.1 in
      record { low = at.low; is = λ k l. at.is k l ∙ sym (any_skip (p k) i (o k)) })

  pub bits_end : (m : ℕ) (left : Set) → any_below ROWS (in_set left) ≡ false → BitsTo p m (next left) → BitsTo p m ROWS
  bits_end m left e u = walk_end x (BitsTo p m) (bits_skip m) left e u

pub byte_off : (t : Table) (x : ℕ) (z : Set) (i k : ℕ) → in_set z i ≡ false → byte_of t x z k i ≡ false
unfolding byte_of
byte_off t x z i k e = and_false_left _ _ e

pub byte_mask : (t : Table) (x i : ℕ) {m : ℕ} (z : Set) → in_set z i ≡ true → Mask (shared_bit t x i) m → Mask (λ k. byte_of t x z k i) m
unfolding byte_of
byte_mask t x i z e h = record { low = h.low; is = λ k l. h.is k l ∙ sym (and_on _ _ e) }

pub to_off : (t : Table) (w : List ℕ) (x y : ℕ) (z : Set) (i k : ℕ) → in_set z i ≡ false → byte_to t w x y z k i ≡ false
unfolding byte_to
to_off t w x y z i k e = and_false_left _ _ e

pub to_mask : (t : Table) (w : List ℕ) (x y i : ℕ) {m : ℕ} (z : Set) → in_set (nth w AVAILABLE_TO i) y ≡ true → in_set z i ≡ true → Mask (shared_bit t x i) m
    → Mask (λ k. byte_to t w x y z k i) m
unfolding byte_to
to_mask t w x y i z g e h = record { low = h.low; is = λ k l. h.is k l ∙ sym (and_on _ _ e ∙ and_on _ _ g) }

pub to_none : (t : Table) (w : List ℕ) (x y : ℕ) (z : Set) (i k : ℕ) → in_set (nth w AVAILABLE_TO i) y ≡ false → byte_to t w x y z k i ≡ false
unfolding byte_to
to_none t w x y z i k e = and_false_right _ _ (and_false_left _ _ e)

pub has_is : {b c : Bool} (w : List ℕ) (base i y : ℕ) (v : Set) → v ≡ set_at w (base + 2 * i) → b ≡ in_set v y → b ≡ c → in_set (nth w base i) y ≡ c
has_is w base i y v e f g = sym (ap (λ (z : Set). in_set z y) e) ∙ sym f ∙ g

-- ---- laws: sets that are read

pub plain_shown_lem : (s : List ℕ) (x : ℕ) (a b c d z : Set) → a ≡ set_at s VISIBLE → b ≡ set_at s PLAIN → ((j : ℕ) → in_set c j ≡ (in_set a j and in_set b j))
    → d ≡ set_at s (REFERENCE + 2 * x) → ((j : ℕ) → in_set z j ≡ (in_set c j and in_set d j)) → (j : ℕ) → in_set z j ≡ plain_shown s x j
unfolding plain_shown
plain_shown_lem s x a b c d z e f g h o j =
    o j ∙ ap₂ ◌and◌ (g j ∙ ap₂ (λ (u v : Set). in_set u j and in_set v j) e f) (ap (λ (u : Set). in_set u j) h)

pub wide_shown_lem : (s : List ℕ) (q k : ℕ) (a b c d z : Set) → k ≡ q → b ≡ set_at s (HOLDING + 2 * k) → a ≡ set_at s VISIBLE
    → ((j : ℕ) → in_set c j ≡ (in_set a j and in_set b j)) → d ≡ set_at s PLAIN → ((j : ℕ) → in_set z j ≡ (in_set c j and not (in_set d j)))
    → (j : ℕ) → in_set z j ≡ wide_shown s q j
unfolding wide_shown
wide_shown_lem s q k a b c d z m f e g h o j =
    o j
    ∙ ap₂ (λ (u v : Bool). u and not v) (g j ∙ ap₂ (λ (u v : Set). in_set u j and in_set v j) e (f ∙ ap (λ (i : ℕ). set_at s (HOLDING + 2 * i)) m))
    (ap (λ (u : Set). in_set u j) h)
