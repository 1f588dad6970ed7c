-- Location order of one row that is added pair by pair. Assumes nothing.
use Rattle.std.specs.Prelude.{◌≡◌, refl, ◌≢◌, ◌⊎◌, Bool, true, false, List, ℕ, ◌+◌, ◌-◌, ◌*◌, ◌≤◌, ◌<◌, ltb, eqb}
use Rattle.std.proofs.Common.{sym, ap, subst, ◌∙◌, inl, inr, ⊎_elim, arith, lt-ltb, le-ltb, eq-eqb, ne_eqb}
use Rattle.std.proofs.Math.Decide.{ℕ_discrete}
use Rattle.std.specs.Int.Bits.{bit_and}
use Rattle.std.proofs.lemmas.Nat.{and_le_l}
use Rattle.finite.specs.Logic.{◌and◌, ◌or◌, and_on, and_false_left, and_false_right, and_true, bool_ext, or_off, or_assoc, or_left, or_right, or_cases, which, not_both}
use Rattle.finite.specs.Logic.{not_so}
use Rattle.finite.specs.Below.{any_below, any_in, any_out, any_cong, any_not, any_off, turn, at_one}
use Rattle.model.specs.Limits.{ROWS, LONGEST}
use Rattle.model.specs.Row.{touches, overlap}
use Rattle.model.specs.Table.{Table}
use Rattle.model.specs.Race.{nth}
use Rattle.model_laws.specs.PairLaws.{overlap_is}
use Rattle.model_laws.specs.RaceLaws.{touched}
use Rattle.bits.specs.Bit.{bit, bit_of, bit_of_zero}
use Rattle.bits.specs.Within.{Within, within_refl, within_trans, within_widen, within_bit}
use Rattle.work_sets.specs.Lowest.{bit_of_and}
use Rattle.work_area.specs.Regions.{LOCATION, LOCATION_END}
use Rattle.sets_of_rows.specs.declared.Set.{Set}
use Rattle.sets_of_rows.specs.Member.{in_set}
use Rattle.sets_of_rows.specs.First.{First, first_next, Rest, next}
use Rattle.sets_of_rows.specs.Kept.{set_kept, Stored, added}
use Rattle.sets_of_rows.specs.Word.{bit_of_none}
use Rattle.sets_of_rows.specs.Family
use Rattle.sets_of_rows.specs.Walk.{Walk, walk_begin, walk_turn, walk_end, walk_in}
use Rattle.sets_of_table.specs.Fit.{Fit}
use Rattle.sets_grids.specs.Regions.{SOME}
use Rattle.sets_grids.specs.Grid.{grid_kept, grid_on_kept}
use Rattle.sets_grids.specs.Given.{given_kept, given_few}
use Rattle.sets_grids.specs.Location.{ToLocate}
use Rattle.sets_bytes.specs.Masks.{Mask, shared_bit, Adds}
use Rattle.sets_location.specs.Adds.{AddsRow, Over, Empty, MetBytes, place_of, whole_bytes, part_bytes, parts_of}

-- ---- definitions

-- p below row e
unfoldable pub cut : (ℕ → ℕ → Bool) → ℕ → ℕ → ℕ → Bool
cut p e y k = ltb y e and p y k

-- q at row i
unfoldable pub only : ℕ → (ℕ → Bool) → ℕ → ℕ → Bool
only i q y k = eqb y i and q k

-- row x got p in LOCATION; other rows are as they were
pub record AddsPairs (n x : ℕ) (p : ℕ → ℕ → Bool) (w u : List ℕ) : Type 0 where
  pub pair : (y k : ℕ) → y < n → k < LONGEST → bit u (place_of x y k) ≡ (bit w (place_of x y k) or p y k)
  pub other_pair : (i y k : ℕ) → i < n → y < n → k < LONGEST → i ≢ x → bit u (place_of i y k) ≡ bit w (place_of i y k)
  pub frame : Within LOCATION LOCATION_END w u

-- ---- laws: numbers below others

any_or : (p q : ℕ → Bool) (n : ℕ) → (any_below n p or any_below n q) ≡ any_below n (λ k. p k or q k)
any_or p q n =
    bool_ext _ _ forth
    (λ e. let a = any_out (λ k. p k or q k) n e in one a.0 a.1 (or_cases (p a.0) (q a.0) a.2))
  where
    forth : (any_below n p or any_below n q) ≡ true → any_below n (λ k. p k or q k) ≡ true
    forth e = go (which (any_below n p))
      where
        go : (any_below n p ≡ true) ⊎ (any_below n p ≡ false) → any_below n (λ k. p k or q k) ≡ true
        go (inl f) = let a = any_out p n f in any_in (λ k. p k or q k) n a.0 a.1 (or_left _ a.2)
        go (inr f) = ⊎_elim (λ h. not_both h f) (λ h. let a = any_out q n h in any_in (λ k. p k or q k) n a.0 a.1 (or_right _ a.2)) (or_cases (any_below n p) _ e)

    one : (k : ℕ) → k < n → (p k ≡ true) ⊎ (q k ≡ true) → (any_below n p or any_below n q) ≡ true
    one k l (inl f) = or_left _ (any_in p n k l f)
    one k l (inr f) = or_right _ (any_in q n k l f)

off_left : (a c : Bool) → a ≡ false → c ≡ (a or c)
unfolding ◌or◌
off_left a c q = rw q refl

under : (a b c : Bool) → (a ≡ true → b ≡ c) → (a and b) ≡ (a and c)
unfolding ◌and◌
under true b c h = h refl
under false b c h = refl

-- ---- laws: masks

mask_some : {p : ℕ → Bool} {m : ℕ} → Mask p m → 0 < m → any_below LONGEST p ≡ true
mask_some {p} {m} h l = go (which (any_below LONGEST p))
  where
    go : (any_below LONGEST p ≡ true) ⊎ (any_below LONGEST p ≡ false) → any_below LONGEST p ≡ true
    go (inl e) = e
    go (inr e) =
        let z : m ≡ 0 = bit_of_none 16 m h.low (λ j o. h.is j o ∙ any_off p LONGEST e j o) in
        absurd (omega arith)

mask_none : {p : ℕ → Bool} {m : ℕ} → Mask p m → m ≤ 0 → (k : ℕ) → k < LONGEST → p k ≡ false
mask_none {p} {m} h z k l = sym (h.is k l) ∙ ap (λ (x : ℕ). bit_of x k) (let e : m ≡ 0 = omega arith in e) ∙ bit_of_zero k

-- ---- laws: rows that are added one after the other

pub adds_cong : {n x : ℕ} {p : ℕ → ℕ → Bool} (q : ℕ → ℕ → Bool) {w u : List ℕ} → ((y k : ℕ) → y < n → k < LONGEST → p y k ≡ q y k) → AddsRow n x p w u → AddsRow n x q w u
adds_cong {x = x} {p = p} q {w = w} e a =
    record {
      some = λ y l. a.some y l ∙ ap (λ (b : Bool). in_set (Family.nth w SOME x) y or b) (any_cong (p y) (q y) LONGEST (λ k m. e y k l m));
      past = a.past;
      pair = λ y k l m. a.pair y k l m ∙ ap (λ (b : Bool). bit w (place_of x y k) or b) (e y k l m);
      other_some = a.other_some;
      other_pair = a.other_pair;
      frame = a.frame;
    }

pub adds_both : {n x : ℕ} {p q : ℕ → ℕ → Bool} {w u v : List ℕ} → AddsRow n x p w u → AddsRow n x q u v → AddsRow n x (λ y k. p y k or q y k) w v
adds_both {x = x} {p = p} {q = q} {w = w} a b =
    record {
      some = λ y l.
          b.some y l ∙ ap (λ (c : Bool). c or any_below LONGEST (q y)) (a.some y l) ∙ or_assoc _ (any_below LONGEST (p y)) (any_below LONGEST (q y))
          ∙ ap (λ (c : Bool). in_set (Family.nth w SOME x) y or c) (any_or (p y) (q y) LONGEST);
      past = λ y l. b.past y l ∙ a.past y l;
      pair = λ y k l m. b.pair y k l m ∙ ap (λ (c : Bool). c or q y k) (a.pair y k l m) ∙ or_assoc _ (p y k) (q y k);
      other_some = λ i l o. b.other_some i l o ∙ a.other_some i l o;
      other_pair = λ i y k l m h o. b.other_pair i y k l m h o ∙ a.other_pair i y k l m h o;
      frame = within_trans a.frame b.frame;
    }

-- nothing is added
pub adds_none : (n x : ℕ) (p : ℕ → ℕ → Bool) (w : List ℕ) → ((y k : ℕ) → p y k ≡ false) → AddsRow n x p w w
adds_none n x p w e =
    record {
      some = λ y l. sym (or_off _ _ (any_not (p y) LONGEST (λ k m. e y k)));
      past = λ y l. refl;
      pair = λ y k l m. sym (or_off _ _ (e y k));
      other_some = λ i l o. refl;
      other_pair = λ i y k l m h o. refl;
      frame = within_refl SOME LOCATION_END w;
    }

pub pairs_none : (n x : ℕ) (p : ℕ → ℕ → Bool) (w : List ℕ) → ((y k : ℕ) → p y k ≡ false) → AddsPairs n x p w w
pairs_none n x p w e =
    record { pair = λ y k l m. sym (or_off _ _ (e y k)); other_pair = λ i y k l m h o. refl; frame = within_refl LOCATION LOCATION_END w }

pub pairs_cong : {n x : ℕ} {p : ℕ → ℕ → Bool} (q : ℕ → ℕ → Bool) {w u : List ℕ} → ((y k : ℕ) → y < n → k < LONGEST → p y k ≡ q y k) → AddsPairs n x p w u → AddsPairs n x q w u
pairs_cong {x = x} q {w = w} e a =
    record { pair = λ y k l m. a.pair y k l m ∙ ap (λ (b : Bool). bit w (place_of x y k) or b) (e y k l m); other_pair = a.other_pair; frame = a.frame }

pub pairs_both : {n x : ℕ} {p q : ℕ → ℕ → Bool} {w u v : List ℕ} → AddsPairs n x p w u → AddsPairs n x q u v → AddsPairs n x (λ y k. p y k or q y k) w v
pairs_both {p = p} {q = q} a b =
    record {
      pair = λ y k l m. b.pair y k l m ∙ ap (λ (c : Bool). c or q y k) (a.pair y k l m) ∙ or_assoc _ (p y k) (q y k);
      other_pair = λ i y k l m h o. b.other_pair i y k l m h o ∙ a.other_pair i y k l m h o;
      frame = within_trans a.frame b.frame;
    }

-- ---- laws: one pair

pub pair_one : {n x i m : ℕ} (q : ℕ → Bool) {w u : List ℕ} → n ≤ ROWS → i < n → Mask q m → Adds x i m w u → AddsPairs n x (only i q) w u
unfolding only
pair_one {n} {x} {i} {m} q {w} {u} few l h a =
    record { pair = λ y k o r. go y k o r (ℕ_discrete y i); other_pair = λ j y k o r f d. a.other (place_of j y k) (λ g. omega arith); frame = a.frame }
  where
    go : (y k : ℕ) → y < n → k < LONGEST → Dec (y ≡ i) → bit u (place_of x y k) ≡ (bit w (place_of x y k) or (eqb y i and q k))
    go y k o r (yes e) =
        subst (λ (j : ℕ). bit u (place_of x j k) ≡ (bit w (place_of x j k) or (eqb j i and q k))) (sym e)
        (a.is k r ∙ ap (λ (b : Bool). bit w (place_of x i k) or b) (h.is k r ∙ sym (and_on _ _ (eq-eqb i i refl))))
    go y k o r (no e) = a.other (place_of x y k) (λ g. omega arith) ∙ sym (or_off _ _ (and_false_left _ _ (ne_eqb y i e)))

-- SOME got the row too
pub some_one : {n x i : ℕ} (q : ℕ → Bool) {w u v : List ℕ} → n ≤ ROWS → x < n → i < n → any_below LONGEST q ≡ true → AddsPairs n x (only i q) w u
    → Stored (SOME + 2 * x) (added u (SOME + 2 * x) i) u v → AddsRow n x (only i q) w v
unfolding only added
some_one {n} {x} {i} q {w} {u} {v} few lx l any a s =
    record {
      some = λ y o. here y ∙ ap (λ (c : Bool). in_set (Family.nth w SOME x) y or c) (is y (ℕ_discrete y i));
      past = λ y o. here y ∙ or_off _ _ (ne_eqb y i (λ e. absurd (omega arith)));
      pair = λ y k o r. within_bit s.frame (place_of x y k) (λ g. omega arith) ∙ a.pair y k o r;
      other_some = λ j o d. set_kept (SOME + 2 * j) (λ g. omega arith) s.frame ∙ set_kept (SOME + 2 * j) (λ g. omega arith) a.frame;
      other_pair = λ j y k o r f d. within_bit s.frame (place_of j y k) (λ g. omega arith) ∙ a.other_pair j y k o r f d;
      frame = within_trans (within_widen SOME LOCATION_END (omega arith) (omega arith) a.frame) (within_widen SOME LOCATION_END (omega arith) (omega arith) s.frame);
    }
  where
    here : (y : ℕ) → in_set (Family.nth v SOME x) y ≡ (in_set (Family.nth w SOME x) y or eqb y i)
    here y = s.is y ∙ ap (λ (z : Set). in_set z y or eqb y i) (set_kept (SOME + 2 * x) (λ g. omega arith) a.frame)

    is : (y : ℕ) → Dec (y ≡ i) → eqb y i ≡ any_below LONGEST (λ k. eqb y i and q k)
    is y (yes e) =
        eq-eqb y i e ∙ sym (let k = any_out q LONGEST any in any_in (λ k. eqb y i and q k) LONGEST k.0 k.1 (and_true (eq-eqb y i e) k.2))
    is y (no e) = ne_eqb y i e ∙ sym (any_not (λ k. eqb y i and q k) LONGEST (λ k m. and_false_left _ _ (ne_eqb y i e)))

-- ---- laws: row by row

cut_none : (p : ℕ → ℕ → Bool) (y k : ℕ) → cut p 0 y k ≡ false
unfolding cut
cut_none p y k = and_false_left _ _ (le-ltb y 0 (omega arith))

cut_more : (p : ℕ → ℕ → Bool) (i y k : ℕ) → (cut p i y k or only i (p i) y k) ≡ cut p (i + 1) y k
unfolding cut only
cut_more p i y k = ap (λ (b : Bool). (ltb y i and p y k) or b) (at_one y i (p i k) (p y k) (λ e. ap (λ (j : ℕ). p j k) (sym e))) ∙ turn y i (p y k)

cut_skip : (p : ℕ → ℕ → Bool) (i y k : ℕ) → ((j : ℕ) → j < LONGEST → p i j ≡ false) → k < LONGEST → cut p i y k ≡ cut p (i + 1) y k
unfolding only
cut_skip p i y k e l = sym (or_off _ _ (and_false_right _ _ (e k l))) ∙ cut_more p i y k

cut_all : {n : ℕ} (p : ℕ → ℕ → Bool) (y k : ℕ) → n ≤ ROWS → y < n → cut p ROWS y k ≡ p y k
unfolding cut
cut_all p y k few l = and_on _ _ (lt-ltb y ROWS (omega arith))

module _ {n x : ℕ} (z : Set) (p : ℕ → ℕ → Bool) (few : n ≤ ROWS) (low : (y : ℕ) → in_set z y ≡ true → y < n) (off : (i k : ℕ) → in_set z i ≡ false → p i k ≡ false) where
  pairs_skip : (w u : List ℕ) (i : ℕ) → in_set z i ≡ false → AddsPairs n x (cut p i) w u → AddsPairs n x (cut p (i + 1)) w u
  pairs_skip w u i e a = pairs_cong (cut p (i + 1)) (λ y k l m. cut_skip p i y k (λ j h. off i j e) m) a

  pub pairs_begin : (w : List ℕ) → Walk z z × AddsPairs n x (cut p (next z)) w w
  pairs_begin w = walk_begin z (λ e. AddsPairs n x (cut p e) w w) (pairs_skip w w) (pairs_none n x (cut p 0) w (cut_none p))

  pub pairs_turn : {i m : ℕ} {left rest : Set} {w u v : List ℕ} → Walk z left × AddsPairs n x (cut p (next left)) w u → First left i → Rest left rest
      → (in_set z i ≡ true → Mask (p i) m) → Adds x i m u v → Walk z rest × AddsPairs n x (cut p (next rest)) w v
  pairs_turn {i} {m} {left} {rest} {w} {u} {v} inv f h o a = walk_turn z (λ e. AddsPairs n x (cut p e) w v) (pairs_skip w v) inv.0 f h here
    where
      inside : in_set z i ≡ true
      inside = walk_in inv.0 f

      here : AddsPairs n x (cut p (i + 1)) w v
      here =
          pairs_cong (cut p (i + 1)) (λ y k l r. cut_more p i y k)
          (pairs_both (subst (λ (e : ℕ). AddsPairs n x (cut p e) w u) (first_next f) inv.1) (pair_one (p i) few (low i inside) (o inside) a))

  pub pairs_end : (left : Set) {w u : List ℕ} → any_below ROWS (in_set left) ≡ false → AddsPairs n x (cut p (next left)) w u → AddsPairs n x p w u
  pairs_end left {w} {u} e a =
      pairs_cong p (λ y k l m. cut_all p y k few l) (walk_end z (λ e. AddsPairs n x (cut p e) w u) (pairs_skip w u) left e a)

  adds_skip : (w u : List ℕ) (i : ℕ) → in_set z i ≡ false → AddsRow n x (cut p i) w u → AddsRow n x (cut p (i + 1)) w u
  adds_skip w u i e a = adds_cong (cut p (i + 1)) (λ y k l m. cut_skip p i y k (λ j h. off i j e) m) a

  pub adds_begin : (w : List ℕ) → Walk z z × AddsRow n x (cut p (next z)) w w
  adds_begin w = walk_begin z (λ e. AddsRow n x (cut p e) w w) (adds_skip w w) (adds_none n x (cut p 0) w (cut_none p))

  -- a pair that has bytes
  pub adds_turn : {i m : ℕ} {left rest : Set} {w u v r : List ℕ} → x < n → Walk z left × AddsRow n x (cut p (next left)) w u → First left i → Rest left rest
      → (in_set z i ≡ true → Mask (p i) m) → 0 < m → Adds x i m u v → Stored (SOME + 2 * x) (added v (SOME + 2 * x) i) v r
      → Walk z rest × AddsRow n x (cut p (next rest)) w r
  adds_turn {i} {m} {left} {rest} {w} {u} {v} {r} lx inv f h o pos a s = walk_turn z (λ e. AddsRow n x (cut p e) w r) (adds_skip w r) inv.0 f h here
    where
      inside : in_set z i ≡ true
      inside = walk_in inv.0 f

      here : AddsRow n x (cut p (i + 1)) w r
      here =
          adds_cong (cut p (i + 1)) (λ y k l q. cut_more p i y k)
          (adds_both (subst (λ (e : ℕ). AddsRow n x (cut p e) w u) (first_next f) inv.1)
          (some_one (p i) few lx (low i inside) (mask_some (o inside) pos) (pair_one (p i) few (low i inside) (o inside) a) s))

  -- a pair that has none
  pub adds_pass : {i m : ℕ} {left rest : Set} {w u : List ℕ} → Walk z left × AddsRow n x (cut p (next left)) w u → First left i → Rest left rest
      → (in_set z i ≡ true → Mask (p i) m) → m ≤ 0 → Walk z rest × AddsRow n x (cut p (next rest)) w u
  adds_pass {i} {m} {left} {rest} {w} {u} inv f h o none =
      walk_turn z (λ e. AddsRow n x (cut p e) w u) (adds_skip w u) inv.0 f h
      (adds_cong (cut p (i + 1)) (λ y k l q. cut_skip p i y k (mask_none (o (walk_in inv.0 f)) none) q)
      (subst (λ (e : ℕ). AddsRow n x (cut p e) w u) (first_next f) inv.1))

  pub adds_end : (left : Set) {w u : List ℕ} → any_below ROWS (in_set left) ≡ false → AddsRow n x (cut p (next left)) w u → AddsRow n x p w u
  adds_end left {w} {u} e a =
      adds_cong p (λ y k l m. cut_all p y k few l) (walk_end z (λ e. AddsRow n x (cut p e) w u) (adds_skip w u) left e a)

-- ---- laws: all bytes that are shared

pub whole_off : (t : Table) (x : ℕ) (z : Set) (i k : ℕ) → in_set z i ≡ false → whole_bytes t x z i k ≡ false
unfolding whole_bytes
whole_off t x z i k e = and_false_left _ _ e

pub whole_mask : (t : Table) (x i : ℕ) (z : Set) {m : ℕ} → Mask (shared_bit t x i) m → in_set z i ≡ true → Mask (whole_bytes t x z i) m
unfolding whole_bytes
whole_mask t x i z h e = record { low = h.low; is = λ k l. h.is k l ∙ sym (and_on _ _ e) }

shared_some : {t : Table} (x y : ℕ) → Fit t → x < t.rows → overlap (t.row x) (t.row y) ≡ true → any_below LONGEST (shared_bit t x y) ≡ true
unfolding shared_bit
shared_some {t} x y fit l e =
    let b = (overlap_is (t.row x) (t.row y)).0 e in
    let p = touched (t.row x) b.0 (fit.sized x l) b.1 in
    let lo = p.0 in
    let hi = p.1 in
    let is : b.0 ≡ nth t x (b.0 - (t.row x).start) = omega arith in
    any_in (shared_bit t x y) LONGEST (b.0 - (t.row x).start) (omega arith)
    (and_true (subst (λ (c : ℕ). touches (t.row x) c ≡ true) is b.1) (subst (λ (c : ℕ). touches (t.row y) c ≡ true) is b.2))

-- SOME was put, and then the pairs
pub whole_end : {t : Table} {n x : ℕ} {z : Set} {w u v : List ℕ} → Fit t → x < t.rows → n ≤ ROWS → x < n → Over t n x z → Empty x w
    → Stored (SOME + 2 * x) (in_set z) w u → AddsPairs n x (whole_bytes t x z) u v → AddsRow n x (whole_bytes t x z) w v
unfolding whole_bytes
whole_end {t} {n} {x} {z} {w} {u} {v} fit there few lx over empty s a =
    record {
      some = λ y l. here y ∙ is y (which (in_set z y)) ∙ off_left _ _ (empty y);
      past = λ y l. here y ∙ not_so (in_set z y) (λ e. let m = over.low y e in absurd (omega arith)) ∙ sym (empty y);
      pair = λ y k l m. a.pair y k l m ∙ ap (λ (b : Bool). b or (in_set z y and shared_bit t x y k)) (within_bit s.frame (place_of x y k) (λ g. omega arith));
      other_some = λ j o d. set_kept (SOME + 2 * j) (λ g. omega arith) a.frame ∙ set_kept (SOME + 2 * j) (λ g. omega arith) s.frame;
      other_pair = λ j y k o r f d. a.other_pair j y k o r f d ∙ within_bit s.frame (place_of j y k) (λ g. omega arith);
      frame = within_trans (within_widen SOME LOCATION_END (omega arith) (omega arith) s.frame) (within_widen SOME LOCATION_END (omega arith) (omega arith) a.frame);
    }
  where
    here : (y : ℕ) → in_set (Family.nth v SOME x) y ≡ in_set z y
    here y = ap (λ (c : Set). in_set c y) (set_kept (SOME + 2 * x) (λ g. omega arith) a.frame) ∙ s.is y

    is : (y : ℕ) → (in_set z y ≡ true) ⊎ (in_set z y ≡ false) → in_set z y ≡ any_below LONGEST (λ k. in_set z y and shared_bit t x y k)
    is y (inl e) =
        e ∙ sym (let k = any_out (shared_bit t x y) LONGEST (shared_some x y fit there (over.shares y e)) in
        any_in (λ k. in_set z y and shared_bit t x y k) LONGEST k.0 k.1 (and_true e k.2))
    is y (inr e) = e ∙ sym (any_not (λ k. in_set z y and shared_bit t x y k) LONGEST (λ k m. and_false_left _ _ e))

-- ---- laws: bytes that are met

pub parts_off : (t : Table) (x : ℕ) (z : Set) (i k : ℕ) → in_set z i ≡ false → parts_of t x z i k ≡ false
unfolding parts_of
parts_off t x z i k e = and_false_left _ _ e

pub parts_mask : (t : Table) (x : ℕ) (z : Set) {i a b : ℕ} → Mask (shared_bit t x i) a → MetBytes t x i b → in_set z i ≡ true → Mask (parts_of t x z i) (bit_and a b)
unfolding parts_of part_bytes
parts_mask t x z {i} {a} {b} h g e =
    record {
      low = let m = and_le_l a b in let l = h.low in omega arith;
      is = λ k l. bit_of_and a b k ∙ ap (λ (c : Bool). c and bit_of b k) (h.is k l) ∙ under (shared_bit t x i k) _ _ (g.is k l) ∙ sym (and_on _ _ e);
    }

-- what location order is made from stays
pub locate_kept : {t : Table} {n : ℕ} {s w u : List ℕ} → Within SOME LOCATION_END w u → ToLocate t n s w → ToLocate t n s u
locate_kept f g =
    let few = given_few g.given in
    let l = g.locating in
    record {
      given = given_kept f g.given;
      locating =
          record {
            happening = grid_kept (λ h. omega arith) f l.happening;
            available = record { to = grid_on_kept (λ h. omega arith) f l.available.to; by = grid_on_kept (λ h. omega arith) f l.available.by };
            hosted = grid_kept (λ h. omega arith) f l.hosted;
            overlapping = grid_kept (λ h. omega arith) f l.overlapping;
          };
    }
