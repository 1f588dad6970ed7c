-- The sets of rows by number: set k has the members of x whose number is k. Assumes nothing.
use Rattle.std.specs.Prelude.{◌≡◌, refl, Bool, true, false, List, ◌⊎◌, ℕ, ◌+◌, ◌-◌, ◌*◌, ◌≤◌, ◌<◌, length, get_or, eqb, ltb}
use Rattle.std.proofs.Common.{sym, ap, ◌∙◌, inl, inr, arith, eq-eqb, ne_eqb, lt-ltb, le-ltb}
use Rattle.std.proofs.Math.Decide.{dec_lt, ℕ_discrete}
use Rattle.finite.specs.Logic.{◌and◌, ◌or◌, and_on, and_false_left, and_false_right, which, not_both}
use Rattle.finite.specs.Below.{any_below, turn, at_one}
use Rattle.model.specs.Limits.{ROWS}
use Rattle.bits.specs.Bit.{zeros, zeros_in}
use Rattle.bits.specs.Within.{Within}
use Rattle.sets_of_rows.specs.declared.Set.{Set}
use Rattle.sets_of_rows.specs.Member.{in_set, in_none}
use Rattle.sets_of_rows.specs.First.{First, first_next, Rest, next, none_in}
use Rattle.sets_of_rows.specs.Kept.{set_at, Stored, added}
use Rattle.sets_of_rows.specs.Family.{nth, Marks, marks_one}
use Rattle.sets_of_rows.specs.Filling.{Filled}
use Rattle.sets_of_table.specs.Number.{Numbered, same_number, same_key}
use Rattle.sets_of_rows.specs.Walk.{Walk, walk_begin, walk_turn, walk_end, walk_in}

-- ---- definitions

-- the numbers of the members of x are below ROWS; there is a place for each row's
pub record Small (loc : List ℕ) (x : Set) : Type 0 where
  pub long : ROWS ≤ length loc
  pub each : (r : ℕ) → in_set x r ≡ true → get_or loc r 0 < ROWS

-- row j is a member and its number is k
unfoldable pub placed : List ℕ → Set → ℕ → ℕ → Bool
placed loc x k j = in_set x j and eqb (get_or loc j 0) k

-- set k of those from word `base` on has the rows below m that are
pub record PlacedTo (base : ℕ) (loc : List ℕ) (x : Set) (m : ℕ) (s : List ℕ) : Type 0 where
  pub is : (k j : ℕ) → k < ROWS → in_set (nth s base k) j ≡ (ltb j m and placed loc x k j)

-- all of them; no word outside the sets changed
pub record Placed (base : ℕ) (loc : List ℕ) (x : Set) (s u : List ℕ) : Type 0 where
  pub is : (k j : ℕ) → k < ROWS → in_set (nth u base k) j ≡ placed loc x k j
  pub frame : Within base (base + 2 * ROWS) s u

-- row j is in the set of row i's number, of those at the front of `by`
unfoldable pub of_number : List ℕ → List ℕ → ℕ → ℕ → Bool
of_number by loc i j = in_set (nth by 0 (get_or loc i 0)) j

-- set i of those from word `base` on has the members of x with i's key, where i is one, else none
pub record Grouped (base : ℕ) (key : ℕ → ℕ) (x : Set) (s u : List ℕ) : Type 0 where
  pub is : (i j : ℕ) → i < ROWS → in_set (nth u base i) j ≡ (in_set x i and (in_set x j and eqb (key i) (key j)))
  pub frame : Within base (base + 2 * ROWS) s u

-- ---- laws

and_swap : (a b : Bool) → (a and b) ≡ (b and a)
unfolding ◌and◌
and_swap true true = refl
and_swap true false = refl
and_swap false true = refl
and_swap false false = refl

placed_skip : (base : ℕ) (loc : List ℕ) (x : Set) (s : List ℕ) (m : ℕ) → in_set x m ≡ false → PlacedTo base loc x m s → PlacedTo base loc x (m + 1) s
unfolding placed
placed_skip base loc x s m e h = record { is = λ k j l. h.is k j l ∙ go k j (ℕ_discrete j m) (dec_lt j m) }
  where
    go : (k j : ℕ) → Dec (j ≡ m) → Dec (j < m) → (ltb j m and placed loc x k j) ≡ (ltb j (m + 1) and placed loc x k j)
    go k j (yes q) d =
        and_false_right (ltb j m) (placed loc x k j) (and_false_left (in_set x j) (eqb (get_or loc j 0) k) (ap (in_set x) q ∙ e))
        ∙ sym (and_false_right (ltb j (m + 1)) (placed loc x k j) (and_false_left (in_set x j) (eqb (get_or loc j 0) k) (ap (in_set x) q ∙ e)))
    go k j (no q) (yes o) = ap (λ (b : Bool). b and placed loc x k j) (lt-ltb j m o ∙ sym (lt-ltb j (m + 1) (omega arith)))
    go k j (no q) (no o) = ap (λ (b : Bool). b and placed loc x k j) (le-ltb j m (omega arith) ∙ sym (le-ltb j (m + 1) (omega arith)))

pub placed_begin : (base : ℕ) (loc : List ℕ) (x : Set) (s u : List ℕ) → base + 2 * ROWS ≤ length s → u ≡ zeros s base (base + 2 * ROWS - base) → Walk x x × PlacedTo base loc x (next x) u
unfolding set_at
placed_begin base loc x s u l e = walk_begin x (λ m. PlacedTo base loc x m u) (placed_skip base loc x u) start
  where
    word : (k : ℕ) → k < 2 * ROWS → get_or u (base + k) 0 ≡ 0
    word k o =
        ap (λ (w : List ℕ). get_or w (base + k) 0) e ∙ zeros_in s base (base + 2 * ROWS - base) (base + k) (omega arith) (omega arith) (omega arith)

    above : (k : ℕ) → k < ROWS → get_or u (base + 2 * k + 1) 0 ≡ 0
    above k o = let f : base + 2 * k + 1 ≡ base + (2 * k + 1) = omega arith in ap (λ (z : ℕ). get_or u z 0) f ∙ word (2 * k + 1) (omega arith)

    start : PlacedTo base loc x 0 u
    start =
        record {
          is = λ k j o.
              none_in (set_at u (base + 2 * k)) (word (2 * k) (omega arith)) (above k o) j
              ∙ sym (and_false_left (ltb j 0) (placed loc x k j) (le-ltb j 0 (omega arith)));
        }

pub placed_turn : {base : ℕ} {loc : List ℕ} {x left rest : Set} {s u : List ℕ} {i : ℕ} (v : ℕ) → Walk x left × PlacedTo base loc x (next left) s → First left i → Rest left rest
    → v ≡ get_or loc i 0 → v < ROWS → Stored (base + 2 * v) (added s (base + 2 * v) i) s u → Walk x rest × PlacedTo base loc x (next rest) u
unfolding placed
placed_turn {base} {loc} {x} {left} {rest} {s} {u} {i} v inv f h e l p = walk_turn x (λ m. PlacedTo base loc x m u) (placed_skip base loc x u) inv.0 f h done
  where
    marked : Marks base ROWS (λ m. eqb m v) i s u
    marked = marks_one ROWS v i l p

    swap : (a b : ℕ) → eqb a b ≡ eqb b a
    swap a b = go (ℕ_discrete a b)
      where
        go : Dec (a ≡ b) → eqb a b ≡ eqb b a
        go (yes q) = eq-eqb a b q ∙ sym (eq-eqb b a (sym q))
        go (no q) = ne_eqb a b q ∙ sym (ne_eqb b a (λ z. q (sym z)))

    here : (k j : ℕ) → j ≡ i → eqb k v ≡ (in_set x j and eqb (get_or loc j 0) k)
    here k j q =
        swap k v ∙ ap (λ (z : ℕ). eqb z k) (e ∙ ap (λ (z : ℕ). get_or loc z 0) (sym q))
        ∙ sym (and_on (in_set x j) (eqb (get_or loc j 0) k) (ap (in_set x) q ∙ walk_in inv.0 f))

    done : PlacedTo base loc x (i + 1) u
    done =
        record {
          is = λ k j o.
              marked.is k j
              ∙ ap (λ (b : Bool). b or (eqb k v and eqb j i)) (inv.1.is k j o ∙ ap (λ (m : ℕ). ltb j m and placed loc x k j) (first_next f))
              ∙ ap (λ (b : Bool). (ltb j i and placed loc x k j) or b) (and_swap (eqb k v) (eqb j i) ∙ at_one j i (eqb k v) (placed loc x k j) (here k j))
              ∙ turn j i (placed loc x k j);
        }

pub placed_end : {base : ℕ} {loc : List ℕ} {x : Set} {s u : List ℕ} (left : Set) → any_below ROWS (in_set left) ≡ false → PlacedTo base loc x (next left) u
    → Within base (base + 2 * ROWS) s u → Placed base loc x s u
unfolding placed
placed_end {base} {loc} {x} {s} {u} left e h w = record { is = λ k j o. all.is k j o ∙ go k j (dec_lt j ROWS); frame = w }
  where
    all : PlacedTo base loc x ROWS u
    all = walk_end x (λ m. PlacedTo base loc x m u) (placed_skip base loc x u) left e h

    go : (k j : ℕ) → Dec (j < ROWS) → (ltb j ROWS and placed loc x k j) ≡ placed loc x k j
    go k j (yes o) = and_on (ltb j ROWS) (placed loc x k j) (lt-ltb j ROWS o)
    go k j (no o) =
        and_false_left (ltb j ROWS) (placed loc x k j) (le-ltb j ROWS (omega arith))
        ∙ sym (and_false_left (in_set x j) (eqb (get_or loc j 0) k) (in_none x j (omega arith)))

-- ---- laws: groups

low_numbered : {key : ℕ → ℕ} {x : Set} {l : ℕ} {keys loc : List ℕ} → Numbered key x ROWS keys loc l → (r : ℕ) → in_set x r ≡ true → get_or loc r 0 < ROWS
low_numbered {key} {x} {l} {keys} {loc} n r e = go (dec_lt r ROWS)
  where
    go : Dec (r < ROWS) → get_or loc r 0 < ROWS
    go (yes o) = let a = n.low r o e in let b = n.few in omega arith
    go (no o) = not_both e (in_none x r (omega arith))

pub small_numbered : {key : ℕ → ℕ} {x : Set} {l : ℕ} {keys loc : List ℕ} → ROWS ≤ length loc → Numbered key x ROWS keys loc l → Small loc x
small_numbered long n = record { long = long; each = low_numbered n }

pub of_number_is : (by loc : List ℕ) (i k : ℕ) (z : Set) → k ≡ get_or loc i 0 → z ≡ nth by 0 k → (j : ℕ) → in_set z j ≡ of_number by loc i j
unfolding of_number
of_number_is by loc i k z e f j = ap (λ (y : Set). in_set y j) (f ∙ ap (λ (m : ℕ). nth by 0 m) e)

pub grouped : {base : ℕ} {key : ℕ → ℕ} {x : Set} {l : ℕ} {keys loc empty by s u : List ℕ} → Numbered key x ROWS keys loc l → Placed 0 loc x empty by
    → Filled base x (of_number by loc) s u → Grouped base key x s u
unfolding of_number placed
grouped {base} {key} {x} {l} {keys} {loc} {empty} {by} {s} {u} n p f =
    record { is = λ i j o. f.is i j o ∙ go i j o (which (in_set x i)); frame = f.frame }
  where
    same : (i j : ℕ) → in_set x i ≡ true → in_set x j ≡ true → i < ROWS → j < ROWS → eqb (get_or loc j 0) (get_or loc i 0) ≡ eqb (key i) (key j)
    same i j a b o m = go (ℕ_discrete (key i) (key j))
      where
        go : Dec (key i ≡ key j) → eqb (get_or loc j 0) (get_or loc i 0) ≡ eqb (key i) (key j)
        go (yes e) = eq-eqb (get_or loc j 0) (get_or loc i 0) (sym (same_key n i j o m a b e)) ∙ sym (eq-eqb (key i) (key j) e)
        go (no e) = ne_eqb (get_or loc j 0) (get_or loc i 0) (λ q. e (same_number n i j o m a b (sym q))) ∙ sym (ne_eqb (key i) (key j) e)

    member : (i j : ℕ) → in_set x i ≡ true → i < ROWS → (in_set x j ≡ true) ⊎ (in_set x j ≡ false)
        → (in_set x j and eqb (get_or loc j 0) (get_or loc i 0)) ≡ (in_set x j and eqb (key i) (key j))
    member i j a o (inl b) = ap (λ (z : Bool). in_set x j and z) (same i j a b o (bound (dec_lt j ROWS)))
      where
        bound : Dec (j < ROWS) → j < ROWS
        bound (yes m) = m
        bound (no m) = not_both b (in_none x j (omega arith))
    member i j a o (inr b) = and_false_left (in_set x j) _ b ∙ sym (and_false_left (in_set x j) _ b)

    go : (i j : ℕ) → i < ROWS → (in_set x i ≡ true) ⊎ (in_set x i ≡ false)
        → (in_set x i and in_set (nth by 0 (get_or loc i 0)) j) ≡ (in_set x i and (in_set x j and eqb (key i) (key j)))
    go i j o (inl a) =
        ap (λ (z : Bool). in_set x i and z) (p.is (get_or loc i 0) j (low_numbered n i a) ∙ member i j a o (which (in_set x j)))
    go i j o (inr a) = and_false_left (in_set x i) _ a ∙ sym (and_false_left (in_set x i) _ a)
