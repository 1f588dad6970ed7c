-- A grid of sets, one for each row: a loop over the members of a set that puts one set a turn. Every loop of this shape has its invariant
-- and its three steps from here. Assumes nothing.
use Rattle.std.specs.Prelude.{◌≡◌, Bool, false, ℕ, ◌+◌, ◌-◌, ◌*◌, ◌≤◌, ◌<◌, length, ltb}
use Rattle.std.proofs.Common.{sym, ◌∙◌, arith, lt-ltb, le-ltb}
use Rattle.std.proofs.Math.Path.{ap}
use mathlib.Core.List.{List}
use Rattle.std.proofs.Math.Decide.{dec_lt, ℕ_discrete}
use Rattle.std.proofs.Math.ListN.{get_or}
use Rattle.finite.specs.Logic.{◌and◌, and_on, and_false_left, and_false_right}
use Rattle.finite.specs.Below.{any_below}
use Rattle.model.specs.Limits.{ROWS}
use Rattle.bits.specs.Bit.{zeros, zeros_in}
use Rattle.bits.specs.Within.{Within, within_refl, within_trans, within_widen, within_cleared}
use Rattle.sets_of_rows.specs.declared.Set.{Set}
use Rattle.sets_of_rows.specs.Member.{in_set}
use Rattle.sets_of_rows.specs.First.{First, first_next, Rest, next, none_in}
use Rattle.sets_of_rows.specs.Kept.{set_at, set_kept, Stored}
use Rattle.sets_of_rows.specs.Family.{nth}
use Rattle.sets_of_rows.specs.Walk.{Walk, walk_begin, walk_turn, walk_end, walk_in}

-- ---- definitions

-- set k of those from word `base` on is f's where k is a member of x and below m, else empty
pub record RowsTo (base : ℕ) (x : Set) (f : ℕ → ℕ → Bool) (m : ℕ) (u : List ℕ) : Type 0 where
  pub is : (k j : ℕ) → k < ROWS → in_set (nth u base k) j ≡ (ltb k m and (in_set x k and f k j))

-- the invariant: what is left of x, what was put, and what did not change
pub record Filling (base : ℕ) (x : Set) (f : ℕ → ℕ → Bool) (w : List ℕ) (left : Set) (u : List ℕ) : Type 0 where
  pub walk : Walk x left
  pub to : RowsTo base x f (next left) u
  pub frame : Within base (base + 2 * ROWS) w u

-- the contract: each member's set is f's, others are empty; no word outside the grid changed
pub record Filled (base : ℕ) (x : Set) (f : ℕ → ℕ → Bool) (w u : List ℕ) : Type 0 where
  pub is : (k j : ℕ) → k < ROWS → in_set (nth u base k) j ≡ (in_set x k and f k j)
  pub frame : Within base (base + 2 * ROWS) w u

-- ---- laws: the loop

module _ (base : ℕ) (x : Set) (f : ℕ → ℕ → Bool) where
  skip : (u : List ℕ) (m : ℕ) → in_set x m ≡ false → RowsTo base x f m u → RowsTo base x f (m + 1) u
  skip u m e h = record { is = λ k j l. h.is k j l ∙ go k j (ℕ_discrete k m) (dec_lt k m) }
    where
      go : (k j : ℕ) → Dec (k ≡ m) → Dec (k < m) → (ltb k m and (in_set x k and f k j)) ≡ (ltb k (m + 1) and (in_set x k and f k j))
      go k j (yes q) d =
          let z : (in_set x k and f k j) ≡ false = and_false_left (in_set x k) (f k j) (ap (in_set x) q ∙ e) in
          and_false_right (ltb k m) (in_set x k and f k j) z ∙ sym (and_false_right (ltb k (m + 1)) (in_set x k and f k j) z)
      go k j (no q) (yes o) = ap (λ (b : Bool). b and (in_set x k and f k j)) (lt-ltb k m o ∙ sym (lt-ltb k (m + 1) (omega arith)))
      go k j (no q) (no o) = ap (λ (b : Bool). b and (in_set x k and f k j)) (le-ltb k m (omega arith) ∙ sym (le-ltb k (m + 1) (omega arith)))

  -- after clearing
  pub fill_begin : (w : List ℕ) {u : List ℕ} → base + 2 * ROWS ≤ length w → u ≡ zeros w base (base + 2 * ROWS - base) → Filling base x f u x u
  unfolding set_at
  fill_begin w {u} l e = record { walk = both.0; to = both.1; frame = within_refl base (base + 2 * ROWS) u }
    where
      word : (k : ℕ) → k < 2 * ROWS → get_or u (base + k) 0 ≡ 0
      word k o = ap (λ (v : List ℕ). get_or v (base + k) 0) e ∙ zeros_in w base (base + 2 * ROWS - base) (base + k) (omega arith) (omega arith) (omega arith)

      above : (k : ℕ) → k < ROWS → get_or u (base + 2 * k + 1) 0 ≡ 0
      above k o = let g : base + 2 * k + 1 ≡ base + (2 * k + 1) = omega arith in ap (λ (z : ℕ). get_or u z 0) g ∙ word (2 * k + 1) (omega arith)

      start : RowsTo base x f 0 u
      start =
          record {
            is = λ k j o.
                none_in (set_at u (base + 2 * k)) (word (2 * k) (omega arith)) (above k o) j
                ∙ sym (and_false_left (ltb k 0) (in_set x k and f k j) (le-ltb k 0 (omega arith)));
          }

      both : Walk x x × RowsTo base x f (next x) u
      both = walk_begin x (λ m. RowsTo base x f m u) (skip u) start

  -- a turn: the set z of row i is put
  pub fill_turn : {w u v : List ℕ} {left rest : Set} {i : ℕ} (z : Set) → Filling base x f w left u → First left i → Rest left rest
      → ((j : ℕ) → in_set z j ≡ f i j) → Stored (base + 2 * i) (in_set z) u v → Filling base x f w rest v
  fill_turn {w} {u} {v} {left} {rest} {i} z inv low h e p = record { walk = both.0; to = both.1; frame = within_trans inv.frame wide }
    where
      bound : i < ROWS
      bound = low.bound

      wide : Within base (base + 2 * ROWS) u v
      wide = within_widen base (base + 2 * ROWS) (omega arith) (omega (arith, bound)) p.frame

      go : (k j : ℕ) → k < ROWS → Dec (k ≡ i) → Dec (k < i) → in_set (nth v base k) j ≡ (ltb k (i + 1) and (in_set x k and f k j))
      go k j l (yes q) d =
          ap (λ (m : ℕ). in_set (nth v base m) j) q ∙ p.is j ∙ e j ∙ ap (λ (m : ℕ). f m j) (sym q)
          ∙ sym (and_on (in_set x k) (f k j) (ap (in_set x) q ∙ walk_in inv.walk low))
          ∙ sym (and_on (ltb k (i + 1)) (in_set x k and f k j) (lt-ltb k (i + 1) (omega arith)))
      go k j l (no q) d =
          ap (λ (y : Set). in_set y j) (set_kept (base + 2 * k) (λ g. omega (arith, q)) p.frame) ∙ inv.to.is k j l
          ∙ ap (λ (m : ℕ). ltb k m and (in_set x k and f k j)) (first_next low) ∙ ap (λ (b : Bool). b and (in_set x k and f k j)) (same d)
        where
          same : Dec (k < i) → ltb k i ≡ ltb k (i + 1)
          same (yes o) = lt-ltb k i o ∙ sym (lt-ltb k (i + 1) (omega arith))
          same (no o) = le-ltb k i (omega arith) ∙ sym (le-ltb k (i + 1) (omega arith))

      both : Walk x rest × RowsTo base x f (next rest) v
      both =
          walk_turn x (λ m. RowsTo base x f m v) (skip v) inv.walk low h
          (record { is = λ k j l. go k j l (ℕ_discrete k i) (dec_lt k i) })

  pub fill_end : {w u v : List ℕ} (left : Set) → u ≡ zeros w base (base + 2 * ROWS - base) → any_below ROWS (in_set left) ≡ false → Filling base x f u left v
      → Filled base x f w v
  fill_end {w} {u} {v} left c e inv =
      record {
        is = λ k j l. all.is k j l ∙ and_on (ltb k ROWS) (in_set x k and f k j) (lt-ltb k ROWS l);
        frame = within_trans (within_cleared base (base + 2 * ROWS) (omega arith) c) inv.frame;
      }
    where
      all : RowsTo base x f ROWS v
      all = walk_end x (λ m. RowsTo base x f m v) (skip v) left e inv.to
