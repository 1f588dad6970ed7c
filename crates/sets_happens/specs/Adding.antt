-- Loops over the members of a set that add one set a turn to what a row of a grid has, or put one where there was none. Assumes nothing.
use Rattle.std.specs.Prelude.{◌≡◌, refl, Bool, false, List, ℕ, ◌+◌, ◌-◌, ◌*◌, ◌≤◌, ◌<◌, length, get_or, ltb}
use Rattle.std.proofs.Common.{sym, ap, subst, ◌∙◌, arith, lt-ltb, le-ltb}
use Rattle.std.proofs.Math.Decide.{dec_lt, ℕ_discrete}
use Rattle.finite.specs.Logic.{◌and◌, ◌or◌, and_on, and_false_left, and_false_right, or_off}
use Rattle.finite.specs.Below.{any_below}
use Rattle.model.specs.Limits.{ROWS}
use Rattle.bits.specs.Bit.{zeros, zeros_in}
use Rattle.bits.specs.Within.{Within}
use Rattle.model_closing.specs.Tests.{or_off_left}
use Rattle.sets_of_rows.specs.declared.Set.{Set}
use Rattle.sets_of_rows.specs.Member.{in_set}
use Rattle.sets_of_rows.specs.First.{First, first_next, Rest, next, none_in}
use Rattle.sets_of_rows.specs.Kept.{set_at, set_kept, Stored, joined}
use Rattle.sets_of_rows.specs.Family.{nth}
use Rattle.sets_of_rows.specs.Rows.{Rows, rows_in_lem}
use Rattle.sets_of_rows.specs.Walk.{Walk, walk_begin, walk_turn, walk_end, walk_in}
use Rattle.sets_grids.specs.Regions.{AVAILABLE_AT, AVAILABLE_VISIBLE, AVAILABLE_AVAILABLE}
use Rattle.sets_grids.specs.Grid.{Grid, AddedGrid}

-- ---- definitions

-- row i of the grid got z beside what it had, or z alone; other rows are as before
pub record Adds (base i : ℕ) (z : ℕ → Bool) (w u : List ℕ) : Type 0 where
  pub is : (j : ℕ) → in_set (nth u base i) j ≡ (in_set (nth w base i) j or z j)
  pub keep : (k : ℕ) → k < ROWS → (k ≡ i → ⊥) → nth u base k ≡ nth w base k

pub record Puts (base i : ℕ) (z : ℕ → Bool) (w u : List ℕ) : Type 0 where
  pub is : (j : ℕ) → in_set (nth u base i) j ≡ z j
  pub keep : (k : ℕ) → k < ROWS → (k ≡ i → ⊥) → nth u base k ≡ nth w base k

-- no row has any
pub record Empty (base : ℕ) (w : List ℕ) : Type 0 where
  pub is : (k j : ℕ) → k < ROWS → in_set (nth w base k) j ≡ false

-- no availability operation has any
pub record NoneAvailable (w : List ℕ) : Type 0 where
  pub rows : Empty AVAILABLE_AT w
  pub visibles : Empty AVAILABLE_VISIBLE w
  pub availables : Empty AVAILABLE_AVAILABLE w

-- each member of x below m got what f says
pub record AddedTo (base : ℕ) (x : Set) (f : ℕ → ℕ → Bool) (w : List ℕ) (m : ℕ) (u : List ℕ) : Type 0 where
  pub is : (k j : ℕ) → k < ROWS → in_set (nth u base k) j ≡ (in_set (nth w base k) j or (ltb k m and (in_set x k and f k j)))

-- the invariant
pub record Adding (base : ℕ) (x : Set) (f : ℕ → ℕ → Bool) (w : List ℕ) (left : Set) (u : List ℕ) : Type 0 where
  pub walk : Walk x left
  pub to : AddedTo base x f w (next left) u

-- ---- laws: one row

keeps : {base c d : ℕ} {u v : List ℕ} → (c < base + 2 * ROWS → d ≤ base) → Within c d u v → (k : ℕ) → k < ROWS → nth v base k ≡ nth u base k
keeps {base} {c} {d} off f k l = set_kept (base + 2 * k) (λ h. let z : d ≤ base = off (omega arith) in omega arith) f

pub adds_join : {base i : ℕ} (z : Set) {u v : List ℕ} → Stored (base + 2 * i) (joined u (base + 2 * i) z) u v → Adds base i (in_set z) u v
unfolding joined
adds_join {base} {i} z p = record { is = p.is; keep = λ k l d. set_kept (base + 2 * k) (λ g. omega (arith, d)) p.frame }

pub puts_put : {base i : ℕ} (z : Set) {u v : List ℕ} → Stored (base + 2 * i) (in_set z) u v → Puts base i (in_set z) u v
puts_put {base} {i} z p = record { is = p.is; keep = λ k l d. set_kept (base + 2 * k) (λ g. omega (arith, d)) p.frame }

pub adds_cong : {base i : ℕ} {z y : ℕ → Bool} {u v : List ℕ} → ((j : ℕ) → z j ≡ y j) → Adds base i z u v → Adds base i y u v
adds_cong {base} {i} {u = u} e p = record { is = λ j. p.is j ∙ ap (λ (b : Bool). in_set (nth u base i) j or b) (e j); keep = p.keep }

pub puts_cong : {base i : ℕ} {z y : ℕ → Bool} {u v : List ℕ} → ((j : ℕ) → z j ≡ y j) → Puts base i z u v → Puts base i y u v
puts_cong e p = record { is = λ j. p.is j ∙ e j; keep = p.keep }

pub puts_adds : {base i : ℕ} {z : ℕ → Bool} {u v : List ℕ} → ((j : ℕ) → in_set (nth u base i) j ≡ false) → Puts base i z u v → Adds base i z u v
puts_adds e p = record { is = λ j. p.is j ∙ sym (or_off_left _ _ (e j)); keep = p.keep }

-- nothing is added
pub adds_none : {base i : ℕ} {z : ℕ → Bool} {w : List ℕ} → ((j : ℕ) → z j ≡ false) → Adds base i z w w
adds_none e = record { is = λ j. sym (or_off _ _ (e j)); keep = λ k l d. refl }

-- changes elsewhere, after and before
pub adds_after : {base i c d : ℕ} {z : ℕ → Bool} {w u v : List ℕ} → i < ROWS → (c < base + 2 * ROWS → d ≤ base) → Within c d u v → Adds base i z w u → Adds base i z w v
adds_after {i = i} l off f p =
    record { is = λ j. ap (λ (x : Set). in_set x j) (keeps off f i l) ∙ p.is j; keep = λ k m d. keeps off f k m ∙ p.keep k m d }

pub adds_before : {base i c d : ℕ} {z : ℕ → Bool} {w u v : List ℕ} → i < ROWS → (c < base + 2 * ROWS → d ≤ base) → Within c d w u → Adds base i z u v → Adds base i z w v
adds_before {i = i} {z = z} l off f p =
    record { is = λ j. p.is j ∙ ap (λ (x : Set). in_set x j or z j) (keeps off f i l); keep = λ k m d. p.keep k m d ∙ keeps off f k m }

pub puts_after : {base i c d : ℕ} {z : ℕ → Bool} {w u v : List ℕ} → i < ROWS → (c < base + 2 * ROWS → d ≤ base) → Within c d u v → Puts base i z w u → Puts base i z w v
puts_after {i = i} l off f p =
    record { is = λ j. ap (λ (x : Set). in_set x j) (keeps off f i l) ∙ p.is j; keep = λ k m d. keeps off f k m ∙ p.keep k m d }

pub puts_before : {base i c d : ℕ} {z : ℕ → Bool} {w u v : List ℕ} → (c < base + 2 * ROWS → d ≤ base) → Within c d w u → Puts base i z u v → Puts base i z w v
puts_before off f p = record { is = p.is; keep = λ k m d. p.keep k m d ∙ keeps off f k m }

-- ---- laws: grids that were cleared

pub empty_kept : {base c d : ℕ} {u v : List ℕ} → (c < base + 2 * ROWS → d ≤ base) → Within c d u v → Empty base u → Empty base v
empty_kept off f h = record { is = λ k j l. ap (λ (x : Set). in_set x j) (keeps off f k l) ∙ h.is k j l }

pub empty_cleared : (base a b : ℕ) (w : List ℕ) {u : List ℕ} → a ≤ base → base + 2 * ROWS ≤ b → b ≤ length w → u ≡ zeros w a (b - a) → Empty base u
unfolding set_at
empty_cleared base a b w {u} lo hi l e = record { is = λ k j o. none_in (set_at u (base + 2 * k)) (word (base + 2 * k) (omega arith) (omega arith)) (word (base + 2 * k + 1) (omega arith) (omega arith)) j }
  where
    word : (k : ℕ) → base ≤ k → k < base + 2 * ROWS → get_or u k 0 ≡ 0
    word k m o = ap (λ (v : List ℕ). get_or v k 0) e ∙ zeros_in w a (b - a) k (omega arith) (omega arith) (omega arith)

-- ---- laws: the loop

module _ (base : ℕ) (x : Set) (f : ℕ → ℕ → Bool) (w : List ℕ) where
  skip : (u : List ℕ) (m : ℕ) → in_set x m ≡ false → AddedTo base x f w m u → AddedTo base x f w (m + 1) u
  skip u m e h = record { is = λ k j l. h.is k j l ∙ ap (λ (b : Bool). in_set (nth w base k) j or b) (go k j (ℕ_discrete k m) (dec_lt k m)) }
    where
      go : (k j : ℕ) → Dec (k ≡ m) → Dec (k < m) → (ltb k m and (in_set x k and f k j)) ≡ (ltb k (m + 1) and (in_set x k and f k j))
      go k j (yes q) d =
          let z : (in_set x k and f k j) ≡ false = and_false_left (in_set x k) (f k j) (ap (in_set x) q ∙ e) in
          and_false_right (ltb k m) (in_set x k and f k j) z ∙ sym (and_false_right (ltb k (m + 1)) (in_set x k and f k j) z)
      go k j (no q) (yes o) = ap (λ (b : Bool). b and (in_set x k and f k j)) (lt-ltb k m o ∙ sym (lt-ltb k (m + 1) (omega arith)))
      go k j (no q) (no o) = ap (λ (b : Bool). b and (in_set x k and f k j)) (le-ltb k m (omega arith) ∙ sym (le-ltb k (m + 1) (omega arith)))

  pub add_begin : Adding base x f w x w
  add_begin = record { walk = both.0; to = both.1 }
    where
      start : AddedTo base x f w 0 w
      start = record { is = λ k j o. sym (or_off _ _ (and_false_left (ltb k 0) (in_set x k and f k j) (le-ltb k 0 (omega arith)))) }

      both : Walk x x × AddedTo base x f w (next x) w
      both = walk_begin x (λ m. AddedTo base x f w m w) (skip w) start

  -- the row of this turn is as it was
  pub row_before : {u : List ℕ} {left : Set} {i : ℕ} → Adding base x f w left u → First left i → (j : ℕ) → in_set (nth u base i) j ≡ in_set (nth w base i) j
  row_before {u} {left} {i} inv low j =
      inv.to.is i j low.bound
      ∙ or_off _ _ (and_false_left (ltb i (next left)) (in_set x i and f i j) (le-ltb i (next left) (omega (arith, first_next low))))

  pub add_turn : {u v : List ℕ} {left rest : Set} {i : ℕ} → Adding base x f w left u → First left i → Rest left rest → Adds base i (f i) u v
      → Adding base x f w rest v
  add_turn {u} {v} {left} {rest} {i} inv low h p = record { walk = both.0; to = both.1 }
    where
      here : (j : ℕ) → in_set (nth v base i) j ≡ (in_set (nth w base i) j or (ltb i (i + 1) and (in_set x i and f i j)))
      here j =
          p.is j ∙ ap (λ (b : Bool). b or f i j) (row_before inv low j)
          ∙ ap (λ (b : Bool). in_set (nth w base i) j or b)
          (sym (and_on (in_set x i) (f i j) (walk_in inv.walk low)) ∙ sym (and_on (ltb i (i + 1)) (in_set x i and f i j) (lt-ltb i (i + 1) (omega arith))))

      go : (k j : ℕ) → k < ROWS → Dec (k ≡ i) → Dec (k < i) → in_set (nth v base k) j ≡ (in_set (nth w base k) j or (ltb k (i + 1) and (in_set x k and f k j)))
      go k j l (yes q) d = subst (λ (m : ℕ). in_set (nth v base m) j ≡ (in_set (nth w base m) j or (ltb m (i + 1) and (in_set x m and f m j)))) (sym q) (here j)
      go k j l (no q) d =
          ap (λ (y : Set). in_set y j) (p.keep k l q) ∙ inv.to.is k j l
          ∙ ap (λ (m : ℕ). in_set (nth w base k) j or (ltb k m and (in_set x k and f k j))) (first_next low)
          ∙ ap (λ (b : Bool). in_set (nth w base k) j or (b and (in_set x k and f k j))) (same d)
        where
          same : Dec (k < i) → ltb k i ≡ ltb k (i + 1)
          same (yes o) = lt-ltb k i o ∙ sym (lt-ltb k (i + 1) (omega arith))
          same (no o) = le-ltb k i (omega arith) ∙ sym (le-ltb k (i + 1) (omega (arith, q)))

      both : Walk x rest × AddedTo base x f w (next rest) v
      both = walk_turn x (λ m. AddedTo base x f w m v) (skip v) inv.walk low h (record { is = λ k j l. go k j l (ℕ_discrete k i) (dec_lt k i) })

  pub add_end : {v : List ℕ} (left : Set) → any_below ROWS (in_set left) ≡ false → Adding base x f w left v
      → (k j : ℕ) → k < ROWS → in_set (nth v base k) j ≡ (in_set (nth w base k) j or (in_set x k and f k j))
  add_end {v} left e inv k j l =
      all.is k j l ∙ ap (λ (b : Bool). in_set (nth w base k) j or b) (and_on (ltb k ROWS) (in_set x k and f k j) (lt-ltb k ROWS l))
    where
      all : AddedTo base x f w ROWS v
      all = walk_end x (λ m. AddedTo base x f w m v) (skip v) left e inv.to

-- ---- laws: what was added, in words of the model

by_on : (j n : ℕ) (b g r : Bool) → (j < n → (b and g) ≡ r) → (b and (ltb j n and g)) ≡ (ltb j n and r)
by_on j n b g r h = go (dec_lt j n)
  where
    go : Dec (j < n) → (b and (ltb j n and g)) ≡ (ltb j n and r)
    go (yes l) = ap (λ (c : Bool). b and c) (and_on (ltb j n) g (lt-ltb j n l)) ∙ h l ∙ sym (and_on (ltb j n) r (lt-ltb j n l))
    go (no l) =
        and_false_right b (ltb j n and g) (and_false_left (ltb j n) g (le-ltb j n (omega arith))) ∙ sym (and_false_left (ltb j n) r (le-ltb j n (omega arith)))

module _ {base n : ℕ} {x : Set} {on : ℕ → Bool} {w v : List ℕ} (g r : ℕ → ℕ → Bool) (few : n ≤ ROWS) (h : Rows n on x)
    (same : (i j : ℕ) → i < n → j < n → (on i and g i j) ≡ r i j) (left : Set) (done : any_below ROWS (in_set left) ≡ false)
    (inv : Adding base x (λ i j. ltb j n and g i j) w left v) where
  pub added_row : (i j : ℕ) → i < n → in_set (nth v base i) j ≡ (in_set (nth w base i) j or (ltb j n and r i j))
  added_row i j l =
      add_end base x (λ k m. ltb m n and g k m) w left done inv i j (omega arith)
      ∙ ap (λ (b : Bool). in_set (nth w base i) j or b)
      (ap (λ (b : Bool). b and (ltb j n and g i j)) (rows_in_lem h i l) ∙ by_on j n (on i) (g i j) (r i j) (λ m. same i j l m))

  pub added_grid : {c d : ℕ} → Within c d w v → AddedGrid c d base n r w v
  added_grid f = record { row = added_row; frame = f }

  pub made_grid : Empty base w → Grid base n r v
  made_grid e = record { row = λ i l. record { is = λ j. added_row i j l ∙ or_off_left _ _ (e.is i j (omega arith)) } }
