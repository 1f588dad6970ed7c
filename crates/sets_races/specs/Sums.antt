-- Pairs counted row by row, and sums over the members of a set. Assumes nothing.
use Rattle.std.specs.Prelude.{◌≡◌, refl, Bool, false, ℕ, zero, suc, ◌+◌, ◌-◌, ◌*◌, ◌≤◌, ◌<◌, ltb}
use Rattle.std.proofs.Common.{sym, ap, ◌∙◌, arith, add-one, suc-mul, lt-ltb, le-ltb}
use Rattle.finite.specs.Logic.{◌and◌, and_on, and_false_left}
use Rattle.finite.specs.Below.{any_below}
use Rattle.finite.specs.Count.{one, one_bound, count_below, count_off, count_cong, count_bound, count_pairs, under}
use Rattle.model.specs.Limits.{ROWS}
use Rattle.sets_of_rows.specs.declared.Set.{Set}
use Rattle.sets_of_rows.specs.Member.{in_set}
use Rattle.sets_of_rows.specs.Word.{count_add}
use Rattle.sets_of_rows.specs.First.{First, first_next, Rest, next}
use Rattle.sets_of_rows.specs.Rows.{Rows}
use Rattle.sets_of_rows.specs.Walk.{Walk, walk_begin, walk_turn, walk_end}

-- ---- definitions

-- y comes after x and goes with it
unfoldable pub above : (ℕ → ℕ → Bool) → ℕ → ℕ → Bool
above p x y = ltb x y and p x y

-- how many of n rows come after x and go with it
unfoldable pub row_count : ℕ → (ℕ → ℕ → Bool) → ℕ → ℕ
row_count n p x = count_below n (above p x)

unfoldable pub sum_below : ℕ → (ℕ → ℕ) → ℕ
sum_below zero f = 0
sum_below (suc n) f = sum_below n f + f n

-- 1 for a row of n that passes
unfoldable pub one_of : ℕ → (ℕ → Bool) → ℕ → ℕ
one_of n p k = one (ltb k n and p k)

-- ---- laws: sums

pub sum_bound : (b : ℕ) (f : ℕ → ℕ) (n : ℕ) → ((k : ℕ) → f k ≤ b) → sum_below n f ≤ n * b
unfolding sum_below
sum_bound b f zero h = omega arith
sum_bound b f (suc n) h = rw suc-mul (omega (arith, sum_bound b f n h, h n))

sum_more : (f : ℕ → ℕ) (n : ℕ) → sum_below (n + 1) f ≡ sum_below n f + f n
unfolding sum_below
sum_more f n = rw add-one refl

sum_none : (f : ℕ → ℕ) → sum_below 0 f ≡ 0
unfolding sum_below
sum_none f = refl

-- nothing from n on
sum_past : (f : ℕ → ℕ) (n d : ℕ) → ((k : ℕ) → n ≤ k → f k ≡ 0) → sum_below (n + d) f ≡ sum_below n f
sum_past f n zero h = let e : n + 0 ≡ n = omega arith in ap (λ (z : ℕ). sum_below z f) e
sum_past f n (suc d) h =
    let e : n + suc d ≡ n + d + 1 = omega arith in
    let g = sum_past f n d h in
    let i : sum_below (n + d + 1) f ≡ sum_below (n + d) f + f (n + d) = sum_more f (n + d) in
    let z : f (n + d) ≡ 0 = h (n + d) (omega arith) in
    let y : sum_below (n + suc d) f ≡ sum_below (n + d + 1) f = ap (λ (z : ℕ). sum_below z f) e in
    omega arith

pub sum_stop : (f : ℕ → ℕ) (n m : ℕ) → n ≤ m → ((k : ℕ) → n ≤ k → f k ≡ 0) → sum_below m f ≡ sum_below n f
sum_stop f n m l h = let e : n + (m - n) ≡ m = omega arith in ap (λ (z : ℕ). sum_below z f) (sym e) ∙ sum_past f n (m - n) h

-- ---- laws: counts

count_guard : (n m : ℕ) (p : ℕ → Bool) → n ≤ m → count_below m (λ k. ltb k n and p k) ≡ count_below n p
count_guard n m p l =
    let e : n + (m - n) ≡ m = omega arith in
    let a : count_below (n + (m - n)) (λ k. ltb k n and p k) ≡ count_below n (λ k. ltb k n and p k) + count_below (m - n) (λ j. ltb (n + j) n and p (n + j)) =
    count_add n (m - n) (λ k. ltb k n and p k) in
    let b : count_below (m - n) (λ j. ltb (n + j) n and p (n + j)) ≡ 0 =
    count_off (λ j. ltb (n + j) n and p (n + j)) (m - n) (λ k h. and_false_left (ltb (n + k) n) (p (n + k)) (le-ltb (n + k) n (omega arith))) in
    let c : count_below n (λ k. ltb k n and p k) ≡ count_below n p =
    count_cong (λ k. ltb k n and p k) p n (λ k h. and_on (ltb k n) (p k) (lt-ltb k n h)) in
    let d : count_below m (λ k. ltb k n and p k) ≡ count_below (n + (m - n)) (λ k. ltb k n and p k) =
    ap (λ (z : ℕ). count_below z (λ k. ltb k n and p k)) (sym e) in
    d ∙ a ∙ ap (λ (z : ℕ). count_below n (λ k. ltb k n and p k) + z) b ∙ (let f : count_below n (λ k. ltb k n and p k) + 0 ≡ count_below n (λ k. ltb k n and p k) = omega arith in f) ∙ c

-- how many members a set has
pub set_count : {n : ℕ} {p : ℕ → Bool} {x : Set} → n ≤ ROWS → Rows n p x → count_below ROWS (in_set x) ≡ count_below n p
set_count {n} {p} {x} l h = count_cong (in_set x) (λ k. ltb k n and p k) ROWS (λ k o. h.is k) ∙ count_guard n ROWS p l

sum_ones : (n : ℕ) (p : ℕ → Bool) (m : ℕ) → sum_below m (one_of n p) ≡ count_below m (λ k. ltb k n and p k)
unfolding sum_below count_below one_of
sum_ones n p zero = refl
sum_ones n p (suc m) = ap (λ (z : ℕ). z + one (ltb m n and p m)) (sum_ones n p m)

pub sum_count : (n : ℕ) (p : ℕ → Bool) → n ≤ ROWS → sum_below ROWS (one_of n p) ≡ count_below n p
sum_count n p l = sum_ones n p ROWS ∙ count_guard n ROWS p l

pub row_sum : (n : ℕ) (p : ℕ → ℕ → Bool) (x : ℕ) → n ≤ ROWS → sum_below ROWS (one_of n (above p x)) ≡ row_count n p x
unfolding row_count
row_sum n p x l = sum_count n (above p x) l

-- ---- laws: pairs row by row

row_past : (n : ℕ) (p : ℕ → ℕ → Bool) (k : ℕ) → n ≤ k → row_count n p k ≡ 0
unfolding row_count above
row_past n p k l = count_off (λ y. ltb k y and p k y) n (λ y h. and_false_left (ltb k y) (p k y) (le-ltb k y (omega arith)))

row_more : (n : ℕ) (p : ℕ → ℕ → Bool) (x : ℕ) → row_count (suc n) p x ≡ row_count n p x + one (above p x n)
unfolding row_count count_below
row_more n p x = refl

same : (p : ℕ → ℕ → Bool) (m n : ℕ) → m < n → above p m n ≡ under p n m
unfolding above under
same p m n o = and_on (ltb m n) (p m n) (lt-ltb m n o)

last : (n : ℕ) (p : ℕ → ℕ → Bool) → row_count (suc n) p n ≡ 0
unfolding row_count above
last n p = count_off (λ y. ltb n y and p n y) (suc n) (λ y h. and_false_left (ltb n y) (p n y) (le-ltb n y (omega arith)))

rows_more : (n : ℕ) (p : ℕ → ℕ → Bool) (m : ℕ) → m ≤ n → sum_below m (row_count (suc n) p) ≡ sum_below m (row_count n p) + count_below m (under p n)
unfolding sum_below count_below
rows_more n p zero l = refl
rows_more n p (suc m) l =
    let a = rows_more n p m (omega arith) in
    let b = row_more n p m in
    let c : one (above p m n) ≡ one (under p n m) = ap one (same p m n (omega arith)) in
    omega arith

pub by_rows : (n : ℕ) (p : ℕ → ℕ → Bool) → sum_below n (row_count n p) ≡ count_pairs n p
unfolding sum_below count_pairs
by_rows zero p = refl
by_rows (suc n) p =
    let a = by_rows n p in
    let b = rows_more n p n (omega arith) in
    let c : row_count (suc n) p n ≡ 0 = last n p in
    omega arith

-- what a sum over all rows is
pub sum_pairs : (n : ℕ) (p : ℕ → ℕ → Bool) → n ≤ ROWS → sum_below ROWS (row_count n p) ≡ count_pairs n p
sum_pairs n p l = sum_stop (row_count n p) n ROWS l (row_past n p) ∙ by_rows n p

pub row_fits : (n : ℕ) (p : ℕ → ℕ → Bool) → n ≤ ROWS → (k : ℕ) → row_count n p k ≤ ROWS
unfolding row_count
row_fits n p few k = let a = count_bound (above p k) n in omega arith

pub row_most : (n : ℕ) (p : ℕ → ℕ → Bool) (x c : ℕ) → n ≤ ROWS → c ≡ row_count n p x → c ≤ ROWS
row_most n p x c few e = let a = row_fits n p few x in omega arith

pub one_fits : (n : ℕ) (p : ℕ → Bool) (k : ℕ) → one_of n p k ≤ 1
unfolding one_of
one_fits n p k = one_bound _

-- ---- laws: a walk that sums

module _ (x : Set) (f : ℕ → ℕ) (off : (k : ℕ) → in_set x k ≡ false → f k ≡ 0) where
  skip : (c k : ℕ) → in_set x k ≡ false → c ≡ sum_below k f → c ≡ sum_below (k + 1) f
  skip c k e h = let a = sum_more f k in let b = off k e in omega arith

  pub tally_begin : Walk x x × (0 ≡ sum_below (next x) f)
  tally_begin = walk_begin x (λ m. 0 ≡ sum_below m f) (skip 0) (sym (sum_none f))

  pub tally_turn : {left rest : Set} {i c d : ℕ} → Walk x left × (c ≡ sum_below (next left) f) → First left i → Rest left rest → d ≡ c + f i
      → Walk x rest × (d ≡ sum_below (next rest) f)
  tally_turn {left} {rest} {i} {c} {d} inv low h e =
      let a : c ≡ sum_below i f = inv.1 ∙ ap (λ (m : ℕ). sum_below m f) (first_next low) in
      let b = sum_more f i in
      walk_turn x (λ m. d ≡ sum_below m f) (skip d) inv.0 low h (omega arith)

  pub tally_end : (c : ℕ) (left : Set) → any_below ROWS (in_set left) ≡ false → c ≡ sum_below (next left) f → c ≡ sum_below ROWS f
  tally_end c left e h = walk_end x (λ m. c ≡ sum_below m f) (skip c) left e h

-- it fits
pub tally_fits : (b : ℕ) (f : ℕ → ℕ) {left : Set} {i c : ℕ} → c ≡ sum_below (next left) f → First left i → ((k : ℕ) → f k ≤ b) → (c ≤ i * b) × (i < ROWS)
tally_fits b f {left} {i} {c} h low fits =
    let a : c ≡ sum_below i f = h ∙ ap (λ (m : ℕ). sum_below m f) (first_next low) in
    let g = sum_bound b f i fits in
    (omega arith, low.bound)
