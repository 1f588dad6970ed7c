-- A relation that is written bit by bit from a test: the mirror of the loops on lists, and what bits it leaves.
-- One law serves every such loop. Assumes nothing.
use Rattle.std.specs.Prelude.{◌≡◌, refl, Bool, false, List, ℕ, zero, suc, ◌+◌, ◌*◌, ◌≤◌, ◌<◌, length}
use Rattle.std.proofs.Common.{ap, ◌∙◌, arith, suc-mul, add-one}
use Rattle.std.proofs.Math.Decide.{ℕ_discrete}
use Rattle.finite.specs.Logic.{◌or◌}
use Rattle.bits.specs.Bit.{bit, set_bit_if, length_set_bit_if, set_bit_if_same, set_bit_if_other}
use Rattle.bits.specs.Within.{Within, within_refl, within_trans, within_set_bit_if}
use Rattle.bits.specs.Matrix.{row_apart}

-- ---- definitions

-- bit at + m is set where p m, for each m < n
unfoldable pub row_fill : (ℕ → Bool) → List ℕ → ℕ → ℕ → List ℕ
row_fill p w at zero = w
row_fill p w at (suc n) = set_bit_if (p n) (row_fill p w at n) (at + n)

-- bit at + i * step + j is set where p i j, for each i < r and j < n
unfoldable pub grid_fill : (ℕ → ℕ → Bool) → List ℕ → ℕ → ℕ → ℕ → ℕ → List ℕ
grid_fill p w at step n zero = w
grid_fill p w at step n (suc r) = row_fill (p r) (grid_fill p w at step n r) (at + r * step) n

-- ---- laws: a bit

-- one that was off is what the test says
pub or_fresh : (a b : Bool) → a ≡ false → (a or b) ≡ b
unfolding ◌or◌
or_fresh a b e = rw e refl

-- ---- laws: a row

pub length_row_fill : (p : ℕ → Bool) (w : List ℕ) (at n : ℕ) → length (row_fill p w at n) ≡ length w
unfolding row_fill
length_row_fill p w at zero = refl
length_row_fill p w at (suc n) = length_set_bit_if (p n) (row_fill p w at n) (at + n) ∙ length_row_fill p w at n

-- every bit outside the n is as before
pub row_fill_out : (p : ℕ → Bool) (w : List ℕ) (at n k : ℕ) → (at ≤ k → at + n ≤ k) → bit (row_fill p w at n) k ≡ bit w k
unfolding row_fill
row_fill_out p w at zero k h = refl
row_fill_out p w at (suc n) k h =
    set_bit_if_other (p n) (row_fill p w at n) (at + n) k (λ e. let g : at + suc n ≤ k = h (omega arith) in omega arith)
    ∙ row_fill_out p w at n k (λ a. let g : at + suc n ≤ k = h a in omega arith)

pub row_fill_in : (p : ℕ → Bool) (w : List ℕ) (at n m : ℕ) → at + n ≤ 64 * length w → m < n → bit (row_fill p w at n) (at + m) ≡ (bit w (at + m) or p m)
unfolding row_fill
row_fill_in p w at zero m l b = absurd (omega arith)
row_fill_in p w at (suc n) m l b = go (ℕ_discrete m n) (λ h. row_fill_in p w at n m (omega arith) h)
  where
    go : Dec (m ≡ n) → (m < n → bit (row_fill p w at n) (at + m) ≡ (bit w (at + m) or p m))
        → bit (set_bit_if (p n) (row_fill p w at n) (at + n)) (at + m) ≡ (bit w (at + m) or p m)
    go (yes e) ih =
        rw e
        (set_bit_if_same (p n) (row_fill p w at n) (at + n) (rw length_row_fill (omega arith))
        ∙ ap (λ (x : Bool). x or p n) (row_fill_out p w at n (at + n) (λ h. omega arith)))
    go (no e) ih = set_bit_if_other (p n) (row_fill p w at n) (at + n) (at + m) (λ q. e (omega arith)) ∙ ih (omega arith)

pub within_row_fill : (a b : ℕ) (p : ℕ → Bool) (w : List ℕ) (at n : ℕ) → 64 * a ≤ at → at + n ≤ 64 * b → Within a b w (row_fill p w at n)
unfolding row_fill
within_row_fill a b p w at zero l m = within_refl a b w
within_row_fill a b p w at (suc n) l m =
    within_trans (within_row_fill a b p w at n l (omega arith)) (within_set_bit_if a b (p n) (row_fill p w at n) (at + n) (omega arith) (omega arith))

-- ---- laws: a grid

pub length_grid_fill : (p : ℕ → ℕ → Bool) (w : List ℕ) (at step n r : ℕ) → length (grid_fill p w at step n r) ≡ length w
unfolding grid_fill
length_grid_fill p w at step n zero = refl
length_grid_fill p w at step n (suc r) = length_row_fill (p r) (grid_fill p w at step n r) (at + r * step) n ∙ length_grid_fill p w at step n r

-- every bit outside the r rows is as before
pub grid_fill_out : (p : ℕ → ℕ → Bool) (w : List ℕ) (at step n r k : ℕ) → n ≤ step → (at ≤ k → at + r * step ≤ k)
    → bit (grid_fill p w at step n r) k ≡ bit w k
unfolding grid_fill
grid_fill_out p w at step n zero k s h = refl
grid_fill_out p w at step n (suc r) k s h =
    let e : suc r * step ≡ r * step + step = suc-mul r step in
    row_fill_out (p r) (grid_fill p w at step n r) (at + r * step) n k (λ a. let g : at + suc r * step ≤ k = h (omega arith) in omega arith)
    ∙ grid_fill_out p w at step n r k s (λ a. let g : at + suc r * step ≤ k = h a in omega arith)

pub grid_fill_in : (p : ℕ → ℕ → Bool) (w : List ℕ) (at step n r i j : ℕ) → n ≤ step → at + r * step ≤ 64 * length w → i < r → j < n
    → bit (grid_fill p w at step n r) (at + i * step + j) ≡ (bit w (at + i * step + j) or p i j)
unfolding grid_fill
grid_fill_in p w at step n zero i j s l b c = absurd (omega arith)
grid_fill_in p w at step n (suc r) i j s l b c = go (ℕ_discrete i r) (λ h. grid_fill_in p w at step n r i j s (omega (arith, suc-mul r step)) h c)
  where
    g : List ℕ
    g = grid_fill p w at step n r

    go : Dec (i ≡ r) → (i < r → bit g (at + i * step + j) ≡ (bit w (at + i * step + j) or p i j))
        → bit (row_fill (p r) g (at + r * step) n) (at + i * step + j) ≡ (bit w (at + i * step + j) or p i j)
    go (yes e) ih =
        rw e
        (row_fill_in (p r) g (at + r * step) n j (rw length_grid_fill (omega (arith, suc-mul r step))) c
        ∙ ap (λ (x : Bool). x or p r j) (grid_fill_out p w at step n r (at + r * step + j) s (λ h. omega arith)))
    go (no e) ih =
        let q : i * step + step ≤ r * step = row_apart i r step (omega arith) in
        row_fill_out (p r) g (at + r * step) n (at + i * step + j) (λ h. absurd (omega arith)) ∙ ih (omega arith)

pub within_grid_fill : (a b : ℕ) (p : ℕ → ℕ → Bool) (w : List ℕ) (at step n r : ℕ) → n ≤ step → 64 * a ≤ at → at + r * step ≤ 64 * b
    → Within a b w (grid_fill p w at step n r)
unfolding grid_fill
within_grid_fill a b p w at step n zero s l m = within_refl a b w
within_grid_fill a b p w at step n (suc r) s l m =
    let e : suc r * step ≡ r * step + step = suc-mul r step in
    within_trans (within_grid_fill a b p w at step n r s l (omega arith))
    (within_row_fill a b (p r) (grid_fill p w at step n r) (at + r * step) n (omega arith) (omega arith))

-- ---- laws: a turn of a loop

pub row_fill_none : (p : ℕ → Bool) (w : List ℕ) (at : ℕ) → w ≡ row_fill p w at 0
unfolding row_fill
row_fill_none p w at = refl

-- a turn whose body is one `put_if`
pub row_fill_put : (p : ℕ → Bool) (w₀ w u : List ℕ) (at n k : ℕ) (b : Bool) → w ≡ row_fill p w₀ at n → b ≡ p n → k ≡ at + n → u ≡ set_bit_if b w k
    → u ≡ row_fill p w₀ at (n + 1)
unfolding row_fill
row_fill_put p w₀ w u at n k b e t q s = rw (add-one, s, q, e, t)

pub grid_fill_none : (p : ℕ → ℕ → Bool) (w : List ℕ) (at step n : ℕ) → w ≡ grid_fill p w at step n 0
unfolding grid_fill
grid_fill_none p w at step n = refl

pub grid_fill_more : (p : ℕ → ℕ → Bool) (w₀ w u : List ℕ) (at step n r : ℕ) → w ≡ grid_fill p w₀ at step n r → u ≡ row_fill (p r) w (at + r * step) n
    → u ≡ grid_fill p w₀ at step n (r + 1)
unfolding grid_fill
grid_fill_more p w₀ w u at step n r e s = rw (add-one, s, e)
