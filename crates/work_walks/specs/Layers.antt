-- Layers of walks as bits of a list of words: layer k is the numbers from which k steps lead to one. Steps and layers are matrices of
-- one stride, at two places. Assumes nothing.
use Rattle.std.specs.Prelude.{◌≡◌, Bool, List, ℕ, suc, ◌+◌, ◌*◌, ◌≤◌, ◌<◌}
use Rattle.std.proofs.Math.Path.{ap}
use Rattle.std.proofs.Common.{suc-mul, arith}
use native.Mathlib.Nat.{mul-le-mul_right}
use Rattle.finite.specs.Logic.{◌and◌}
use Rattle.finite.specs.Below.{any_below, least, least_cong}
use Rattle.finite.specs.Walk.{walk}
use Rattle.bits.specs.Bit.{bit}
use Rattle.bits.specs.Matrix.{AREA_LIMIT, rel}
use Rattle.work_walks.specs.Left.{next_of}

-- ---- definitions

-- the n + 1 layers over n numbers fit in so many words
abbrev pub Room : ℕ → ℕ → ℕ → ℕ → Type 0
Room layers stride n size = (n ≤ 64 * stride) × (layers + n * stride + stride ≤ size) × (layers + n * stride + stride ≤ AREA_LIMIT)

-- they do, and the steps stand before them
pub record Laid (steps layers stride n size : ℕ) : Type 0 where
  pub room : Room layers stride n size
  pub apart : steps + n * stride ≤ layers

-- the first bit of the layer after layer k
abbrev pub after : ℕ → ℕ → ℕ → ℕ
after layers stride k = (layers + k * stride + stride) * 64

-- a step leads from z to y, and y is in layer k
unfoldable pub step_bit : List ℕ → ℕ → ℕ → ℕ → ℕ → ℕ → ℕ → Bool
step_bit w steps layers stride k z y = rel w steps stride z y and rel w layers stride k y

-- some step leads from z into layer k
unfoldable pub reaches : List ℕ → ℕ → ℕ → ℕ → ℕ → ℕ → ℕ → Bool
reaches w steps layers stride n k z = any_below n (step_bit w steps layers stride k z)

-- z is in layer j + 1
unfoldable pub in_layer : List ℕ → ℕ → ℕ → ℕ → ℕ → Bool
in_layer w layers stride z j = rel w layers stride (suc j) z

-- layer k is the numbers from which k steps lead to x
pub record Layers (steps layers stride n x : ℕ) (w : List ℕ) : Type 0 where
  pub cell : (k z : ℕ) → k ≤ n → z < n → rel w layers stride k z ≡ walk n (rel w steps stride) x k z

-- the same of the layers up to one
pub record LayersTo (steps layers stride n x top : ℕ) (w : List ℕ) : Type 0 where
  pub cell : (k z : ℕ) → k ≤ top → z < n → rel w layers stride k z ≡ walk n (rel w steps stride) x k z

-- j + 1 steps lead from x back to it
unfoldable pub back : ℕ → (ℕ → ℕ → Bool) → ℕ → ℕ → Bool
back n e x j = walk n e x (suc j) x

-- r + 1 is the least number of steps that lead from x back to it, and layers up to that one are made; r is n where there is none
pub record Returns (steps layers stride n x r : ℕ) (w : List ℕ) : Type 0 where
  pub made : r < n → LayersTo steps layers stride n x (r + 1) w
  pub least : r ≡ least n (back n (rel w steps stride) x)
  pub bound : r ≤ n

-- ---- laws

-- steps that stand before the layers for as many numbers as a row has bits do so for fewer
pub room_apart : (steps layers stride : ℕ) {n size : ℕ} → steps + 64 * stride * stride ≤ layers → Room layers stride n size → steps + n * stride ≤ layers
room_apart steps layers stride far room = omega (arith, mul-le-mul_right stride room.0)

-- so that they are laid
pub room_laid : (steps layers stride : ℕ) {n size : ℕ} → steps + 64 * stride * stride ≤ layers → Room layers stride n size → Laid steps layers stride n size
room_laid steps layers stride far room = record { room = room; apart = room_apart steps layers stride far room }

-- the place of a bit of layer k + 1
pub after_place : (layers stride k z : ℕ) → (layers + suc k * stride) * 64 + z ≡ after layers stride k + z
after_place layers stride k z = let e : suc k * stride ≡ k * stride + stride = suc-mul k stride in omega arith

pub in_layer_bit : (w : List ℕ) (layers stride z j : ℕ) → in_layer w layers stride z j ≡ bit w (after layers stride j + z)
unfolding in_layer rel
in_layer_bit w layers stride z j = ap (bit w) (after_place layers stride j z)

module _ {steps layers stride n x : ℕ} {w : List ℕ} (h : Layers steps layers stride n x w) where
  -- the least next number, by the bits and by walks
  pub next_is : (k z : ℕ) → k ≤ n → least n (step_bit w steps layers stride k z) ≡ next_of n (rel w steps stride) x k z
  unfolding step_bit next_of
  next_is k z l =
      least_cong (step_bit w steps layers stride k z) (λ y. rel w steps stride z y and walk n (rel w steps stride) x k y) n
      (λ y o. ap (λ (b : Bool). rel w steps stride z y and b) (h.cell k y l o))

  -- the least layer
  pub layer_is : (z : ℕ) → z < n → least n (in_layer w layers stride z) ≡ least n (λ j. walk n (rel w steps stride) x (suc j) z)
  unfolding in_layer
  layer_is z l = least_cong (in_layer w layers stride z) (λ j. walk n (rel w steps stride) x (suc j) z) n (λ j o. h.cell (suc j) z o l)

-- the least next number of layers up to one
pub next_to : {steps layers stride n x top : ℕ} {w : List ℕ} → LayersTo steps layers stride n x top w → (k z : ℕ) → k ≤ top
    → least n (step_bit w steps layers stride k z) ≡ next_of n (rel w steps stride) x k z
unfolding step_bit next_of
next_to {steps} {layers} {stride} {n} {x} {w = w} h k z l =
    least_cong (step_bit w steps layers stride k z) (λ y. rel w steps stride z y and walk n (rel w steps stride) x k y) n
    (λ y o. ap (λ (b : Bool). rel w steps stride z y and b) (h.cell k y l o))
