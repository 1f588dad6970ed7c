-- What a caller takes from the bits to the cycle that is shown: of any relation, and of one that the edges' region holds.
-- Assumes nothing.
use Rattle.std.specs.Prelude.{◌≡◌, Bool, true, List, ℕ, suc, ◌+◌, ◌≤◌, ◌<◌, length, get_or}
use Rattle.std.proofs.Math.Path.{refl}
use Rattle.std.proofs.Common.{sym, ap, subst, ◌∙◌, add-one}
use Rattle.finite.specs.Below.{least_is, least_hit}
use Rattle.finite.specs.Lists.{Written}
use Rattle.finite.specs.Walk.{walk, on_cycle, cycle_start, cycle_size, trail, cycle}
use Rattle.finite.specs.Cycle.{length_trail, cycle_canonical, cycle_start_cong, cycle_cong}
use Rattle.bits.specs.Matrix.{rel}
use Rattle.bits.specs.Stage.{Holds}
use Rattle.model.specs.Limits.{ROWS, WORK}
use Rattle.work_area.specs.Regions.{EDGE, LAYERS, GRID}
use Rattle.work_walks.specs.Layers.{back, LayersTo, Returns}

-- n rows in an area with room: `size` edges lead from row x back to it, and the layers up to that many are made
pub record Closes (n x size : ℕ) (w : List ℕ) : Type 0 where
  pub few : n ≤ ROWS
  pub room : WORK ≤ length w
  pub row : x < n
  pub short : size ≤ n
  pub made : LayersTo EDGE LAYERS GRID n x size w
  pub leads : walk n (rel w EDGE GRID) x size x ≡ true

-- ---- of the layers

-- the first layer that the first row is in again says how long the cycle is
pub layer_size : {n x j : ℕ} {w : List ℕ} → Returns EDGE LAYERS GRID n x j w → j + 1 ≡ cycle_size n (rel w EDGE GRID) x
unfolding cycle_size back
layer_size {j = j} h = add-one j ∙ ap suc h.least

-- ---- of any relation

module _ (n : ℕ) (e : ℕ → ℕ → Bool) where
  -- the shortest way back to the first row is there, and is no longer than the rows are many
  pub shown_size : cycle_start n e < n
      → (cycle_size n e (cycle_start n e) ≤ n) × (walk n e (cycle_start n e) (cycle_size n e (cycle_start n e)) (cycle_start n e) ≡ true)
  unfolding cycle_start on_cycle cycle_size
  shown_size b = least_hit (λ k. walk n e (cycle_start n e) (suc k) (cycle_start n e)) n ((least_is (on_cycle n e) n).hit b)

  pub shown_length : length (cycle n e) ≡ cycle_size n e (cycle_start n e)
  unfolding cycle
  shown_length = length_trail n e _ _ _

  pub shown_below : cycle_start n e < n → (k : ℕ) → k < length (cycle n e) → get_or (cycle n e) k 0 < n
  shown_below b = (cycle_canonical n e b).below

  -- the trail of that many edges from the first row is the cycle
  pub shown_trail : {x size : ℕ} → x ≡ cycle_start n e → size ≡ cycle_size n e x → trail n e x size x ≡ cycle n e
  unfolding cycle
  shown_trail q s = rw (s, q) refl

-- ---- of a relation that the edges' region holds

module _ {n : ℕ} {e : ℕ → ℕ → Bool} {w : List ℕ} (h : Holds EDGE GRID n e w) where
  pub held_start : cycle_start n (rel w EDGE GRID) ≡ cycle_start n e
  held_start = cycle_start_cong n (rel w EDGE GRID) e h.cell

  -- what `write_rows` asks of the size
  pub held_walk : {x size : ℕ} → x ≡ cycle_start n e → x < n → size ≡ cycle_size n (rel w EDGE GRID) x
      → (size ≤ n) × (walk n (rel w EDGE GRID) x size x ≡ true)
  held_walk {x} q b s =
      let f : x ≡ cycle_start n (rel w EDGE GRID) = q ∙ sym held_start in
      let l : cycle_start n (rel w EDGE GRID) < n = subst (λ (i : ℕ). i < n) f b in
      rw (s, f) (shown_size n (rel w EDGE GRID) l)

  -- the size, and what `write_rows` has written
  pub held_length : {x size : ℕ} → x ≡ cycle_start n e → size ≡ cycle_size n (rel w EDGE GRID) x → size ≡ length (cycle n e)
  held_length {x} {size} q s =
      let f : x ≡ cycle_start n (rel w EDGE GRID) = q ∙ sym held_start in
      let l : size ≡ length (cycle n (rel w EDGE GRID)) = rw (s, f) (sym (shown_length n (rel w EDGE GRID))) in
      l ∙ ap length (cycle_cong n (rel w EDGE GRID) e h.cell)

  pub held_written : {x size : ℕ} {c d : List ℕ} → x ≡ cycle_start n e → size ≡ cycle_size n (rel w EDGE GRID) x
      → Written (trail n (rel w EDGE GRID) x size x) size c d → Written (cycle n e) (length (cycle n e)) c d
  held_written {x} {size} {c} {d} q s p =
      let t : trail n (rel w EDGE GRID) x size x ≡ cycle n (rel w EDGE GRID) = shown_trail n (rel w EDGE GRID) (q ∙ sym held_start) s in
      subst (λ (k : ℕ). Written (cycle n e) k c d) (held_length q s)
      (subst (λ (l : List ℕ). Written l size c d) (t ∙ cycle_cong n (rel w EDGE GRID) e h.cell) p)
