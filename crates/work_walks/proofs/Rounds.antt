-- The invariants of `fill_after` and `fill_layers`, on plain lists. Assumes nothing.
use mathlib.Core.Path.{◌≡◌, refl, sym, ap, ap₂, subst, ◌∙◌}
use mathlib.Core.Bool.{Bool, true, false}
use mathlib.Core.List.{List}
use Prim.Native.Nat.{ℕ, zero, suc, ◌+◌, ◌-◌, ◌*◌, ◌≤◌, ◌<◌}
use native.Mathlib.Nat.{mul-le-mul_right}
use native.Mathlib.Omega.{arith}
use native.Mathlib.Decide.{dec_lt, ℕ_discrete}
use lib.Dec.{eqb, ltb}
use lib.ListN.{length}
use borrow.Author.Tests.{eq-eqb, ne_eqb}
use Rattle.finite.specs.Logic.{◌and◌, and_false_right}
use Rattle.finite.specs.Below.{any_cong, any_not, least, least_any, least_more, least_found, least_cong}
use Rattle.finite.specs.Walk.{walk}
use Rattle.finite.specs.Cycle.{walk_cong}
use Rattle.bits.specs.Bit.{bit, set_bit, set_bit_same, set_bit_other, zeros, bit_zeros_in}
use Rattle.bits.specs.Within.{Within, within_refl, within_trans, within_bit, within_cleared, within_set_bit}
use Rattle.bits.specs.Matrix.{rel, row_apart}
use Rattle.bits.specs.Fill.{or_fresh, row_fill, row_fill_in, row_fill_out, within_row_fill}
use Rattle.work_walks.specs.Layers.{after, after_place, step_bit, reaches, back, Layers, Returns}

-- layers up to k are done, and the later ones are empty
pub record Rounds (steps layers stride n x : ℕ) (w₀ w : List ℕ) (k : ℕ) : Type 0 where
  pub cells : (a z : ℕ) → a ≤ k → z < n → rel w layers stride a z ≡ walk n (rel w₀ steps stride) x a z
  pub rest : (a z : ℕ) → k < a → a ≤ n → z < n → rel w layers stride a z ≡ false
  pub frame : Within layers (layers + n * stride + stride) w₀ w

-- where no number has a walk of k steps, none has a longer one
walk_empty : (n : ℕ) (e : ℕ → ℕ → Bool) (x k : ℕ) → ((z : ℕ) → z < n → walk n e x k z ≡ false) → (a z : ℕ) → k ≤ a → z < n → walk n e x a z ≡ false
unfolding walk
walk_empty n e x k none zero z h b = let q : k ≡ 0 = omega arith in subst (λ (i : ℕ). walk n e x i z ≡ false) q (none z b)
walk_empty n e x k none (suc a) z h b = go (ℕ_discrete k (suc a)) (λ y l o. walk_empty n e x k none a y l o)
  where
    go : Dec (k ≡ suc a) → ((y : ℕ) → k ≤ a → y < n → walk n e x a y ≡ false) → walk n e x (suc a) z ≡ false
    go (yes q) ih = subst (λ (i : ℕ). walk n e x i z ≡ false) q (none z b)
    go (no q) ih = any_not (λ y. e z y and walk n e x a y) n (λ y o. and_false_right _ _ (ih y (omega arith) o))

module _ (steps layers stride n : ℕ) (fits : n ≤ 64 * stride) (below : steps + n * stride ≤ layers) where
  -- ---- laws: a row that is being filled

  module _ (w₁ w : List ℕ) (p : ℕ → Bool) (k m : ℕ) (e : w ≡ row_fill p w₁ (after layers stride k) m) where
    -- it leaves alone what the test reads
    reaches_same : (z : ℕ) → z < n → reaches w steps layers stride n k z ≡ reaches w₁ steps layers stride n k z
    unfolding reaches step_bit rel
    reaches_same z b =
        let s : z * stride + stride ≤ n * stride = row_apart z n stride b in
        any_cong (step_bit w steps layers stride k z) (step_bit w₁ steps layers stride k z) n
        (λ y l. ap₂ ◌and◌
        (rw e (row_fill_out p w₁ (after layers stride k) m ((steps + z * stride) * 64 + y) (λ h. absurd (omega arith))))
        (rw e (row_fill_out p w₁ (after layers stride k) m ((layers + k * stride) * 64 + y) (λ h. absurd (omega arith)))))

    -- so the least next number tells it
    pub turn_test : (z y : ℕ) → z < n → y ≡ least n (step_bit w steps layers stride k z) → ltb y n ≡ reaches w₁ steps layers stride n k z
    unfolding reaches
    turn_test z y b q = ap (λ (i : ℕ). ltb i n) q ∙ least_any n (step_bit w steps layers stride k z) ∙ reaches_same z b

  -- ---- laws: the steps stay

  steps_stay : (w u : List ℕ) → Within layers (layers + n * stride + stride) w u → (i j : ℕ) → i < n → j < n → rel u steps stride i j ≡ rel w steps stride i j
  unfolding rel
  steps_stay w u f i j p q =
      let s : i * stride + stride ≤ n * stride = row_apart i n stride p in
      within_bit f ((steps + i * stride) * 64 + j) (λ l. absurd (omega arith))

  -- ---- laws: one layer more

  module _ (x : ℕ) (w₀ w₁ w₂ : List ℕ) (k : ℕ) (room : layers + n * stride + stride ≤ length w₁) (l : k < n) (p : Rounds steps layers stride n x w₀ w₁ k)
      (e : w₂ ≡ row_fill (reaches w₁ steps layers stride n k) w₁ (after layers stride k) n) where
    row : k * stride + stride ≤ n * stride
    row = row_apart k n stride l

    reaches_walk : (z : ℕ) → z < n → reaches w₁ steps layers stride n k z ≡ walk n (rel w₀ steps stride) x (suc k) z
    unfolding reaches step_bit walk
    reaches_walk z b =
        any_cong (step_bit w₁ steps layers stride k z) (λ y. rel w₀ steps stride z y and walk n (rel w₀ steps stride) x k y) n
        (λ y o. ap₂ ◌and◌ (steps_stay _ _ p.frame z y b o) (p.cells k y (omega arith) o))

    next : (z : ℕ) → z < n → rel w₂ layers stride (suc k) z ≡ walk n (rel w₀ steps stride) x (suc k) z
    unfolding rel
    next z b =
        let s = row in
        let off : bit w₁ (after layers stride k + z) ≡ false = rw (← after_place layers stride k z) (p.rest (suc k) z (omega arith) l b) in
        rw (after_place layers stride k z, e)
        (row_fill_in (reaches w₁ steps layers stride n k) w₁ (after layers stride k) n z (omega arith) b ∙ or_fresh _ _ off ∙ reaches_walk z b)

    -- a row before the one that is filled, or after it
    other : (a z : ℕ) → (k < a → suc k < a) → z < n → rel w₂ layers stride a z ≡ rel w₁ layers stride a z
    unfolding rel
    other a z far b = rw e (row_fill_out (reaches w₁ steps layers stride n k) w₁ (after layers stride k) n ((layers + a * stride) * 64 + z)
        (λ h. go h (dec_lt k a)))
      where
        go : after layers stride k ≤ (layers + a * stride) * 64 + z → Dec (k < a) → after layers stride k + n ≤ (layers + a * stride) * 64 + z
        go h (yes q) =
            let s : suc k * stride + stride ≤ a * stride = row_apart (suc k) a stride (far q) in
            let t = after_place layers stride k z in
            omega arith
        go h (no q) = let s : a * stride ≤ k * stride = mul-le-mul_right stride (omega arith) in absurd (omega arith)

    pub rounds_more : Rounds steps layers stride n x w₀ w₂ (k + 1)
    rounds_more =
        record {
          cells = λ a z h b. go a z b h (ℕ_discrete a (suc k));
          rest = λ a z h m b. other a z (λ q. omega arith) b ∙ p.rest a z (omega arith) m b;
          frame = let s = row in
              within_trans p.frame
              (rw e (within_row_fill layers (layers + n * stride + stride) (reaches w₁ steps layers stride n k) w₁ (after layers stride k) n
              (omega arith) (omega arith)));
        }
      where
        go : (a z : ℕ) → z < n → a ≤ k + 1 → Dec (a ≡ suc k) → rel w₂ layers stride a z ≡ walk n (rel w₀ steps stride) x a z
        go a z b h (yes q) = rw q (next z b)
        go a z b h (no q) = other a z (λ m. absurd (omega arith)) b ∙ p.cells a z (omega arith) b

  -- ---- laws: an empty layer, which no later one follows

  pub rounds_empty : (x : ℕ) (w₀ w : List ℕ) (k : ℕ) → k ≤ n → ((z : ℕ) → z < n → rel w layers stride k z ≡ false)
      → Rounds steps layers stride n x w₀ w k → Rounds steps layers stride n x w₀ w n
  rounds_empty x w₀ w k l none p =
      record { cells = λ a z h b. go a z h b (dec_lt k a); rest = λ a z h m b. absurd (omega arith); frame = p.frame }
    where
      go : (a z : ℕ) → a ≤ n → z < n → Dec (k < a) → rel w layers stride a z ≡ walk n (rel w₀ steps stride) x a z
      go a z h b (yes q) =
          p.rest a z q h b
          ∙ sym (walk_empty n (rel w₀ steps stride) x k (λ y o. sym (p.cells k y (omega arith) o) ∙ none y o) a z (omega arith) b)
      go a z h b (no q) = p.cells a z (omega arith) b

  -- ---- laws: cleared, begun, and done

  module _ (x : ℕ) (w₀ v w : List ℕ) (b : x < n) (room : layers + n * stride + stride ≤ length w₀)
      (cleared : v ≡ zeros w₀ layers (layers + n * stride + stride - layers)) (e : w ≡ set_bit v (layers * 64 + x)) where
    empty : Within layers (layers + n * stride + stride) w₀ v
    empty = within_cleared layers (layers + n * stride + stride) (omega arith) cleared

    off : (a z : ℕ) → a ≤ n → z < n → bit v ((layers + a * stride) * 64 + z) ≡ false
    off a z l h =
        let s : a * stride ≤ n * stride = mul-le-mul_right stride l in
        rw cleared (bit_zeros_in w₀ layers (layers + n * stride + stride - layers) ((layers + a * stride) * 64 + z) (omega arith) (omega arith) (omega arith))

    pub rounds_none : Rounds steps layers stride n x w w 0
    unfolding rel walk
    rounds_none =
        record {
          cells = λ a z h l. let o : a ≡ 0 = omega arith in rw o (first z l (ℕ_discrete z x));
          rest = λ a z h m l.
              let s : 0 * stride + stride ≤ a * stride = row_apart 0 a stride h in
              rw e (set_bit_other v (layers * 64 + x) ((layers + a * stride) * 64 + z) (λ q. omega arith) ∙ off a z m l);
          frame = within_refl layers (layers + n * stride + stride) w;
        }
      where
        first : (z : ℕ) → z < n → Dec (z ≡ x) → bit w ((layers + 0 * stride) * 64 + z) ≡ eqb z x
        first z l (yes q) =
            let i : (layers + 0 * stride) * 64 + x ≡ layers * 64 + x = omega arith in
            let len = empty.len in
            rw (q, i, e) (set_bit_same v (layers * 64 + x) (omega arith) ∙ sym (eq-eqb x x refl))
        first z l (no q) =
            rw e (set_bit_other v (layers * 64 + x) ((layers + 0 * stride) * 64 + z) (λ r. q (omega arith)) ∙ off 0 z (omega arith) l ∙ sym (ne_eqb z x q))

    kept : {u : List ℕ} {m : ℕ} → Rounds steps layers stride n x w u m → (k z : ℕ) → z < n → walk n (rel w steps stride) x k z ≡ walk n (rel u steps stride) x k z
    kept {u} p k z l = walk_cong n (rel w steps stride) (rel u steps stride) (λ i j s t. sym (steps_stay _ _ p.frame i j s t)) x k z l

    backs : {u : List ℕ} {m : ℕ} → Rounds steps layers stride n x w u m → least n (back n (rel w steps stride) x) ≡ least n (back n (rel u steps stride) x)
    unfolding back
    backs {u} p = least_cong _ _ n (λ j o. kept p (suc j) x b)

    outer : {u : List ℕ} → Within layers (layers + n * stride + stride) w u → Within layers (layers + n * stride + stride) w₀ u
    outer f = within_trans empty (within_trans (rw e (within_set_bit layers (layers + n * stride + stride) v (layers * 64 + x) (omega arith) (omega arith))) f)

    pub rounds_done : {u : List ℕ} → Rounds steps layers stride n x w u n → Layers steps layers stride n x u × Within layers (layers + n * stride + stride) w₀ u
    rounds_done {u} p = (record { cell = λ k z l m. p.cells k z l m ∙ kept p k z m }, outer p.frame)

    -- ---- laws: until x is in a layer again

    module _ {u : List ℕ} (k : ℕ) (l : k < n) (p : Rounds steps layers stride n x w u (k + 1)) where
      bit_back : bit u (after layers stride k + x) ≡ back n (rel w steps stride) x k
      unfolding back rel
      bit_back = ap (bit u) (sym (after_place layers stride k x)) ∙ p.cells (suc k) x (omega arith) b

      pub rounds_on : {c : Bool} → c ≡ bit u (after layers stride k + x) → c ≡ false → least k (back n (rel w steps stride) x) ≡ k
          → least (k + 1) (back n (rel w steps stride) x) ≡ k + 1
      rounds_on f g h = least_more _ _ h (sym bit_back ∙ sym f ∙ g)

      pub rounds_until : {c : Bool} → c ≡ bit u (after layers stride k + x) → c ≡ true → least k (back n (rel w steps stride) x) ≡ k
          → Returns steps layers stride n x k u × Within layers (layers + n * stride + stride) w₀ u
      rounds_until f g h = (
        record {
          made = λ m. record { cell = λ a z i j. p.cells a z i j ∙ kept p a z j };
          least = sym (least_found _ k n h (sym bit_back ∙ sym f ∙ g) l) ∙ backs p;
          bound = omega arith;
        },
        outer p.frame,
      )

    pub rounds_never : {u : List ℕ} → Rounds steps layers stride n x w u n → least n (back n (rel w steps stride) x) ≡ n
        → Returns steps layers stride n x n u × Within layers (layers + n * stride + stride) w₀ u
    rounds_never p h = (record { made = λ m. absurd (omega arith); least = sym h ∙ backs p; bound = omega arith }, outer p.frame)
