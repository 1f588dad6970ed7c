-- What the layers say of a class set: whether some chain for it leads from one moment to another, and how many steps it has.
-- Assumes nothing.
use Rattle.std.specs.Prelude.{◌≡◌, Bool, List}
use Rattle.std.proofs.Math.Path.{sym, ap, subst}
use Rattle.std.proofs.Common.{◌∙◌}
use Rattle.std.proofs.Math.Bool.{true, false}
use Prim.Native.Nat.{ℕ, suc, ◌+◌, ◌*◌, ◌≤◌, ◌<◌}
use native.Mathlib.Omega.{arith}
use Rattle.std.proofs.Math.Numerals.{add-one}
use Rattle.finite.specs.Below.{least, least_is, least_cong, least_found, least_more, any_below, any_in, any_not}
use Rattle.finite.specs.Walk.{walk}
use Rattle.finite.specs.Cycle.{walk_cong, least_apart}
use Rattle.bits.specs.Matrix.{rel}
use Rattle.model.specs.Limits.{ROWS, STEPS, CLASS_SETS}
use Rattle.model.specs.Table.{Table}
use Rattle.model.specs.Happens.{step}
use Rattle.model.specs.Reason.{has_chain, chain_size, has_chain_by}
use Rattle.work_area.specs.Regions.{STEP, CHAINS, MOMENTS}
use Rattle.work_walks.specs.Layers.{in_layer, layer_is}
use Rattle.ask_derive.specs.Layers.{Layered}

-- a walk of the class set's steps from z to x, by the number of its steps less one
abbrev by : (t : Table) (n s x z : ℕ) → ℕ → Bool
by t n s x z j = walk (3 * n) (step t s) x (suc j) z

-- ---- laws: one class set

module _ {t : Table} {n s x : ℕ} {w : List ℕ} (all : n ≡ t.rows) (h : Layered t n s x w) (z : ℕ) (l : z < 3 * n) where
  has_is : has_chain t s z x ≡ any_below (3 * n) (by t n s x z)
  unfolding has_chain
  has_is = ap (λ (i : ℕ). any_below (3 * i) (by t i s x z)) (sym all)

  -- the layer that a search finds
  module _ (j : ℕ) (e : j ≡ least (3 * n) (in_layer w CHAINS MOMENTS z)) where
    first : j ≡ least (3 * n) (by t n s x z)
    first =
        e ∙ layer_is h.layers z l
        ∙ least_cong (λ i. walk (3 * n) (rel w STEP MOMENTS) x (suc i) z) (by t n s x z) (3 * n)
        (λ i o. walk_cong (3 * n) (rel w STEP MOMENTS) (step t s) h.steps.cell x (suc i) z l)

    pub chain_found : j < 3 * n → has_chain t s z x ≡ true
    chain_found o =
        let k : least (3 * n) (by t n s x z) < 3 * n = subst (λ (i : ℕ). i < 3 * n) first o in
        has_is ∙ any_in (by t n s x z) (3 * n) (least (3 * n) (by t n s x z)) k ((least_is (by t n s x z) (3 * n)).hit k)

    pub chain_missed : 3 * n ≤ j → has_chain t s z x ≡ false
    chain_missed o =
        has_is ∙ any_not (by t n s x z) (3 * n) (λ k q. (least_is (by t n s x z) (3 * n)).miss k (subst (λ (i : ℕ). k < i) first (omega arith)))

    pub size_is : j + 1 ≡ chain_size t s z x
    unfolding chain_size
    size_is = add-one j ∙ ap suc (first ∙ ap (λ (i : ℕ). least (3 * i) (by t i s x z)) all)

    -- a chain between two different moments fits the buffer, and is there by the bits
    pub size_fits : n ≤ ROWS → x < 3 * n → (z ≡ x → ⊥) → has_chain t s z x ≡ true
        → (j + 1 ≤ STEPS) × (j + 1 ≤ 3 * n) × (walk (3 * n) (rel w STEP MOMENTS) x (j + 1) z ≡ true)
    unfolding in_layer
    size_fits few o apart f =
        let k : suc (least (3 * n) (by t n s x z)) < 3 * n = least_apart (3 * n) (step t s) x z o l apart (sym has_is ∙ f) in
        let q : suc j < 3 * n = subst (λ (i : ℕ). suc i < 3 * n) (sym first) k in
        let i : least (3 * n) (in_layer w CHAINS MOMENTS z) < 3 * n = subst (λ (i : ℕ). i < 3 * n) e (omega arith) in
        let hit : in_layer w CHAINS MOMENTS z j ≡ true = subst (λ (i : ℕ). in_layer w CHAINS MOMENTS z i ≡ true) (sym e)
        ((least_is (in_layer w CHAINS MOMENTS z) (3 * n)).hit i) in
        let g : walk (3 * n) (rel w STEP MOMENTS) x (suc j) z ≡ true = sym (h.layers.cell (suc j) z (omega arith) l) ∙ hit in
        (omega arith, omega arith, subst (λ (i : ℕ). walk (3 * n) (rel w STEP MOMENTS) x i z ≡ true) (sym (add-one j)) g)

-- ---- laws: the class sets in turn

module _ {t : Table} {n x c : ℕ} {w : List ℕ} (all : n ≡ t.rows) (layered : Layered t n (c + 1) x w) (z j : ℕ) (below_z : z < 3 * n)
    (layer_is : j ≡ least (3 * n) (in_layer w CHAINS MOMENTS z)) (none : least c (has_chain_by t z x) ≡ c) where
  pub set_found : c < CLASS_SETS → j < 3 * n → c ≡ least CLASS_SETS (has_chain_by t z x)
  unfolding has_chain_by
  set_found o q =
      let f : has_chain t (suc c) z x ≡ true = subst (λ (i : ℕ). has_chain t i z x ≡ true) (add-one c) (chain_found all layered z below_z j layer_is q) in
      sym (least_found (has_chain_by t z x) c CLASS_SETS none f o)

  pub set_missed : 3 * n ≤ j → least (c + 1) (has_chain_by t z x) ≡ c + 1
  unfolding has_chain_by
  set_missed q =
      let f : has_chain t (suc c) z x ≡ false = subst (λ (i : ℕ). has_chain t i z x ≡ false) (add-one c) (chain_missed all layered z below_z j layer_is q) in
      least_more (has_chain_by t z x) c none f

-- the class set that was found has a chain
pub set_has : (t : Table) (c z x : ℕ) → c ≡ least CLASS_SETS (has_chain_by t z x) → c < CLASS_SETS → has_chain t (c + 1) z x ≡ true
unfolding has_chain_by
set_has t c z x e l =
    let o : least CLASS_SETS (has_chain_by t z x) < CLASS_SETS = subst (λ (i : ℕ). i < CLASS_SETS) e l in
    subst (λ (i : ℕ). has_chain t i z x ≡ true) (sym (add-one c))
    (subst (λ (i : ℕ). has_chain t (suc i) z x ≡ true) (sym e) ((least_is (has_chain_by t z x) CLASS_SETS).hit o))
