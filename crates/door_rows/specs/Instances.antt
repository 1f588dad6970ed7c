-- A control barrier's instance, by its number. Assumes nothing.
use Rattle.std.specs.Prelude.{◌≡◌, ℕ, ◌+◌, ◌*◌, ◌/◌, ◌%◌, ◌<◌, Bool, false, List, ◌==◌, ◌≢◌, nat_eq, refl}
use Rattle.std.proofs.Common.{sym, ap, ◌∙◌, arith, ne_eqb, eq-eqb}
use Rattle.finite.specs.Logic.{◌and◌, and_false_right, and_on_right}
use Rattle.model.specs.declared.Row.{Row}
use Rattle.model.specs.Row.{CONTROL, control}
use Rattle.model.specs.Table.{byte_of, pair_of, row_of}
use Rattle.model.specs.Header.{ROW_BYTES, pair_at}

-- r is a control barrier of the instance s
unfoldable pub of_instance : ℕ → Row → Bool
of_instance s r = control r and nat_eq s r.start

-- ---- laws: from the bytes of row j

start_is : (b : List ℕ) (j : ℕ) → (row_of b j).start ≡ byte_of b j 8 * 256 + byte_of b j 9
unfolding row_of pair_of pair_at byte_of
start_is b j = let e : j * ROW_BYTES + 8 + 1 ≡ j * ROW_BYTES + 9 = omega arith in rw e refl

-- another number, by its last byte, and by its first
pub instance_last : (b : List ℕ) (s j v : ℕ) → v ≡ byte_of b j 9 → v < 256 → (v ≢ s % 256) → false ≡ of_instance s (row_of b j)
unfolding of_instance
instance_last b s j v e l h = sym (and_false_right _ _ (ne_eqb s _ (λ q. let z = start_is b j in h (omega (arith, e, q, z, l)))))

pub instance_first : (b : List ℕ) (s j x v : ℕ) → x ≡ byte_of b j 9 → x ≡ s % 256 → v ≡ byte_of b j 8 → (v ≢ s / 256) → false ≡ of_instance s (row_of b j)
unfolding of_instance
instance_first b s j x v ex l e h = sym (and_false_right _ _ (ne_eqb s _ (λ q. let z = start_is b j in h (omega (arith, ex, e, q, z, l)))))

-- the same number
pub instance_here : (b : List ℕ) (s j x y k : ℕ) → x ≡ byte_of b j 9 → x ≡ s % 256 → y ≡ byte_of b j 8 → y ≡ s / 256 → k ≡ (row_of b j).kind
    → (k == CONTROL) ≡ of_instance s (row_of b j)
unfolding of_instance control
instance_here b s j x y k low_is low_alike high_is high_alike kind_is =
    let z = start_is b j in
    let q : s ≡ (row_of b j).start = omega (arith, low_is, low_alike, high_is, high_alike, z) in
    ap (λ (m : ℕ). nat_eq m CONTROL) kind_is ∙ sym (and_on_right _ _ (eq-eqb s _ q))
