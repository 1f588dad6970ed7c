-- An agent's place (a term of our own) as four numbers taken out of all places. Assumes nothing.
use Rattle.std.specs.Prelude.{◌≡◌, ℕ, zero, suc, ◌<◌, ◌≤◌, List, [], ◌∷◌, length, get_or, slice_index, slice_index_or, refl}
use Rattle.std.proofs.Math.ListN.{get_or-eq_default}

-- x has the numbers of agent a's place
unfoldable pub IsPlace : List (List ℕ) → ℕ → List ℕ → Type 0
IsPlace p a x = (k : ℕ) → k < 4 → slice_index x k ≡ slice_index (slice_index_or p a []) k

-- ---- laws

pub place_is : (p : List (List ℕ)) (a : ℕ) → IsPlace p a (slice_index_or p a [])
unfolding IsPlace
place_is p a k l = refl

zero_at_lem : (k : ℕ) → ◌≡◌ {A = ℕ} (slice_index (0 ∷ 0 ∷ 0 ∷ 0 ∷ []) k) 0
zero_at_lem zero = refl
zero_at_lem (suc zero) = refl
zero_at_lem (suc (suc zero)) = refl
zero_at_lem (suc (suc (suc zero))) = refl
zero_at_lem (suc (suc (suc (suc k)))) = refl

none_at : (k : ℕ) → get_or {A = ℕ} [] k 0 ≡ 0
none_at k = refl

-- where there is no slot
pub place_none : (p : List (List ℕ)) (a : ℕ) → length p ≤ a → IsPlace p a (0 ∷ 0 ∷ 0 ∷ 0 ∷ [])
unfolding IsPlace
place_none p a l k o = rw (get_or-eq_default p [] l, none_at k) (zero_at_lem k)
