-- A fill refuses a table or it doesn't. Assumes nothing.
use Rattle.std.specs.Prelude.{◌≡◌, refl, true, List, ◌⊎◌, ℕ}
use Rattle.std.proofs.Common.{inl, inr}
use Rattle.model.specs.declared.Admission.{Admission}
use Rattle.model.specs.declared.Admission.TheVariants.{Admitted, Refused}
use Rattle.model.specs.Refusal.{admission}
use Rattle.model_laws.specs.AdmissionLaws.{admitted_sound, sound_admitted}
use Rattle.model_promises.specs.Terms.{Fillable, Unfillable}

pub admitted_fillable : (s : List ℕ) {a n : ℕ} → admission true s ≡ Admitted a n → Fillable s
admitted_fillable s e = sound_admitted true s (admitted_sound true s e)

pub fillable_or : (s : List ℕ) → Fillable s ⊎ ((n : ℕ) × (j : ℕ) × Unfillable s n j)
fillable_or s = go (admission true s) refl
  where
    go : (a : Admission) → admission true s ≡ a → Fillable s ⊎ ((n : ℕ) × (j : ℕ) × Unfillable s n j)
    go (Admitted a n) e = inl (admitted_fillable s e)
    go (Refused n j) e = inr (n, j, e)
