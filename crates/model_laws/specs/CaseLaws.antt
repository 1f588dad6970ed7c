-- M6's direct cases, listed by their numbers in `direct`, each by its own test: some case is one of the four. Assumes nothing.
use Rattle.std.specs.Prelude.{◌≡◌, Bool, true, ◌⊎◌, ℕ}
use Rattle.std.proofs.Math.Path.{refl}
use Rattle.std.proofs.Common.{ap, ◌∙◌, inl, inr, ⊎_elim}
use Rattle.finite.specs.Logic.{◌and◌, ◌or◌, or_cases, or_off}
use Rattle.finite.specs.Below.{any_below}
use Rattle.model.specs.Table.{Table}
use Rattle.model.specs.Happens.{by_sync, to_release, from_acquire, by_system, ROW_CASES, direct, nth_case, step}

module _ (t : Table) (s m n : ℕ) where
  -- ---- each of them

  pub case_sync : nth_case t s m n 0 ≡ by_sync t s m n
  unfolding nth_case direct ◌and◌ ◌or◌
  case_sync = or_off _ _ refl ∙ or_off _ _ refl ∙ or_off _ _ refl

  pub case_release : nth_case t s m n 1 ≡ to_release t s m n
  unfolding nth_case direct ◌and◌ ◌or◌
  case_release = or_off _ _ refl ∙ or_off _ _ refl

  pub case_acquire : nth_case t s m n 2 ≡ from_acquire t s m n
  unfolding nth_case direct ◌and◌ ◌or◌
  case_acquire = or_off _ _ refl

  pub case_system : nth_case t s m n 3 ≡ by_system t m n
  unfolding nth_case direct ◌and◌ ◌or◌
  case_system = refl

  -- ---- some of them

  -- those that go by rows
  pub row_cases : any_below ROW_CASES (nth_case t s m n) ≡ (by_sync t s m n or to_release t s m n or from_acquire t s m n)
  unfolding any_below ◌or◌
  row_cases = rw (case_sync, case_release, case_acquire) refl

  -- and the last
  pub step_last : step t s m n ≡ (any_below ROW_CASES (nth_case t s m n) or by_system t m n)
  unfolding step any_below
  step_last = rw case_system refl

  pub step_cases : step t s m n ≡ (by_sync t s m n or to_release t s m n or from_acquire t s m n or by_system t m n)
  step_cases = step_last ∙ ap (λ (b : Bool). b or by_system t m n) row_cases

  pub step_out : step t s m n ≡ true
      → (by_sync t s m n ≡ true) ⊎ ((to_release t s m n ≡ true) ⊎ ((from_acquire t s m n ≡ true) ⊎ (by_system t m n ≡ true)))
  step_out e =
      ⊎_elim
      (λ a. ⊎_elim (λ b. ⊎_elim (λ c. inl c) (λ c. inr (inl c)) (or_cases (by_sync t s m n) (to_release t s m n) b)) (λ b. inr (inr (inl b)))
      (or_cases (by_sync t s m n or to_release t s m n) (from_acquire t s m n) a))
      (λ a. inr (inr (inr a)))
      (or_cases (by_sync t s m n or to_release t s m n or from_acquire t s m n) (by_system t m n) (rw step_cases at e))
