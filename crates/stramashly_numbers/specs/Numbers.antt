-- What code and parts of a packed number say. Assumes nothing.
use Rattle.std.specs.Prelude.{◌≡◌, refl, ◌↔◌, ℕ}
use Rattle.std.proofs.Common.{sym, ◌∙◌, arith}
use mathlib.Core.List.{List}
use Rattle.std.proofs.Math.ListN.{length}
use Rattle.model.specs.declared.FillAnswer.TheVariants as filled
use Rattle.model.specs.Check.{Verdict, check_answer}
use Rattle.model.specs.Fill.{Outcome, fill_answer}
use Rattle.model_promises.specs.Bounds.{SmallVerdict, SmallOutcome}
use Rattle.model_promises.specs.Answers.{checks_refused, checks_cycle, checks_overwritten, checks_race, checks_free}
use Rattle.model_promises.specs.Answers.{fills_refused, fills_race, fills_none, fills_filled}
use Rattle.stramashly.specs.Packed.{pack_check, pack_fill, pack_result, refusal_number, check_number, fill_number}
use Rattle.stramashly_numbers.specs.Reading.{CODE, A, B, C, reads_back, check_by, read_check, check_back, fill_by, read_fill, fill_back}

-- ---- a check

module _ (v : Verdict) (small : (w : Verdict) → v ≡ w → SmallVerdict w) where
  abbrev r : ℕ
  r = pack_check (check_answer v)

  back : read_check r ≡ check_answer v
  back = check_back v (small v refl)

  pub free_number : (CODE r ≡ 0) ↔ (v ≡ Verdict.race_free)
  unfolding check_by pack_check pack_result check_number refusal_number check_answer
  free_number = (
    λ e. (checks_free v).0 (sym back ∙ rw e refl),
    λ e. rw e (reads_back 0 0 0 0 (omega arith) (omega arith) (omega arith)).0,
  )

  pub race_number : (x y b : ℕ) → ((CODE r ≡ 1) × (A r ≡ x) × (B r ≡ y) × (C r ≡ b)) ↔ (v ≡ Verdict.race x y b)
  unfolding check_by pack_check pack_result check_number refusal_number check_answer
  race_number x y b = (
    λ e. (checks_race v x y b).0 (sym back ∙ rw (e.0, e.1, e.2, e.3) refl),
    λ e. let h = small _ e in rw e (reads_back 1 x y b h.0 h.1 h.2),
  )

  pub overwritten_number : (y z b : ℕ) → ((CODE r ≡ 2) × (A r ≡ y) × (B r ≡ z) × (C r ≡ b)) ↔ (v ≡ Verdict.overwritten y z b)
  unfolding check_by pack_check pack_result check_number refusal_number check_answer
  overwritten_number y z b = (
    λ e. (checks_overwritten v y z b).0 (sym back ∙ rw (e.0, e.1, e.2, e.3) refl),
    λ e. let h = small _ e in rw e (reads_back 2 y z b h.0 h.1 h.2),
  )

  pub cycle_number_lem : (k : ℕ) → ((CODE r ≡ 3) × (A r ≡ k))
      ↔ ((rows : List ℕ) × (edges : List ℕ) × (v ≡ Verdict.cyclic rows edges) × (length rows ≡ k))
  unfolding check_by pack_check pack_result check_number refusal_number check_answer
  cycle_number_lem k = (λ e. (checks_cycle v k).0 (sym back ∙ rw (e.0, e.1) refl), λ e. shown e.0 e.1 e.2 e.3)
    where
      shown : (rows edges : List ℕ) → v ≡ Verdict.cyclic rows edges → length rows ≡ k → (CODE r ≡ 3) × (A r ≡ k)
      shown rows edges e l =
          let h = small _ e in
          let p = reads_back 3 (length rows) 0 0 h (omega arith) (omega arith) in
          rw e (p.0, p.1 ∙ l)

  pub refused_number : (n i : ℕ) → ((CODE r ≡ 4) × (A r ≡ n) × (B r ≡ i)) ↔ (v ≡ Verdict.refused n i)
  unfolding check_by pack_check pack_result check_number refusal_number check_answer
  refused_number n i = (
    λ e. (checks_refused v n i).0 (sym back ∙ rw (e.0, e.1, e.2) refl),
    λ e. let h = small _ e in let p = reads_back 4 n i 0 h.0 h.1 (omega arith) in rw e (p.0, p.1, p.2),
  )

-- ---- a fill of a table of so many rows

module _ (rows : ℕ) (o : Outcome) (small : (w : Outcome) → o ≡ w → SmallOutcome rows w) where
  abbrev f : ℕ
  f = pack_fill (fill_answer o) rows

  fill_read : read_fill f ≡ fill_answer o
  fill_read = fill_back rows o (small o refl)

  pub fill_race_number : (x y b : ℕ) → ((CODE f ≡ 1) × (A f ≡ x) × (B f ≡ y) × (C f ≡ b)) ↔ (o ≡ Outcome.race x y b)
  unfolding fill_by pack_fill pack_result fill_number refusal_number fill_answer
  fill_race_number x y b = (
    λ e. (fills_race o x y b).0 (sym fill_read ∙ rw (e.0, e.1, e.2, e.3) refl),
    λ e. let h = small _ e in rw e (reads_back 1 x y b h.0 h.1 h.2),
  )

  pub fill_refused_number : (n i : ℕ) → ((CODE f ≡ 4) × (A f ≡ n) × (B f ≡ i)) ↔ (o ≡ Outcome.refused n i)
  unfolding fill_by pack_fill pack_result fill_number refusal_number fill_answer
  fill_refused_number n i = (
    λ e. (fills_refused o n i).0 (sym fill_read ∙ rw (e.0, e.1, e.2) refl),
    λ e. let h = small _ e in let p = reads_back 4 n i 0 h.0 h.1 (omega arith) in rw e (p.0, p.1, p.2),
  )

  pub none_number : (CODE f ≡ 5) ↔ (o ≡ Outcome.none)
  unfolding fill_by pack_fill pack_result fill_number refusal_number fill_answer
  none_number = (
    λ e. (fills_none o).0 (sym fill_read ∙ rw e refl),
    λ e. rw e (reads_back 5 0 0 0 (omega arith) (omega arith) (omega arith)).0,
  )

  pub filled_number : ((CODE f ≡ 6) × (A f ≡ rows)) ↔ ((l : List ℕ) × (o ≡ Outcome.filled l))
  unfolding fill_by pack_fill pack_result fill_number refusal_number fill_answer
  filled_number = (
    λ e. (fills_filled o).0 (sym fill_read ∙ rw e.0 refl),
    λ e. let h = small _ e.1 in let p = reads_back 6 rows 0 0 h (omega arith) (omega arith) in rw e.1 (p.0, p.1),
  )
