-- What these laws ask of a table, of tables that are admitted. Assumes nothing.
use Rattle.std.specs.Prelude.{◌≡◌, refl, Bool, true, false, List, ℕ, ◌<◌, eqb}
use Rattle.std.proofs.Common.{sym, ap, inl, inr, arith}
use Rattle.std.proofs.Math.Logic.{⊎_elim}
use Rattle.std.proofs.Math.Decide.{dec_lt, ℕ_discrete}
use borrow.Author.Tests.{eqb-true, eq-eqb, ne_eqb, ltb-true}
use Rattle.finite.specs.Logic.{split, and_true, or_cases, which, not_both, not_in}
use Rattle.finite.specs.Below.{any_in}
use Rattle.model.specs.Limits.{INITIAL}
use Rattle.model.specs.Row.{access}
use Rattle.model.specs.Table.{Table, row_of, sources_of, decode, table_under, table_of}
use Rattle.model.specs.Header.{row_bytes}
use Rattle.model.specs.Availability.{same_reference}
use Rattle.model.specs.TableFault.{other_class, other_class_at, class_taken, writer_fits, source_fits, source_broken}
use Rattle.model.specs.RowFault.{kind_fits, bytes_fit, operation_fits}
use Rattle.model_laws.specs.AdmissionLaws.{Sound, form_right, among_right}
use Rattle.model_placing.specs.Writer.{OneClass}
use Rattle.model_placing.specs.Judge.{Sourced}

module _ {blanks : Bool} {s : List ℕ} (h : Sound blanks s) (chains : Bool) where
  abbrev T : Table
  T = table_under chains s

  lower_class : (i j : ℕ) → i < T.rows → j < i → access (T.row i) ≡ true → access (T.row j) ≡ true → (T.row j).reference ≡ (T.row i).reference
      → (T.row j).class ≡ (T.row i).class
  unfolding table_under decode table_of class_taken other_class_at other_class
  lower_class i j l o first second same = go (ℕ_discrete (row_of (row_bytes s) j).class (row_of (row_bytes s) i).class)
    where
      go : Dec ((row_of (row_bytes s) j).class ≡ (row_of (row_bytes s) i).class) → (row_of (row_bytes s) j).class ≡ (row_of (row_bytes s) i).class
      go (yes e) = e
      go (no e) =
          not_both (and_true first (any_in (other_class_at (table_of s) i) i j o
          (and_true (and_true second (eq-eqb (row_of (row_bytes s) j).reference (row_of (row_bytes s) i).reference same)) (not_in (ne_eqb _ _ e)))))
          (among_right h i l).class

  pub one_class_of : OneClass T
  unfolding same_reference
  one_class_of i j l m first second same = go (dec_lt j i) (dec_lt i j)
    where
      same_reference_lem : (T.row i).reference ≡ (T.row j).reference
      same_reference_lem = eqb-true (T.row i).reference (T.row j).reference same

      go : Dec (j < i) → Dec (i < j) → (T.row i).class ≡ (T.row j).class
      go (yes o) d = sym (lower_class i j l o first second (sym same_reference_lem))
      go (no o) (yes p) = lower_class j i m p second first same_reference_lem
      go (no o) (no p) = let e : i ≡ j = omega arith in ap (λ (k : ℕ). (T.row k).class) e

  -- a row that is no access has no bytes, so that OVERLAP is of accesses alone
  pub empty_of : (i : ℕ) → i < T.rows → access (T.row i) ≡ false → (T.row i).size ≡ 0
  unfolding table_under decode kind_fits bytes_fit operation_fits
  empty_of i l e =
      ⊎_elim
      (λ o. eqb-true (row_of (row_bytes s) i).size 0 (split (split (split (split (split o.1).0).0).0).0).1)
      (λ k. ⊎_elim (λ a. not_both a e) (λ z. eqb-true (row_of (row_bytes s) i).size 0 z) (or_cases (access (row_of (row_bytes s) i)) _ (split k.1).1))
      (form_right h i l)

-- of a table with no blanks
pub sourced_of : {s : List ℕ} → Sound false s → (chains : Bool) → Sourced (table_under chains s) (sources_of s)
unfolding table_under decode table_of source_broken source_fits writer_fits
sourced_of {s} h chains y l r =
    ⊎_elim
    (λ e. ⊎_elim (λ f. inr (eqb-true (sources_of s y) INITIAL f)) (λ f. inl (ltb-true _ _ (split (split (split f).0).0).0))
    (or_cases (eqb (sources_of s y) INITIAL) _ e))
    (λ e. not_both (split (split e).0).0 refl) (or_cases _ _ fits)
  where
    fits : source_fits false (table_of s) y (sources_of s y) ≡ true
    fits = ⊎_elim (λ e. e) (λ e. not_both (and_true r (not_in e)) (among_right h y l).source) (which (source_fits false (table_of s) y (sources_of s y)))
