-- What the page on fills rests on: a good filling has the chosen sources, and where those fit they make one. Assumes nothing.
use Rattle.std.specs.Prelude.{◌≡◌, Bool, true, List, ◌⊎◌, ℕ, ◌<◌}
use Rattle.std.proofs.Math.Path.{refl, sym, subst}
use Rattle.std.proofs.Common.{◌∙◌, ltb-true, eqb-true}
use Rattle.std.proofs.Math.Bool.{false, not}
use Rattle.std.proofs.Math.Logic.{inl, inr, ⊎_elim}
use Rattle.std.proofs.Math.Dec.{eqb}
use Rattle.finite.specs.Logic.{◌and◌, ◌or◌, split, and_true, or_cases, which, not_both, not_in, not_out}
use Rattle.finite.specs.Below.{any_not, any_off}
use Rattle.model.specs.declared.Admission.TheVariants.{Admitted}
use Rattle.model.specs.Limits.{INITIAL, BLANK}
use Rattle.model.specs.Row.{plain_read, reads}
use Rattle.model.specs.Table.{Table, mode_of, table_under, table_of, sources_of, decode}
use Rattle.model.specs.Header.{agents_at, rows_at}
use Rattle.model.specs.Edge.{consistent}
use Rattle.model.specs.Refusal.{admission}
use Rattle.model.specs.TableFault.{writer_fits, source_fits, source_broken, same_rank_at, rank_taken, outside_at, begins, unfit}
use Rattle.model.specs.Fill.{blank, choice, chosen, sources_fit}
use Rattle.model.specs.Words.{Consistent, WellFormed, ConsistentBytes, blank_at, Filling}
use Rattle.model_laws.specs.AdmissionLaws.{Sound, sound_admitted, admitted_sound, rows_fit, size_fits, access_size, among_right}
use Rattle.model_laws.specs.AxiomLaws.{consistent_is, consistent_cong}
use Rattle.model_laws.specs.WriterLaws.{writers_ordered}
use Rattle.model_laws.specs.ChoiceLaws.{NoRace, Fair, choice_forced}
use Rattle.model_laws.specs.FillingLaws.{under_kept, source_kept}
use Rattle.model_laws.specs.FilledLaws.{Bytes, rank_small, filled_bytes, filling_sound, sound_filling, filled_source, filled_filling}

-- ---- definitions

-- f is a filling of s that leaves the table well formed and consistent
abbrev pub Good : Bool → List ℕ → List ℕ → Type 0
Good chains s f = Filling s f × WellFormed f × ConsistentBytes chains f

-- ---- laws

module _ (chains : Bool) (s : List ℕ) (bytes : Bytes s) (well : admission true s ≡ Admitted (agents_at s) (rows_at s)) where
  abbrev pub t : Table
  t = table_under chains s

  abbrev pub source : ℕ → ℕ
  source = chosen t (sources_of s)

  sound : Sound true s
  sound = admitted_sound true s well

  -- what admission reads, it reads with chains or without
  ranks_under : (i : ℕ) → rank_taken t i ≡ rank_taken (table_of s) i
  unfolding rank_taken same_rank_at table_of table_under decode mode_of
  ranks_under i = refl

  fit_under : (i : ℕ) → unfit t i ≡ unfit (table_of s) i
  unfolding unfit begins outside_at table_of table_under decode mode_of
  fit_under i = refl

  broken_under : (blanks : Bool) (f : ℕ → ℕ) (i : ℕ) → source_broken blanks t f i ≡ source_broken blanks (table_of s) f i
  unfolding source_broken source_fits writer_fits table_of table_under decode mode_of
  broken_under blanks f i = refl

  pub fair : Fair t
  unfolding table_under decode
  fair =
      record {
        few = rows_fit sound;
        sized = λ i l. size_fits sound i l;
        nonempty = λ i l a. (access_size sound i l a).0;
        ranks = λ i l. ranks_under i ∙ (among_right sound i l).rank;
        order = writers_ordered t (λ i l. rank_small s bytes i) (λ i l. fit_under i ∙ (among_right sound i l).run);
      }

  -- a source that refusal 9 takes where no blank is allowed is the initial value or a row that fits
  fit_cases : (i v : ℕ) → reads (t.row i) ≡ true → (reads (t.row i) and not (source_fits false t i v)) ≡ false → (v ≡ INITIAL) ⊎ (writer_fits t i v ≡ true)
  unfolding source_fits
  fit_cases i v r e =
      ⊎_elim
      (λ h. ⊎_elim
      (λ a. ⊎_elim (λ b. inl (eqb-true v INITIAL b)) (λ b. inr b) (or_cases (eqb v INITIAL) (writer_fits t i v) a))
      (λ a. not_both (split (split a).0).0 refl)
      (or_cases (eqb v INITIAL or writer_fits t i v) _ h))
      (λ h. not_both (and_true r (not_in h)) e)
      (which (eqb v INITIAL or writer_fits t i v or (false and plain_read (t.row i) and eqb v BLANK)))

  chosen_blank : (i : ℕ) → blank_at s i ≡ true → source i ≡ choice t i
  unfolding blank_at chosen blank table_of table_under decode mode_of
  chosen_blank i e = rw e refl

  chosen_kept : (i : ℕ) → blank_at s i ≡ false → source i ≡ sources_of s i
  unfolding blank_at chosen blank table_of table_under decode mode_of
  chosen_kept i e = rw e refl

  blank_plain : (i : ℕ) → blank_at s i ≡ true → plain_read (t.row i) ≡ true
  unfolding blank_at blank table_of table_under decode mode_of
  blank_plain i e = (split e).0

  blank_reads : (i : ℕ) → blank_at s i ≡ true → reads (t.row i) ≡ true
  unfolding plain_read reads ◌or◌
  blank_reads i e = rw (blank_plain i e) refl

  row_of : {i : ℕ} → i < rows_at s → i < t.rows
  unfolding table_under decode
  row_of l = l

  of_row : {i : ℕ} → i < t.rows → i < rows_at s
  unfolding table_under decode
  of_row l = l

  -- ---- a good filling has the chosen sources

  module _ (free : NoRace t) (f : List ℕ) (good : Good chains s f) where
    kept : Consistent t (sources_of f)
    kept = subst (λ (u : Table). Consistent u (sources_of f)) (under_kept good.0 chains) good.2

    admits : (i : ℕ) → i < rows_at s → source_broken false t (sources_of f) i ≡ false
    admits i l = broken_under false (sources_of f) i ∙ sound_filling good.0 (admitted_sound false f good.1) i l

    pub forced : (i : ℕ) → i < rows_at s → sources_of f i ≡ source i
    unfolding source_broken
    forced i l =
        ⊎_elim
        (λ e.
        choice_forced t fair free i (row_of l) (blank_plain i e) (sources_of f) kept (fit_cases i (sources_of f i) (blank_reads i e) (admits i l))
        ∙ sym (chosen_blank i e))
        (λ e. source_kept good.0 i e ∙ sym (chosen_kept i e))
        (which (blank_at s i))

    pub good_fits : sources_fit t source ≡ true
    unfolding sources_fit source_broken
    good_fits =
        not_in (any_not (λ i. reads (t.row i) and not (source_fits false t i (source i))) t.rows
        (λ i l. subst (λ (v : ℕ). (reads (t.row i) and not (source_fits false t i v)) ≡ false) (forced i (of_row l)) (admits i (of_row l))))

    pub good_consistent : consistent t source ≡ true
    good_consistent = (consistent_is t source fair.sized).1 (consistent_cong t (sources_of f) source (λ i l. forced i (of_row l)) kept)

  -- ---- where the chosen sources fit and are consistent, they make a good filling

  module _ (fits : sources_fit t source ≡ true) (con : consistent t source ≡ true) where
    fits_at : (i : ℕ) → i < rows_at s → source_broken false t source i ≡ false
    unfolding sources_fit
    fits_at i l = any_off (source_broken false t source) t.rows (not_out _ fits) i (row_of l)

    named : (i : ℕ) → i < rows_at s → blank_at s i ≡ true → (source i ≡ INITIAL) ⊎ (source i < rows_at s)
    unfolding source_broken writer_fits
    named i l b =
        ⊎_elim (λ e. inl e) (λ e. inr (of_row (ltb-true (source i) t.rows (split (split (split e).0).0).0)))
        (fit_cases i (source i) (blank_reads i b) (fits_at i l))

    abbrev pub made : List ℕ
    made = filled_bytes s source

    pub made_filling : Filling s made
    made_filling = filled_filling s bytes sound source named

    pub made_sources : (i : ℕ) → i < rows_at s → sources_of made i ≡ source i
    made_sources i l =
        ⊎_elim (λ e. filled_source s bytes sound source named i l e) (λ e. source_kept made_filling i e ∙ sym (chosen_kept i e)) (which (blank_at s i))

    pub made_good : Good chains s made
    unfolding source_broken
    made_good = (
      made_filling,
      sound_admitted false made (filling_sound made_filling sound (λ i l.
          sym (broken_under false (sources_of made) i)
          ∙ subst (λ (v : ℕ). (reads (t.row i) and not (source_fits false t i v)) ≡ false) (sym (made_sources i l)) (fits_at i l))),
      subst (λ (u : Table). Consistent u (sources_of made)) (sym (under_kept made_filling chains))
          (consistent_cong t source (sources_of made) (λ i l. sym (made_sources i (of_row l))) ((consistent_is t source fair.sized).0 con)),
    )
