-- Answers about a table and about the same with its rows moved: the proofs of Page.antt. Assumes nothing.
use Rattle.std.specs.Prelude.{◌≡◌, refl, Bool, true, cond, ◌⊎◌, ℕ, ◌<◌, drop}
use Rattle.std.proofs.Common.{sym, ◌∙◌, subst, inl, inr, arith}
use Rattle.std.proofs.Math.Path.{ap}
use Rattle.std.proofs.Math.Bool.{false}
use mathlib.Core.List.{List}
use Rattle.std.proofs.Math.ListN.{length, get_or, get_or-append}
use Rattle.finite.specs.Logic.{which}
use Rattle.finite.specs.Lists.{tabulate, length_tabulate, get_d_tabulate}
use Rattle.model.specs.declared.Admission.TheVariants.{Admitted}
use Rattle.model.specs.Limits.{CYCLE, SOURCES}
use Rattle.model.specs.Table.{Table, table_under, sources_of}
use Rattle.model.specs.Header.{agents_at, rows_at}
use Rattle.model.specs.Race.{race_row, race_partner, race_byte}
use Rattle.model.specs.Refusal.{buffers_fit, admission, when_admitted}
use Rattle.model.specs.Check.{check}
use Rattle.model.specs.Fill.{Outcome, chosen, fill, sources_after}
use Rattle.model.specs.Fill as Fill
use Rattle.model.specs.Words.{WellFormed}
use Rattle.model_laws.specs.AdmissionLaws.{Sound, admitted_sound}
use Rattle.model_laws.specs.FilledLaws.{Bytes}
use Rattle.model_laws.specs.ChoiceLaws.{NoRace}
use Rattle.model_promises.specs.Searches.{free_of}
use Rattle.model_promises.specs.FillLaws.{fair}
use Rattle.model_promises.specs.Outcomes.{settled, said_filled, say_filled}
use Rattle.model_page_order.specs.Renumber.{Renumbering, to_below}
use Rattle.model_page_order.specs.Moved.{Moved}
use Rattle.model_page_order.specs.Alike.{Alike}
use Rattle.model_page_order.specs.RaceAlike.{race_alike}
use Rattle.model_page_order.specs.MovedAlike.{rows_is, to_rows, few_of, sized_of, of_table_lem}
use Rattle.model_page_order.proofs.MovedAlike.{rows_same, moved_alike, sources_moved}
use Rattle.model_page_order.specs.VerdictAlike.{check_word, fill_word, verdict_alike, chosen_moved, passes_alike, racing, passing, outcome_is, settled_word}
use Rattle.model_page_order.specs.VerdictAlike.{race, none, filled}

module _ (chains : Bool) (s s' : List ℕ) (π : Renumbering (rows_at s)) (moved : Moved s s' π) (work buffer work' buffer' : ℕ) where
  -- check, where nothing is blank, says race-free, race or inconsistent of both alike
  pub check_alike : buffers_fit CYCLE work buffer ≡ true → buffers_fit CYCLE work' buffer' ≡ true → WellFormed s → WellFormed s'
      → check_word (check chains s' work' buffer') ≡ check_word (check chains s work buffer)
  unfolding check when_admitted
  check_alike fit fit' well well' =
      let h = admitted_sound false s well in
      let h' = admitted_sound false s' well' in
      rw (fit, fit', well, well') (verdict_alike (moved_alike moved h h' chains) (few_of chains h) (sized_of chains h) (sized_of chains h')
      (sources_of s) (sources_of s') (sources_moved moved h h' chains))

  module _ (bytes : Bytes s) (fit : buffers_fit SOURCES work buffer ≡ true) (fit' : buffers_fit SOURCES work' buffer' ≡ true)
      (well : admission true s ≡ Admitted (agents_at s) (rows_at s)) (well' : admission true s' ≡ Admitted (agents_at s') (rows_at s')) where
    h : Sound true s
    h = admitted_sound true s well

    h' : Sound true s'
    h' = admitted_sound true s' well'

    abbrev said : Bool → Bool → Table → (ℕ → ℕ) → Outcome
    said p q t a = settled p q (race_row t) (race_partner t (race_row t)) (race_byte t (race_row t) (race_partner t (race_row t))) (tabulate (chosen t a) t.rows)

    fill_is : fill chains s work buffer ≡ said (racing (table_under chains s)) (passing (table_under chains s) (sources_of s)) (table_under chains s) (sources_of s)
    unfolding fill when_admitted
    fill_is = rw (fit, well) (outcome_is (table_under chains s) (sources_of s))

    fill_is' : fill chains s' work' buffer' ≡ said (racing (table_under chains s')) (passing (table_under chains s') (sources_of s'))
        (table_under chains s') (sources_of s')
    unfolding fill when_admitted
    fill_is' = rw (fit', well') (outcome_is (table_under chains s') (sources_of s'))

    alike : Alike (table_under chains s) (table_under chains s') (of_table_lem chains s π)
    alike = moved_alike moved h h' chains

    races_alike : racing (table_under chains s') ≡ racing (table_under chains s)
    races_alike = race_alike alike (sized_of chains h) (sized_of chains h')

    calm : racing (table_under chains s) ≡ false → NoRace (table_under chains s)
    calm e = free_of (table_under chains s) (sized_of chains h) e

    passing_alike : racing (table_under chains s) ≡ false → passing (table_under chains s') (sources_of s') ≡ passing (table_under chains s) (sources_of s)
    passing_alike e = passes_alike alike (few_of chains h) (sized_of chains h) (sized_of chains h') (sources_of s) (sources_of s')
        (sources_moved moved h h' chains) (fair chains s bytes well) (calm e)

    -- fill says race, none or filled of both alike
    pub fill_alike : fill_word (fill chains s' work' buffer') ≡ fill_word (fill chains s work buffer)
    fill_alike =
        ap fill_word fill_is' ∙ settled_word _ _ _ _ _ _ ∙ go (which (racing (table_under chains s))) ∙ sym (settled_word _ _ _ _ _ _) ∙ ap fill_word (sym fill_is)
      where
        go : (racing (table_under chains s) ≡ true) ⊎ (racing (table_under chains s) ≡ false)
            → cond (racing (table_under chains s')) race (cond (passing (table_under chains s') (sources_of s')) filled none) ≡ cond
            (racing (table_under chains s)) race (cond (passing (table_under chains s) (sources_of s)) filled none)
        go (inl e) = rw (races_alike, e) refl
        go (inr e) = rw (races_alike, passing_alike e) refl

    -- and the sources that it writes for one are the other's, moved and renumbered
    pub fill_sources : (l : List ℕ) → fill chains s work buffer ≡ Fill.filled l
        → (l' : List ℕ) × (fill chains s' work' buffer' ≡ Fill.filled l') × (length l ≡ rows_at s) × (length l' ≡ rows_at s)
        × ((i : ℕ) → i < rows_at s → get_or l' (π.to i) 0 ≡ π.to (get_or l i 0))
    fill_sources l e =
        let p = said_filled _ _ _ _ _ _ (sym fill_is ∙ e) in (
          tabulate (chosen (table_under chains s') (sources_of s')) (table_under chains s').rows,
          fill_is' ∙ say_filled _ _ _ _ _ _ (races_alike ∙ p.0) (passing_alike p.0 ∙ p.1),
          sym (ap length p.2) ∙ length_tabulate (chosen (table_under chains s) (sources_of s)) (table_under chains s).rows ∙ rows_is chains s,
          length_tabulate (chosen (table_under chains s') (sources_of s')) (table_under chains s').rows ∙ rows_is chains s' ∙ rows_same moved h h',
          λ i m. at i m p.0 p.2,
        )
      where
        at : (i : ℕ) → i < rows_at s → racing (table_under chains s) ≡ false
            → tabulate (chosen (table_under chains s) (sources_of s)) (table_under chains s).rows ≡ l
            → get_or (tabulate (chosen (table_under chains s') (sources_of s')) (table_under chains s').rows) (π.to i) 0 ≡ π.to (get_or l i 0)
        at i m e q =
            get_d_tabulate (chosen (table_under chains s') (sources_of s')) (table_under chains s').rows (π.to i) 0
            (to_rows chains s' (subst (λ (n : ℕ). π.to i < n) (sym (rows_same moved h h')) (to_below π i m)))
            ∙ chosen_moved alike (few_of chains h) (sized_of chains h) (sized_of chains h') (sources_of s) (sources_of s')
            (sources_moved moved h h' chains) (fair chains s bytes well) (calm e) i (to_rows chains s m)
            ∙ ap π.to (sym (get_d_tabulate (chosen (table_under chains s) (sources_of s)) (table_under chains s).rows i 0
            (to_rows chains s m)) ∙ ap (λ (v : List ℕ). get_or v i 0) q)

    -- as they stand in the lent source buffers afterwards
    pub fill_written : (c c' l : List ℕ) → fill chains s work buffer ≡ Fill.filled l
        → (i : ℕ) → i < rows_at s → get_or (sources_after (fill chains s' work' buffer') c') (π.to i) 0 ≡ π.to
        (get_or (sources_after (fill chains s work buffer) c) i 0)
    unfolding sources_after
    fill_written c c' l e i m =
        let f = fill_sources l e in
        let n = f.2 in
        let n' = f.3 in
        let w = to_below π i m in
        ap (λ (o : Outcome). get_or (sources_after o c') (π.to i) 0) f.1
        ∙ written f.0 c' (π.to i) (omega arith)
        ∙ f.4 i m
        ∙ ap π.to (sym (ap (λ (o : Outcome). get_or (sources_after o c) i 0) e ∙ written l c i (omega arith)))
      where
        written : (l c : List ℕ) (i : ℕ) → i < length l → get_or (sources_after (Fill.filled l) c) i 0 ≡ get_or l i 0
        written l c i m = get_or-append l (drop (length l) c) 0 i m
