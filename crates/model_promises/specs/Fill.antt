-- The only filling: of every table that a fill does not refuse, whichever plain reads are blank, on a device with or without chains, with buffers
-- that are long enough, whatever they hold. `Good chains s f` says that f is a filling of s that leaves it well formed and consistent.
-- Assumes nothing.
use Rattle.std.specs.Prelude.{◌≡◌, Bool, false, ◌↔◌, ℕ, ◌<◌, ltb}
use Rattle.std.proofs.Math.Path.{refl, sym}
use Rattle.std.proofs.Common.{ap, ◌∙◌, ⊎_elim, arith, ext_get_or, ltb-true, le-ltb}
use Rattle.std.proofs.Math.Bool.{true}
use mathlib.Core.List.{List}
use Rattle.std.proofs.Math.ListN.{length, get_or}
use Rattle.finite.specs.Logic.{◌and◌, split, and_true, which, not_both, not_so}
use Rattle.finite.specs.Lists.{tabulate, length_tabulate, get_d_tabulate}
use Rattle.model.specs.declared.Admission.TheVariants.{Admitted}
use Rattle.model.specs.Limits.{SOURCES}
use Rattle.model.specs.Table.{Table, decode, table_under, sources_of}
use Rattle.model.specs.Header.{agents_at, rows_at}
use Rattle.model.specs.Race.{race_row, race_partner, race_byte}
use Rattle.model.specs.Edge.{consistent}
use Rattle.model.specs.Refusal.{buffers_fit, admission, when_admitted}
use Rattle.model.specs.Check.{race_or}
use Rattle.model.specs.Fill.{Outcome, race, none, filled, chosen, sources_fit, filled_or, outcome, fill}
use Rattle.model.specs.Words.{Unordered, Races, blank_at, Filling, FirstRace}
use Rattle.model_laws.specs.AdmissionLaws.{admitted_sound, size_fits}
use Rattle.model_laws.specs.RaceLaws.{Sized, race_shown, race_none}
use Rattle.model_laws.specs.ChoiceLaws.{NoRace}
use Rattle.model_laws.specs.FillingLaws.{under_kept}
use Rattle.model_laws.specs.FilledLaws.{Bytes, fillings_same}
use Rattle.model_promises.specs.Searches.{stuck, free_of}
use Rattle.model_promises.specs.Outcomes.{settled, said_race, said_filled, said_none, say_race, say_filled, say_none}
use Rattle.model_promises.specs.FillLaws.{Good, forced, good_fits, good_consistent, made, made_sources, made_good}

module _ (chains : Bool) (s : List ℕ) (work buffer : ℕ) (fit : buffers_fit SOURCES work buffer ≡ true)
    (well : admission true s ≡ Admitted (agents_at s) (rows_at s)) where
  abbrev T : Table
  T = table_under chains s

  abbrev sources : ℕ → ℕ
  sources = chosen T (sources_of s)

  abbrev found : Bool
  found = ltb (race_row T) T.rows

  abbrev passes : Bool
  passes = sources_fit T sources and consistent T sources

  abbrev said : Outcome
  said = settled found passes (race_row T) (race_partner T (race_row T)) (race_byte T (race_row T) (race_partner T (race_row T))) (tabulate sources T.rows)

  fill_is : fill chains s work buffer ≡ said
  unfolding fill outcome filled_or race_or when_admitted settled
  fill_is = rw (fit, well) refl

  sized : Sized T
  unfolding table_under decode
  sized i l = size_fits (admitted_sound true s well) i l

  -- ---- race exactly when a pair races; what is shown is the first such pair and its lowest byte with no order

  pub shows_race : (x y b : ℕ) → fill chains s work buffer ≡ race x y b → FirstRace T x y b
  shows_race x y b e =
      let p = said_race _ _ _ _ _ _ (sym fill_is ∙ e) in
      rw (← p.1, ← p.2, ← p.3) (race_shown T (sized) (ltb-true _ _ p.0))

  pub says_race : ((x : ℕ) × (y : ℕ) × (b : ℕ) × (fill chains s work buffer ≡ race x y b)) ↔ ((x : ℕ) × (y : ℕ) × (x < y) × (y < T.rows) × Races T x y)
  says_race = (
    λ e. let f = shows_race e.0 e.1 e.2 e.3 in (e.0, e.1, f.below, f.rows, f.racing),
    λ r. (_, _, _, fill_is ∙ say_race _ _ _ _ _ _ (some r)),
  )
    where
      some : ((x : ℕ) × (y : ℕ) × (x < y) × (y < T.rows) × Races T x y) → found ≡ true
      some r = ⊎_elim (λ e. e) (λ e. absurd ((race_none T (sized)).0 (stuck T e) r.0 r.1 r.2 r.3 r.4)) (which found)

  module _ (bytes : Bytes s) where
    -- ---- when no pair races: filled exactly when some filling is well formed and consistent, none exactly when there is none

    module _ (free : NoRace T) where
      calm : found ≡ false
      calm = le-ltb (race_row T) T.rows (omega (arith, (race_none T (sized)).1 free))

      passing : (f : List ℕ) → Good chains s f → passes ≡ true
      passing f g = and_true (good_fits chains s bytes well free f g) (good_consistent chains s bytes well free f g)

      pub says_filled : ((l : List ℕ) × (fill chains s work buffer ≡ filled l)) ↔ ((f : List ℕ) × Good chains s f)
      says_filled = (
        λ e.
            let p = split (said_filled _ _ _ _ _ _ (sym fill_is ∙ e.1)).1 in
            (made chains s bytes well p.0 p.1, made_good chains s bytes well p.0 p.1),
        λ g. (_, fill_is ∙ say_filled _ _ _ _ _ _ calm (passing g.0 g.1)),
      )

      pub says_none : (fill chains s work buffer ≡ none) ↔ ((f : List ℕ) → Good chains s f → ⊥)
      says_none = (
        λ e f g. not_both (passing f g) (said_none _ _ _ _ _ _ (sym fill_is ∙ e)).1,
        λ n. fill_is ∙ say_none _ _ _ _ _ _ calm (not_so passes (λ p. n _ (made_good chains s bytes well (split p).0 (split p).1))),
      )

    -- ---- what is handed back is such a filling, its sources row by row, and it is the only one

    pub shows_filled : (l : List ℕ) → fill chains s work buffer ≡ filled l
        → (f : List ℕ) × Good chains s f × (length l ≡ rows_at s) × ((i : ℕ) → i < rows_at s → get_or l i 0 ≡ sources_of f i)
        × ((g : List ℕ) → Good chains s g → g ≡ f)
    unfolding table_under decode
    shows_filled l e =
        let p = said_filled _ _ _ _ _ _ (sym fill_is ∙ e) in
        let q = split p.1 in
        let free = free_of T (sized) p.0 in
        let same = made_sources chains s bytes well q.0 q.1 in (
          made chains s bytes well q.0 q.1,
          made_good chains s bytes well q.0 q.1,
          sym (ap length p.2) ∙ length_tabulate sources (rows_at s),
          λ i m. sym (ap (λ (v : List ℕ). get_or v i 0) p.2) ∙ get_d_tabulate sources (rows_at s) i 0 m ∙ sym (same i m),
          λ g h. fillings_same h.0 (made_good chains s bytes well q.0 q.1).0 (λ i m. forced chains s bytes well free g h i m ∙ sym (same i m)),
        )

-- ---- whatever a filling puts in, the same pairs race, with the same unordered bytes

module _ (chains : Bool) (s f : List ℕ) (h : Filling s f) where
  pub same_races : (x y : ℕ) → Races (table_under chains f) x y ≡ Races (table_under chains s) x y
  same_races x y = ap (λ (u : Table). Races u x y) (under_kept h chains)

  pub same_bytes : (x y b : ℕ) → Unordered (table_under chains f) x y b ≡ Unordered (table_under chains s) x y b
  same_bytes x y b = ap (λ (u : Table). Unordered u x y b) (under_kept h chains)

-- so no filling cures a race
pub no_cure : (chains : Bool) (s f : List ℕ) → Filling s f → (x y b : ℕ) → (Races (table_under chains f) x y ≡ Races (table_under chains s) x y)
    × (Unordered (table_under chains f) x y b ≡ Unordered (table_under chains s) x y b)
no_cure chains s f h x y b = (same_races chains s f h x y, same_bytes chains s f h x y b)

-- ---- the outcome depends on the table and the switch alone: refused or not, with any buffers that are long enough

pub same_outcome : (chains : Bool) (s : List ℕ) (work buffer work' buffer' : ℕ)
    → buffers_fit SOURCES work buffer ≡ true → buffers_fit SOURCES work' buffer' ≡ true
    → fill chains s work' buffer' ≡ fill chains s work buffer
unfolding fill
same_outcome chains s work buffer work' buffer' h k = rw (h, k) refl

-- ---- a table without blanks is its own one filling

pub own_filling : (s : List ℕ) → Bytes s → ((i : ℕ) → i < rows_at s → blank_at s i ≡ false) → (f : List ℕ) → Filling s f ↔ (f ≡ s)
own_filling s bytes n f = (λ h. ext_get_or 0 f s h.size (λ k l. h.kept k (λ i m b e. not_both b (n i m))), λ e. rw e itself)
  where
    itself : Filling s s
    itself = record { size = refl; bytes = bytes; named = λ i l b. not_both b (n i l); kept = λ k h. refl }
