-- What a check and a fill say of two tables that are alike. Assumes nothing.
use Rattle.std.specs.Prelude.{◌≡◌, refl, Bool, true, false, cond, List, ℕ, ◌≤◌, ◌<◌, ltb}
use Rattle.std.proofs.Common.{sym, ap, ap₂, ◌∙◌, subst}
use Rattle.finite.specs.Logic.{◌and◌}
use Rattle.finite.specs.Lists.{tabulate}
use Rattle.model.specs.Limits.{ROWS}
use Rattle.model.specs.Table.{Table}
use Rattle.model.specs.Race.{race_row, race_partner, race_byte}
use Rattle.model.specs.Edge.{cycle_row, over_reader, consistent}
use Rattle.model.specs.Check.{Verdict, race_or, overwritten_or, cyclic_or, verdict}
use Rattle.model.specs.Check as Check
use Rattle.model.specs.Fill.{Outcome, chosen, sources_fit, filled_or, outcome}
use Rattle.model.specs.Fill as Fill
use Rattle.model_laws.specs.SourceLaws.{verdict_same, consistent_same, fits_same}
use Rattle.model_laws.specs.RaceLaws.{Sized}
use Rattle.model_laws.specs.ChoiceLaws.{NoRace, Fair}
use Rattle.model_promises.specs.Outcomes.{settled}
use Rattle.model_page_order.specs.Renumber.{Renumbering, back_below}
use Rattle.model_page_order.specs.Alike.{Alike}
use Rattle.model_page_order.specs.RaceAlike.{race_alike}
use Rattle.model_page_order.specs.AxiomAlike.{cyclic_alike, reader_alike, consistent_alike}
use Rattle.model_page_order.specs.FillAlike.{sources_alike, chosen_alike}

-- ---- words of the page

-- what a check and a fill say, without the rows and bytes that they show
pub data Word : Type 0 where
  refusal : Word
  inconsistent : Word
  race : Word
  free : Word
  none : Word
  filled : Word

unfoldable pub check_word : Verdict → Word
check_word (Check.refused n i) = refusal
check_word (Check.cyclic rows edges) = inconsistent
check_word (Check.overwritten y z b) = inconsistent
check_word (Check.race x y b) = race
check_word Check.race_free = free

unfoldable pub fill_word : Outcome → Word
fill_word (Fill.refused n i) = refusal
fill_word (Fill.race x y b) = race
fill_word Fill.none = none
fill_word (Fill.filled l) = filled

-- ---- what is said, by three tests

word_of : (p q r : Bool) (l m : List ℕ) (x y z v w k : ℕ)
    → check_word (cond p (Check.cyclic l m) (cond q (Check.overwritten x y z) (cond r (Check.race v w k) Check.race_free))) ≡ cond p
    inconsistent (cond q inconsistent (cond r race free))
unfolding check_word
word_of true q r l m x y z v w k = refl
word_of false true r l m x y z v w k = refl
word_of false false true l m x y z v w k = refl
word_of false false false l m x y z v w k = refl

verdict_word : (t : Table) (a : ℕ → ℕ)
    → check_word (verdict t a) ≡ cond (ltb (cycle_row t a) t.rows) inconsistent
    (cond (ltb (over_reader t a) t.rows) inconsistent (cond (ltb (race_row t) t.rows) race free))
unfolding verdict cyclic_or overwritten_or race_or
verdict_word t a = word_of (ltb (cycle_row t a) t.rows) (ltb (over_reader t a) t.rows) (ltb (race_row t) t.rows) _ _ _ _ _ _ _ _

-- ---- tables that are alike

module _ {t u : Table} {π : Renumbering t.rows} (M : Alike t u π) (few : t.rows ≤ ROWS) (sized : Sized t) (sized' : Sized u)
    (a b : ℕ → ℕ) (source : (i : ℕ) → i < t.rows → b (π.to i) ≡ π.to (a i)) where
  -- sources of u's rows that are renumbered beyond its rows too
  abbrev beyond : (ℕ → ℕ) → ℕ → ℕ
  beyond c i = π.to (c (π.back i))

  beyond_at : (c : ℕ → ℕ) (i : ℕ) → beyond c (π.to i) ≡ π.to (c i)
  beyond_at c i = ap (λ (z : ℕ). π.to (c z)) (π.back_to i)

  -- which are u's own
  beyond_own : (c d : ℕ → ℕ) → ((i : ℕ) → i < t.rows → d (π.to i) ≡ π.to (c i)) → (i : ℕ) → i < u.rows → d i ≡ beyond c i
  beyond_own c d h i l = sym (ap d (π.to_back i)) ∙ h (π.back i) (back_below π i (subst (λ (n : ℕ). i < n) M.rows l))

  pub verdict_alike : check_word (verdict u b) ≡ check_word (verdict t a)
  verdict_alike =
      ap check_word (verdict_same u b (beyond a) (beyond_own a b source))
      ∙ verdict_word u (beyond a)
      ∙ rw (cyclic_alike M few a (beyond a) (beyond_at a), reader_alike M few a (beyond a) (beyond_at a), race_alike M sized sized') refl
      ∙ sym (verdict_word t a)

  -- ---- a fill, where no pair races

  module _ (fair : Fair t) (calm : NoRace t) where
    pub chosen_moved : (i : ℕ) → i < t.rows → chosen u b (π.to i) ≡ π.to (chosen t a i)
    chosen_moved = chosen_alike M fair calm a b source

    pub passes_alike : (sources_fit u (chosen u b) and consistent u (chosen u b)) ≡ (sources_fit t (chosen t a) and consistent t (chosen t a))
    passes_alike = ap₂ ◌and◌ fits sound
      where
        own : (i : ℕ) → i < u.rows → chosen u b i ≡ beyond (chosen t a) i
        own = beyond_own (chosen t a) (chosen u b) chosen_moved

        fits : sources_fit u (chosen u b) ≡ sources_fit t (chosen t a)
        fits = fits_same u (chosen u b) (beyond (chosen t a)) own ∙ sources_alike M few (chosen t a) (beyond (chosen t a)) (beyond_at (chosen t a))

        sound : consistent u (chosen u b) ≡ consistent t (chosen t a)
        sound = consistent_same u (chosen u b) (beyond (chosen t a)) own ∙ consistent_alike M few (chosen t a) (beyond (chosen t a)) (beyond_at (chosen t a))

-- an outcome by its two tests
abbrev pub racing : Table → Bool
racing t = ltb (race_row t) t.rows

abbrev pub passing : Table → (ℕ → ℕ) → Bool
passing t a = sources_fit t (chosen t a) and consistent t (chosen t a)

pub outcome_is : (t : Table) (a : ℕ → ℕ)
    → outcome t a ≡ settled (racing t) (passing t a) (race_row t) (race_partner t (race_row t))
    (race_byte t (race_row t) (race_partner t (race_row t))) (tabulate (chosen t a) t.rows)
unfolding outcome filled_or race_or settled
outcome_is t a = refl

pub settled_word : (p q : Bool) (x y k : ℕ) (l : List ℕ) → fill_word (settled p q x y k l) ≡ cond p race (cond q filled none)
unfolding fill_word settled
settled_word true q x y k l = refl
settled_word false true x y k l = refl
settled_word false false x y k l = refl
