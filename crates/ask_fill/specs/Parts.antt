-- What the calls of a fill come to, over the rows of a table. Assumes nothing.
use Rattle.std.specs.Prelude.{◌≡◌, Bool, cond, List, ℕ, ◌≤◌, ◌<◌, length, ltb, is_some, is_none, not}
use Rattle.std.proofs.Math.Path.{refl, sym, ap}
use Rattle.std.proofs.Common.{ap₂, ◌∙◌, inl, inr, ⊎_elim, arith, eq-eqb, ne_eqb, lt-ltb, le-ltb, eqb-true, ltb-true}
use Rattle.std.proofs.Math.Bool.{true, false}
use Rattle.std.proofs.Math.Decide.{dec_lt}
use Rattle.std.proofs.Math.Dec.{eqb}
use Rattle.finite.specs.Logic.{◌and◌, and_false_left, and_true, split, or_cases, which, not_in, not_out, not_both}
use Rattle.finite.specs.Below.{any_off, least_is}
use Rattle.finite.specs.Lists.{Written, written_all, tabulate, length_tabulate, get_d_tabulate}
use Rattle.finite.specs.Walk.{cycle_start}
use Rattle.bits.specs.Matrix.{rel}
use Rattle.bits.specs.Within.{Within, within_refl, within_trans, within_widen}
use Rattle.bits.specs.Stage.{Made}
use Rattle.std.specs.declared.option.Option.{Option}
use Rattle.std.specs.declared.option.Option.TheVariants.{None, Some}
use Rattle.std.specs.declared.result.Result.TheVariants.{Ok}
use Rattle.model.specs.declared.{Race.Race, Overwritten.Overwritten}
use Rattle.model.specs.declared.FillAnswer.{FillAnswer}
use Rattle.model.specs.declared.FillAnswer.TheVariants as said
use Rattle.model.specs.Limits.{INITIAL}
use Rattle.model.specs.Table.{Table}
use Rattle.model.specs.TableFault.{writer_fits, source_fits, source_broken}
use Rattle.model.specs.Race.{race_row, race_partner, race_byte}
use Rattle.model.specs.Edge.{edge, cycle_row, is_overwritten, over_reader, over_writer, over_byte, consistent}
use Rattle.model.specs.Check.{race_or}
use Rattle.model.specs.Fill.{Outcome, race, none, filled, chosen, sources_fit, filled_or, outcome, fill_answer, sources_after}
use Rattle.model_laws.specs.SourceLaws.{consistent_same, fits_same}
use Rattle.work_area.specs.Regions.{MUTUAL, LOCATED_END, EDGE, EDGE_END, GRID, LAYERS, LAYERS_END}
use Rattle.find_race.specs.First.{found_at, race_of, found_race}
use Rattle.find_axioms.specs.Overwritten.{over_at, overwrite_of, found_overwrite}
use Rattle.find_axioms.specs.Sources.{source_in}
use Rattle.model_placing.specs.Judge.{Sourced}
use Rattle.find_sources.specs.Sources.{Listed}
use Rattle.ask_check.specs.Answers.{edges_held, start_found}

-- ---- definitions

-- the fill of a table with such sources: the answer r, the work area w becomes u within its own part, the source buffer c becomes d
pub record Fills (t : Table) (source : ℕ → ℕ) (r : FillAnswer) (w u c d : List ℕ) : Type 0 where
  pub answer : Ok r ≡ fill_answer (outcome t source)
  pub buffer : d ≡ sources_after (outcome t source) c
  pub frame : Within MUTUAL LOCATED_END w u

-- location order, then the fill
pub fills : {t : Table} {source : ℕ → ℕ} {r : FillAnswer} {w v u c d : List ℕ} → Within MUTUAL LOCATED_END w v
    → (Ok r ≡ fill_answer (outcome t source)) × (d ≡ sources_after (outcome t source) c) × Within EDGE LAYERS_END v u → Fills t source r w u c d
fills f h =
    record { answer = h.0; buffer = h.1; frame = within_trans f (within_widen MUTUAL LOCATED_END (omega arith) (omega arith) h.2) }

-- sources that a check admits are rows, or the initial value
pub sourced_fit : (t : Table) (source : ℕ → ℕ) → sources_fit t source ≡ true → Sourced t source
unfolding sources_fit source_broken source_fits writer_fits
sourced_fit t source e y l r =
    ⊎_elim
    (λ h. ⊎_elim (λ f. inr (eqb-true (source y) INITIAL f)) (λ f. inl (ltb-true _ _ (split (split (split f).0).0).0)) (or_cases (eqb (source y) INITIAL) _ h))
    (λ h. not_both (split (split h).0).0 refl) (or_cases _ _ fits)
  where
    fits : source_fits false t y (source y) ≡ true
    fits =
        ⊎_elim (λ h. h) (λ h. not_both (and_true r (not_in h)) (any_off (source_broken false t source) t.rows (not_out _ e) y l))
        (which (source_fits false t y (source y)))

-- ---- laws: consistent, by its two searches

reader_bound : (t : Table) (source : ℕ → ℕ) → over_reader t source ≤ t.rows
unfolding over_reader
reader_bound t source = (least_is (is_overwritten t source) t.rows).bound

pub turned : (b c : Bool) → c ≡ not b → b ≡ not c
turned true c e = rw e refl
turned false c e = rw e refl

none_found : (t : Table) (source : ℕ → ℕ) (n : ℕ) → n ≡ t.rows → is_none (found_overwrite t source) ≡ eqb (over_reader t source) n
unfolding found_overwrite overwrite_of
none_found t source n all = go (dec_lt (over_reader t source) t.rows)
  where
    y : ℕ
    y = over_reader t source

    go : Dec (y < t.rows) → is_none (cond (ltb y t.rows) (over_at y (over_writer t source y) (over_byte t source y (over_writer t source y))) None) ≡ eqb y n
    go (yes l) = rw (lt-ltb y t.rows l) (sym (ne_eqb y n (λ e. absurd (omega arith))))
    go (no l) = rw (le-ltb y t.rows (omega arith)) (sym (eq-eqb y n (let b = reader_bound t source in omega arith)))

-- the area as the edges are made, and as the search for a cycle leaves it
module _ (t : Table) (source : ℕ → ℕ) (n x : ℕ) (w v u : List ℕ) (all : n ≡ t.rows) (made : Made EDGE EDGE_END EDGE GRID n (edge t source) w v)
    (start : x ≡ cycle_start n (rel v EDGE GRID)) (frame : Within LAYERS LAYERS_END v u) where
  row : x ≡ cycle_row t source
  row = start_found t source n x w v all made start

  pub cyclic_told : (x ≡ n → ⊥) → (false ≡ consistent t source) × Within EDGE LAYERS_END w u
  unfolding consistent
  cyclic_told h = (sym (and_false_left _ _ (ne_eqb (cycle_row t source) t.rows (λ e. h (row ∙ e ∙ sym all)))), (edges_held made frame).1)

  pub acyclic_told : x ≡ n → (y : ℕ) → y ≡ over_reader t source → (eqb y n ≡ consistent t source) × Within EDGE LAYERS_END w u
  unfolding consistent ◌and◌
  acyclic_told h y q =
      (rw (eq-eqb (cycle_row t source) t.rows (sym row ∙ h ∙ all)) (ap₂ (λ (a b : ℕ). eqb a b) q all), (edges_held made frame).1)

  pub acyclic_found : x ≡ n → (o : Option Overwritten) → o ≡ found_overwrite t source → (b : Bool) → is_some o ≡ not b
      → (b ≡ consistent t source) × Within EDGE LAYERS_END w u
  acyclic_found h o e b q = (
    turned b (is_some o) q ∙ ap is_none e ∙ none_found t source n all ∙ (acyclic_told h (over_reader t source) refl).0,
    (edges_held made frame).1,
  )

-- ---- laws: the sources that are written

-- a list of the sources, written, is what a fill leaves
pub written_filled : (source : ℕ → ℕ) (l c d : List ℕ) (n : ℕ) → n ≤ length c → Listed source n l → Written l n c d
    → d ≡ sources_after (filled (tabulate source n)) c
unfolding sources_after
written_filled source l c d n room listed h =
    written_all (tabulate source n) c d n (sym (length_tabulate source n)) room
    (record { len = h.len; front = λ k m. h.front k m ∙ listed.each k m ∙ sym (get_d_tabulate source n k 0 m); rest = h.rest })

-- ---- laws: the chosen sources, tested

-- a list of them, and what its tests said
module _ (t : Table) (source : ℕ → ℕ) (n : ℕ) (l : List ℕ) (b : Bool) (all : n ≡ t.rows) (listed : Listed source n l)
    (told : b ≡ (sources_fit t (source_in l) and consistent t (source_in l))) where
  same : (i : ℕ) → i < t.rows → source_in l i ≡ source i
  same i m = listed.each i (omega arith)

  test : b ≡ (sources_fit t source and consistent t source)
  test = told ∙ ap₂ ◌and◌ (fits_same t (source_in l) source same) (consistent_same t (source_in l) source same)

  on : b ≡ true → filled_or none t source ≡ filled (tabulate source t.rows)
  unfolding filled_or
  on h = rw (sym test ∙ h) refl

  off : b ≡ false → filled_or none t source ≡ none
  unfolding filled_or
  off h = rw (sym test ∙ h) refl

  pub unfilled : (c w u : List ℕ) → b ≡ false → Within EDGE LAYERS_END w u
      → (Ok said.None ≡ fill_answer (filled_or none t source)) × (c ≡ sources_after (filled_or none t source) c) × Within EDGE LAYERS_END w u
  unfolding fill_answer sources_after
  unfilled c w u h f = (rw (off h) refl, rw (off h) refl, f)

  pub all_filled : (c d w u : List ℕ) → b ≡ true → n ≤ length c → Written l n c d → Within EDGE LAYERS_END w u
      → (Ok said.Filled ≡ fill_answer (filled_or none t source)) × (d ≡ sources_after (filled_or none t source) c) × Within EDGE LAYERS_END w u
  unfolding fill_answer
  all_filled c d w u h room written f =
      let e : d ≡ sources_after (filled (tabulate source t.rows)) c = written_filled source l c d n room listed written
      ∙ ap (λ (k : ℕ). sources_after (filled (tabulate source k)) c) all in
      (rw (on h) refl, e ∙ ap (λ (o : Outcome). sources_after o c) (sym (on h)), f)

-- ---- laws: a race, or what comes next

not_none : {A : Type 0} {x : Race} → ◌≡◌ {A = Option Race} None (Some x) → A
not_none e = let z : ◌≡◌ {A = ℕ} 0 1 = ap which_one e in absurd (omega arith)
  where
    which_one : Option Race → ℕ
    which_one None = 0
    which_one (Some x) = 1

abbrev race_in : Race → Option Race → Race
race_in d None = d
race_in d (Some x) = x

module _ (t : Table) (source : ℕ → ℕ) (f : Option Race) (e : f ≡ found_race t) where
  abbrev x : ℕ
  x = race_row t

  abbrev y : ℕ
  y = race_partner t x

  abbrev pair : Bool → Option Race
  pair b = cond b (found_at x y (race_byte t x y)) None

  abbrev next : Bool → Outcome
  next b = cond b (race x y (race_byte t x y)) (filled_or none t (chosen t source))

  pub raced : {r : Race} (c w : List ℕ) → f ≡ Some r
      → (Ok (said.Race r) ≡ fill_answer (outcome t source)) × (c ≡ sources_after (outcome t source) c) × Within EDGE LAYERS_END w w
  unfolding found_race race_of outcome race_or fill_answer sources_after
  raced {r} c w h = go (ltb x t.rows) (sym e ∙ h)
    where
      go : (b : Bool) → pair b ≡ Some r
          → (Ok (said.Race r) ≡ fill_answer (next b)) × (c ≡ sources_after (next b) c) × Within EDGE LAYERS_END w w
      go true q = (ap (λ (z : Race). Ok (said.Race z)) (sym (ap (race_in r) q)), refl, within_refl EDGE LAYERS_END w)
      go false q = not_none q

  pub raceless : f ≡ None → outcome t source ≡ filled_or none t (chosen t source)
  unfolding found_race race_of outcome race_or
  raceless h = go (ltb x t.rows) (sym e ∙ h)
    where
      go : (b : Bool) → pair b ≡ None → next b ≡ filled_or none t (chosen t source)
      go true q = not_none (sym q)
      go false q = refl

  pub unraced : (r : FillAnswer) (c d w u : List ℕ) → f ≡ None
      → (Ok r ≡ fill_answer (filled_or none t (chosen t source))) × (d ≡ sources_after (filled_or none t (chosen t source)) c) × Within EDGE LAYERS_END w u
      → (Ok r ≡ fill_answer (outcome t source)) × (d ≡ sources_after (outcome t source) c) × Within EDGE LAYERS_END w u
  unraced r c d w u h a = rw (raceless h) a
