-- The exact verdict: of every well-formed table, on a device with or without chains, with buffers that are long enough, whatever they hold.
-- Assumes nothing.
use Rattle.std.specs.Prelude.{◌≡◌, Bool, true, List, ◌⊎◌, ◌↔◌, ℕ, ◌<◌, ltb}
use Rattle.std.proofs.Math.Path.{refl, sym, ap, subst}
use Rattle.std.proofs.Common.{◌∙◌, inl, inr, ⊎_elim, arith, ltb-true, lt-ltb, le-ltb}
use Rattle.std.proofs.Math.Bool.{false}
use Rattle.finite.specs.Logic.{which, not_both, not_so}
use Rattle.finite.specs.Walk.{along}
use Rattle.finite.specs.Cycle.{Canonical, cycle_canonical}
use Rattle.model.specs.Limits.{CYCLE}
use Rattle.model.specs.Table.{Table, table_under, sources_of, decode}
use Rattle.model.specs.Scope.{mutually}
use Rattle.model.specs.Location.{common, before}
use Rattle.model.specs.Race.{conflict, race_row, race_partner, race_byte}
use Rattle.model.specs.Edge.{edge, edge_number, cycle_row, cycle_rows, cycle_edges, over_reader, over_writer, over_byte}
use Rattle.model.specs.Refusal.{buffers_fit, when_admitted}
use Rattle.model.specs.Check.{cyclic, overwritten, race, race_free, race_or, overwritten_or, cyclic_or, verdict, check}
use Rattle.model.specs.Words.{Races, Cyclic, Overwritten, Consistent, WellFormed, FirstRace, FirstOverwrite}
use Rattle.model_laws.specs.AdmissionLaws.{admitted_sound, size_fits}
use Rattle.model_laws.specs.RaceLaws.{Sized, race_shown, race_none}
use Rattle.model_laws.specs.AxiomLaws.{cyclic_is, overwrite_shown, overwritten_is}
use Rattle.model_promises.specs.Searches.{stuck}
use Rattle.model_promises.specs.Cases.{Tests, decided, said_cyclic, said_overwritten, said_race, said_free, say_cyclic, say_overwritten, say_race, say_free}

-- ---- definitions

-- the pair x, y is mutually-ordered, or ordered one way or the other at every byte that they share
abbrev pub Settled : Table → ℕ → ℕ → Type 0
Settled t x y =
    (mutually t x y ≡ true) ⊎ ((b : ℕ) → common (t.row x) (t.row y) b ≡ true → (before t x y b ≡ true) ⊎ (before t y x b ≡ true))

-- every conflicting pair is settled
abbrev pub RaceFree : Table → Type 0
RaceFree t = (x y : ℕ) → x < y → y < t.rows → conflict t x y ≡ true → Settled t x y

-- ---- laws: a pair that does not race is settled

module _ (t : Table) where
  settled : ((x y : ℕ) → x < y → y < t.rows → Races t x y → ⊥) → RaceFree t
  settled f x y l m c = ⊎_elim (λ e. inl e) (λ e. inr (λ b h. byte b h e)) (which (mutually t x y))
    where
      byte : (b : ℕ) → common (t.row x) (t.row y) b ≡ true → mutually t x y ≡ false → (before t x y b ≡ true) ⊎ (before t y x b ≡ true)
      byte b h e =
          ⊎_elim (λ p. inl p)
          (λ p. ⊎_elim (λ q. inr q) (λ q. absurd (f x y l m (c, e, (b, (h, p, q))))) (which (before t y x b)))
          (which (before t x y b))

  unsettled : RaceFree t → (x y : ℕ) → x < y → y < t.rows → Races t x y → ⊥
  unsettled f x y l m r =
      ⊎_elim (λ e. not_both e r.1)
      (λ g. let u = r.2.1 in ⊎_elim (λ e. not_both e u.1) (λ e. not_both e u.2) (g r.2.0 u.0))
      (f x y l m r.0)

-- ---- the verdict depends on the table and the switch alone

-- refused or not, with any buffers that are long enough
pub same_verdict : (chains : Bool) (s : List ℕ) (work buffer work' buffer' : ℕ) → buffers_fit CYCLE work buffer ≡ true → buffers_fit CYCLE work' buffer' ≡ true
    → check chains s work' buffer' ≡ check chains s work buffer
unfolding check
same_verdict chains s work buffer work' buffer' h k = rw (h, k) refl

module _ (chains : Bool) (s : List ℕ) (work buffer : ℕ) (fit : buffers_fit CYCLE work buffer ≡ true) (well : WellFormed s) where
  abbrev t : Table
  t = table_under chains s

  abbrev source : ℕ → ℕ
  source = sources_of s

  sized : Sized t
  unfolding table_under decode
  sized i l = size_fits (admitted_sound false s well) i l

  abbrev found : Tests
  found =
      let y = over_reader t source in
      let z = over_writer t source y in
      let x = race_row t in
      let v = race_partner t x in
      record {
        is_cyclic = ltb (cycle_row t source) t.rows;
        is_over = ltb y t.rows;
        is_race = ltb x t.rows;
        rows = cycle_rows t source;
        edges = cycle_edges t source;
        reader = y;
        writer = z;
        over_at = over_byte t source y z;
        lower = x;
        higher = v;
        race_at = race_byte t x v;
      }

  -- ---- laws: what the searches find decides

  check_is : check chains s work buffer ≡ decided found
  unfolding check verdict cyclic_or overwritten_or race_or when_admitted decided
  check_is = rw (fit, well) refl

  acyclic : (Cyclic t source → ⊥) → ltb (cycle_row t source) t.rows ≡ false
  acyclic f = not_so _ (λ e. f ((cyclic_is t source).0 (ltb-true _ _ e)))

  unbroken : (Overwritten t source → ⊥) → ltb (over_reader t source) t.rows ≡ false
  unbroken f = not_so _ (λ e. f ((overwritten_is t source sized).0 (ltb-true _ _ e)))

  -- ---- inconsistent exactly when an axiom is broken

  -- a cycle is said exactly when A is broken
  pub says_cycle : ((rows : List ℕ) × (edges : List ℕ) × (check chains s work buffer ≡ cyclic rows edges)) ↔ Cyclic t source
  says_cycle = (
    λ c. (cyclic_is t source).0 (ltb-true _ _ (said_cyclic found (sym check_is ∙ c.2)).0),
    λ c. (_, _, check_is ∙ say_cyclic found (lt-ltb _ _ ((cyclic_is t source).1 c))),
  )

  -- overwritten is said exactly when A holds and B is broken
  pub says_overwritten : ((y : ℕ) × (z : ℕ) × (b : ℕ) × (check chains s work buffer ≡ overwritten y z b)) ↔ ((Cyclic t source → ⊥) × Overwritten t source)
  says_overwritten = (
    λ c.
        let p = said_overwritten found (sym check_is ∙ c.3) in
        (λ w. not_both (lt-ltb _ _ ((cyclic_is t source).1 w)) p.0, (overwritten_is t source sized).0 (ltb-true _ _ p.1)),
    λ c. (_, _, _, check_is ∙ say_overwritten found (acyclic c.0) (lt-ltb _ _ ((overwritten_is t source sized).1 c.1))),
  )

  -- what is shown is the canonical cycle, with the lowest edge numbers
  pub shows_cycle : (rows edges : List ℕ) → check chains s work buffer ≡ cyclic rows edges
      → Canonical t.rows (edge t source) rows × (edges ≡ along (edge_number t source) (cycle_row t source) rows)
  unfolding cycle_row cycle_rows cycle_edges
  shows_cycle rows edges e =
      let p = said_cyclic found (sym check_is ∙ e) in (
        subst (Canonical t.rows (edge t source)) p.1 (cycle_canonical t.rows (edge t source) (ltb-true _ _ p.0)),
        sym p.2 ∙ ap (along (edge_number t source) (cycle_row t source)) p.1,
      )

  -- what is shown are the least Y, Z, b that break B
  pub shows_overwritten : (y z b : ℕ) → check chains s work buffer ≡ overwritten y z b → FirstOverwrite t source y z b
  shows_overwritten y z b e =
      let p = said_overwritten found (sym check_is ∙ e) in
      rw (← p.2, ← p.3, ← p.4) (overwrite_shown t source sized (ltb-true _ _ p.1))

  -- ---- of a consistent table

  -- what is shown is the first racing pair, and its lowest byte with no order
  pub shows_race : (x y b : ℕ) → check chains s work buffer ≡ race x y b → FirstRace t x y b
  shows_race x y b e =
      let p = said_race found (sym check_is ∙ e) in
      rw (← p.3, ← p.4, ← p.5) (race_shown t sized (ltb-true _ _ p.2))

  -- a race is said exactly when some pair races
  pub says_race : Consistent t source
      → ((x : ℕ) × (y : ℕ) × (b : ℕ) × (check chains s work buffer ≡ race x y b)) ↔ ((x : ℕ) × (y : ℕ) × (x < y) × (y < t.rows) × Races t x y)
  says_race c = (
    λ e.
        let f = shows_race e.0 e.1 e.2 e.3 in
        (e.0, e.1, f.below, f.rows, f.racing),
    λ r. (_, _, _, check_is ∙ say_race found (acyclic c.0) (unbroken c.1) (some r)),
  )
    where
      some : ((x : ℕ) × (y : ℕ) × (x < y) × (y < t.rows) × Races t x y) → ltb (race_row t) t.rows ≡ true
      some r = ⊎_elim (λ e. e) (λ e. absurd ((race_none t sized).0 (stuck t e) r.0 r.1 r.2 r.3 r.4)) (which (ltb (race_row t) t.rows))

  -- race-free is said exactly when every conflicting pair is mutually-ordered or ordered at every shared byte
  pub says_free : Consistent t source → (check chains s work buffer ≡ race_free) ↔ RaceFree t
  says_free c = (
    λ e. settled t ((race_none t sized).0 (stuck t (said_free found (sym check_is ∙ e)).2)),
    λ f. check_is ∙ say_free found (acyclic c.0) (unbroken c.1) (le-ltb (race_row t) t.rows (omega (arith, (race_none t sized).1 (unsettled t f)))),
  )
