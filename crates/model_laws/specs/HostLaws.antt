-- Host agents leave other tables alone: without dependencies and operations the rules of order are documents 01's, and a table of
-- version 1 or 2 that is admitted has neither, and shader agents only. Assumes nothing.
use Rattle.std.specs.Prelude.{◌≡◌, Bool, ◌⊎◌, ◌↔◌, ℕ, ◌*◌, ◌≤◌, ◌<◌, length, ltb, leb, eqb}
use Rattle.std.proofs.Math.Path.{refl, ap}
use Rattle.std.proofs.Common.{sym, ◌∙◌, subst, inl, inr}
use Rattle.std.proofs.Math.Bool.{true, false, not, cond}
use mathlib.Core.List.{List, [], ◌∷◌}
use Rattle.std.proofs.Math.Logic.{⊎_elim}
use native.Mathlib.Omega.{arith}
use Rattle.std.proofs.Math.Decide.{dec_lt}
use Rattle.std.proofs.Math.ListN.{get_or, get_or-eq_default}
use Rattle.std.proofs.Math.Seq.{get_or-drop}
use borrow.Author.Tests.{eqb-true, leb-true, le-leb}
use Rattle.finite.specs.Logic.{◌and◌, ◌or◌, split, and_true, or_cases, or_off, not_both, not_so, and_false_left, and_false_right}
use Rattle.finite.specs.Below.{any_below, any_not}
use Rattle.finite.specs.Closure.{Reach, one, more, through_reach, reach_cong}
use Rattle.finite.specs.Lists.{tabulate, length_tabulate, get_d_tabulate}
use Rattle.model.specs.declared.Row.{Row}
use Rattle.model.specs.Limits.{AGENTS, CLASS_SETS}
use Rattle.model.specs.Row.{CONTROL, AVAILABLE_HOST, AVAILABLE_DEVICE, DEVICE_TO_HOST, operation}
use Rattle.model.specs.Table.{Table}
use Rattle.model.specs.Header.{pair_at, agents_at, rows_at, has_hosts, shader_place_at, place_at, slot_at, places_of, rows_end, size_of, row_bytes}
use Rattle.model.specs.Table.{row_of, dependency_count, depends_of, decode, mode_of, table_under}
use Rattle.model.specs.Header.{dependency_bytes}
use Rattle.model.specs.Scope.{SHADER, agent_kind, shader, one_instance, shares}
use Rattle.model.specs.Moment.{row_in, program_order}
use Rattle.model.specs.Happens.{by_system, ROW_CASES, nth_case, step, happens}
use Rattle.model.specs.Location.{L1, L2, system_before, L4, thence, available_kind, on_host, reaches_by, L5, common, before}
use Rattle.model.specs.Availability.{L3}
use Rattle.model.specs.RowFault.{codes_fit}
use Rattle.model_laws.specs.CaseLaws.{step_last}
use Rattle.model_laws.specs.HappensLaws.{happens_is}
use Rattle.model_laws.specs.AdmissionLaws.{Sound, length_is, row_right}

-- ---- definitions

-- M6's three direct cases alone
unfoldable pub step₁ : Table → ℕ → ℕ → ℕ → Bool
step₁ t s m n = any_below ROW_CASES (nth_case t s m n)

-- M6 and M7 with these
abbrev pub HappensBefore₁ : Table → ℕ → ℕ → Type 0
HappensBefore₁ t m n =
    (program_order t m n ≡ true) ⊎ ((s : ℕ) × (1 ≤ s) × (s ≤ CLASS_SETS) × Reach (step₁ t s) (3 * t.rows) m n)

-- L1 to L3 alone
unfoldable pub before₁ : Table → ℕ → ℕ → ℕ → Bool
before₁ t x y b = not (eqb x y) and common (t.row x) (t.row y) b and (L1 t x y or L2 t x y or L3 t x y b)

-- what a table without host agents lacks
pub record NoHosts (t : Table) : Type 0 where
  pub alone : (x y : ℕ) → t.depends x y ≡ false
  pub rows : (i : ℕ) → i < t.rows → operation (t.row i) ≡ false
  pub agents : (a : ℕ) → agent_kind t.places a ≡ SHADER

-- ---- such a table has the order of versions 1 and 2

module _ (t : Table) (none : NoHosts t) where
  no_system : (m n : ℕ) → by_system t m n ≡ false
  unfolding by_system
  no_system m n = and_false_right _ _ (none.alone (row_in m) (row_in n))

  pub step_is : (s m n : ℕ) → step t s m n ≡ step₁ t s m n
  unfolding step₁
  step_is s m n = step_last t s m n ∙ or_off _ _ (no_system m n)

  pub happens_is₁ : (m n : ℕ) → m < 3 * t.rows → n < 3 * t.rows → (happens t m n ≡ true) ↔ HappensBefore₁ t m n
  happens_is₁ m n p q = (
    λ e. ⊎_elim (λ h. inl h) (λ w. inr (
      w.0,
      w.1,
      w.2,
      reach_cong (step t w.0) (step₁ t w.0) (3 * t.rows) (λ i j l k. step_is w.0 i j) p q w.3,
    )) ((happens_is t m n).0 e),
    λ d. (happens_is t m n).1 (⊎_elim (λ h. inl h)
        (λ w. inr (w.0, w.1, w.2, reach_cong (step₁ t w.0) (step t w.0) (3 * t.rows) (λ i j l k. sym (step_is w.0 i j)) p q w.3)) d),
  )

  no_reach : (x y : ℕ) → Reach t.depends t.rows x y → ⊥
  no_reach x y (one e) = not_both e (none.alone x y)
  no_reach x y (more {m = k} e l r) = not_both e (none.alone x k)

  no_l4 : (x y : ℕ) → L4 t x y ≡ false
  unfolding L4 system_before
  no_l4 x y = and_false_right _ _ (not_so _ (λ e. no_reach x y ((through_reach t.depends t.rows x y).0 e)))

  -- a row that is no operation makes nothing available to a domain
  kind_operation : (r : Row) (k : ℕ) → AVAILABLE_HOST ≤ k → k ≤ DEVICE_TO_HOST → operation r ≡ false → eqb r.kind k ≡ false
  unfolding operation
  kind_operation r k l m e = not_so _ (λ h. let q = eqb-true r.kind k h in
      not_both (and_true (le-leb AVAILABLE_HOST r.kind (omega arith)) (le-leb r.kind DEVICE_TO_HOST (omega arith))) e)

  available_kind_lem : (x : ℕ) → (AVAILABLE_HOST ≤ available_kind t x) × (available_kind t x ≤ DEVICE_TO_HOST)
  unfolding available_kind
  available_kind_lem x = go (on_host t x)
    where
      go : (c : Bool) → (AVAILABLE_HOST ≤ cond {A = ℕ} c AVAILABLE_HOST AVAILABLE_DEVICE) × (cond {A = ℕ} c AVAILABLE_HOST AVAILABLE_DEVICE ≤ DEVICE_TO_HOST)
      go true = (omega arith, omega arith)
      go false = (omega arith, omega arith)

  no_way : (x y a : ℕ) → a < t.rows → reaches_by t x y a ≡ false
  unfolding reaches_by thence
  no_way x y a l = and_false_left _ _ (and_false_left _ _
      (kind_operation (t.row a) (available_kind t x) (available_kind_lem x).0 (available_kind_lem x).1 (none.rows a l)))

  no_l5 : (x y : ℕ) → L5 t x y ≡ false
  unfolding L5
  no_l5 x y = and_false_right _ _ (any_not (reaches_by t x y) t.rows (λ a l. no_way x y a l))

  pub before_is : (x y b : ℕ) → before t x y b ≡ before₁ t x y b
  unfolding before before₁
  before_is x y b = ap (λ (c : Bool). not (eqb x y) and common (t.row x) (t.row y) b and c) (or_off _ _ (no_l5 x y) ∙ or_off _ _ (no_l4 x y))

  -- M2 by the places alone
  pub shares_is : (scope a b : ℕ) → shares t.places scope a b ≡ one_instance t.places scope a b
  unfolding shares shader ◌and◌
  shares_is scope a b = rw (none.agents a, none.agents b) refl

-- ---- a table of version 1 or 2 that is admitted

module _ {blanks : Bool} {s : List ℕ} (h : Sound blanks s) (old : has_hosts s ≡ false) where
  ends : length s ≡ rows_end s
  unfolding size_of
  ends = rw old at (length_is h)

  byte_past : (k : ℕ) → get_or (dependency_bytes s) k 0 ≡ 0
  unfolding dependency_bytes
  byte_past k = let e = ends in get_or-drop (rows_end s) s k 0 ∙ get_or-eq_default s 0 (omega arith)

  no_count : dependency_count (dependency_bytes s) ≡ 0
  unfolding dependency_count pair_at
  no_count = rw (byte_past 0, byte_past 1) refl

  no_depends : (chains : Bool) (x y : ℕ) → depends_of (mode_of chains s) x y ≡ false
  unfolding depends_of mode_of any_below
  no_depends chains x y = rw no_count refl

  no_operation : (i : ℕ) → i < rows_at s → operation (row_of (row_bytes s) i) ≡ false
  unfolding codes_fit operation
  no_operation i l = not_so _ (λ e. ⊎_elim (λ k. clash (leb-true (row_of (row_bytes s) i).kind CONTROL k)
      (leb-true AVAILABLE_HOST (row_of (row_bytes s) i).kind (split e).0)) (λ k. not_both (split k).0 old)
      (or_cases (leb (row_of (row_bytes s) i).kind CONTROL) _ (row_right h i l).codes.kind))
    where
      clash : {n : ℕ} → n ≤ CONTROL → AVAILABLE_HOST ≤ n → ⊥
      clash p q = omega arith

  fourth : (a : ℕ) → get_or (slot_at s a) 3 0 ≡ 0
  unfolding slot_at place_at shader_place_at
  fourth a = rw old (go (ltb a (agents_at s)))
    where
      go : (c : Bool) → get_or (cond c (shader_place_at s a) (0 ∷ 0 ∷ 0 ∷ 0 ∷ [])) 3 0 ≡ 0
      go true = refl
      go false = refl

  no_kind : (a : ℕ) → agent_kind (places_of s) a ≡ SHADER
  unfolding agent_kind places_of
  no_kind a = go (dec_lt a AGENTS)
    where
      go : Dec (a < AGENTS) → get_or (get_or (tabulate (slot_at s) AGENTS) a []) 3 0 ≡ 0
      go (yes l) = ap (λ (p : List ℕ). get_or p 3 0) (get_d_tabulate (slot_at s) AGENTS a [] l) ∙ fourth a
      go (no l) = ap (λ (p : List ℕ). get_or p 3 0)
          (get_or-eq_default (tabulate (slot_at s) AGENTS) [] (subst (λ (n : ℕ). n ≤ a) (sym (length_tabulate (slot_at s) AGENTS)) (omega arith)))

  -- VERSIONS 1 AND 2 ARE AS BEFORE
  pub no_hosts : (chains : Bool) → NoHosts (table_under chains s)
  unfolding table_under decode
  no_hosts chains = record { alone = no_depends chains; rows = no_operation; agents = no_kind }
