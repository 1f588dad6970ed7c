-- Change requests 5, 8 and 10, in their own words: what they left as it was, and what holds of ranks. Assumes nothing.
use Rattle.std.specs.Prelude.{◌≡◌, Bool, not, ◌⊎◌, ◌↔◌, ℕ, ◌*◌, ◌≤◌, ◌<◌, ltb, leb, eqb}
use Rattle.std.proofs.Math.Path.{refl, ap}
use Rattle.std.proofs.Common.{sym, ◌∙◌, subst, inl, inr, get_or-drop}
use Rattle.std.proofs.Math.Bool.{true, false, cond}
use mathlib.Core.List.{List, [], ◌∷◌}
use Rattle.std.proofs.Math.Logic.{⊎_elim}
use native.Mathlib.Omega.{arith}
use Rattle.std.proofs.Math.Decide.{dec_lt}
use Rattle.std.proofs.Math.ListN.{length, get_or, get_or-eq_default}
use borrow.Author.Tests.{ltb-true, eqb-true, eqb-false, ne_eqb, leb-true, lt-leb, le-leb}
use Rattle.finite.specs.Logic.{◌and◌, ◌or◌, split, not_both, not_so, not_in, and_false_left, and_false_right, or_off, or_cases}
use Rattle.finite.specs.Below.{any_below, least, any_not}
use Rattle.finite.specs.Lists.{tabulate, length_tabulate, get_d_tabulate}
use Rattle.model.specs.declared.Row.{Row}
use Rattle.model.specs.declared.Admission.{Admission}
use Rattle.model.specs.declared.Admission.TheVariants.{Admitted, Refused}
use Rattle.model.specs.Limits.{AGENTS}
use Rattle.model.specs.Row.{BARRIER, CONTROL, AVAILABLE_HOST, RELAXED, BOTH, control, operation, same_instance, non_private, acquires, releases}
use Rattle.model.specs.Table.{Table}
use Rattle.model.specs.Header.{HEADER, VERSION_HOSTS, pair_at, version_at, agents_at, rows_at, has_hosts, shader_place_at, place_at, slot_at, places_of, rows_end, size_of, row_bytes}
use Rattle.model.specs.Table.{dependency_count, row_of, source_of, table_under, table_of, sources_of, decode}
use Rattle.model.specs.Header.{dependency_bytes}
use Rattle.model.specs.Scope.{SHADER, DEVICE, agent_kind, one_instance, shares}
use Rattle.model.specs.Synchronizes.{sync_atomics, sync_from_barrier, sync_to_barrier, sync_barriers, joins, arrives, passes, sync_control, synchronizes}
use Rattle.model.specs.Happens.{happens}
use Rattle.model.specs.Location.{before}
use Rattle.model.specs.Refusal.{shape_or, version_fits, limits_fit, length_fits, kind_over, agents_known, dependencies_few, dependencies_named}
use Rattle.model.specs.RowFault.{MOST_CLASSES, MOST_FLAGS, MOST_CLASS}
use Rattle.model.specs.Refusal.{hosts_fault, header_fault, row_fault_at}
use Rattle.model.specs.RowFault.{codes_fit, agent_fits, operation_fits, barrier_fits, kind_fits, extent_fits, form_fault, row_fault}
use Rattle.model.specs.Refusal.{faulty, first_fault, admission}
use Rattle.model.specs.TableFault.{class_taken, source_broken, rank_taken, apart, apart_at, instance_broken, unfit, table_fault}
use Rattle.model_laws.specs.AdmissionLaws.{admitted_sound}
use Rattle.model_laws.specs.WriterLaws.{Rivals, After}
use Rattle.model_laws.specs.HostLaws.{HappensBefore₁, before₁, happens_is₁, before_is, shares_is, no_hosts}
use Rattle.model_promises.specs.Terms.{Bytes, Fillable}
use Rattle.model_promises.specs.FillLaws.{fair}

-- ---- request 8: ranks

module _ (chains : Bool) (s : List ℕ) (bytes : Bytes s) (well : Fillable s) where
  abbrev t : Table
  t = table_under chains s

  -- of two different ranks exactly one is later
  pub one_later : (x y : ℕ) → Rivals t x y → ((t.row x).rank ≡ (t.row y).rank → ⊥)
      → ((After t x y ≡ true) × (After t y x ≡ false)) ⊎ ((After t x y ≡ false) × (After t y x ≡ true))
  one_later = (fair chains s bytes well).order.one

  -- and later is transitive
  pub later_chains : (x y z : ℕ) → Rivals t x y → Rivals t y z → After t x y ≡ true → After t y z ≡ true → After t x z ≡ true
  later_chains = (fair chains s bytes well).order.chain

-- ---- where a refusal comes from

abbrev refusal : Admission → ℕ
refusal (Refused n i) = n
refusal (Admitted a r) = 0

abbrev is_refused : Admission → ℕ
is_refused (Refused n i) = 1
is_refused (Admitted a r) = 0

-- the first fault, or what comes next
from_first : (f : ℕ → ℕ) (k : ℕ) (next : Admission) (n i : ℕ) → first_fault f k next ≡ Refused n i
    → ((j : ℕ) × (j < k) × (f j ≡ n)) ⊎ (next ≡ Refused n i)
unfolding first_fault
from_first f k next n i e = go (ltb (least k (faulty f)) k) refl e
  where
    go : (b : Bool) → ltb (least k (faulty f)) k ≡ b → cond b (Refused (f (least k (faulty f))) (least k (faulty f))) next ≡ Refused n i
        → ((j : ℕ) × (j < k) × (f j ≡ n)) ⊎ (next ≡ Refused n i)
    go true l q = inl (least k (faulty f), ltb-true (least k (faulty f)) k l, ap refusal q)
    go false l q = inr q

-- a refusal is the header's, a row's or a row's among the others
from_faults : (blanks : Bool) (s : List ℕ) (n i : ℕ) → admission blanks s ≡ Refused n i
    → (header_fault s ≡ n) ⊎ (((j : ℕ) × (j < rows_at s) × (row_fault_at s j ≡ n)) ⊎ ((j : ℕ) × (j < rows_at s) × (table_fault blanks (table_of s) (sources_of s) j ≡ n)))
unfolding admission
from_faults blanks s n i e = go (eqb (header_fault s) 0) e
  where
    among : Admission
    among = first_fault (table_fault blanks (table_of s) (sources_of s)) (rows_at s) (Admitted (agents_at s) (rows_at s))

    last : ((j : ℕ) × (j < rows_at s) × (table_fault blanks (table_of s) (sources_of s) j ≡ n)) ⊎ (Admitted (agents_at s) (rows_at s) ≡ Refused n i)
        → (j : ℕ) × (j < rows_at s) × (table_fault blanks (table_of s) (sources_of s) j ≡ n)
    last (inl p) = p
    last (inr p) = absurd (let z : ◌≡◌ {A = ℕ} 0 1 = ap is_refused p in omega arith)

    next : ((j : ℕ) × (j < rows_at s) × (row_fault_at s j ≡ n)) ⊎ (among ≡ Refused n i)
        → (header_fault s ≡ n) ⊎ (((j : ℕ) × (j < rows_at s) × (row_fault_at s j ≡ n)) ⊎ ((j : ℕ) × (j < rows_at s) × (table_fault blanks (table_of s) (sources_of s) j ≡ n)))
    next (inl p) = inr (inl p)
    next (inr p) = inr (inr (last (from_first _ (rows_at s) _ n i p)))

    go : (b : Bool) → cond b (first_fault (row_fault_at s) (rows_at s) among) (Refused (header_fault s) 0) ≡ Refused n i
        → (header_fault s ≡ n) ⊎ (((j : ℕ) × (j < rows_at s) × (row_fault_at s j ≡ n)) ⊎ ((j : ℕ) × (j < rows_at s) × (table_fault blanks (table_of s) (sources_of s) j ≡ n)))
    go true q = next (from_first (row_fault_at s) (rows_at s) among n i q)
    go false q = inl (ap refusal q)

-- ---- request 10: versions 1 and 2

-- a row that is no operation, of a shader agent: 19 and 20 don't hold
agent_old : (r : Row) {kind : ℕ} → kind ≡ SHADER → operation r ≡ false → agent_fits kind r ≡ true
unfolding agent_fits
agent_old r e o = rw (e, o) refl

form_old : (r : Row) (source : ℕ) → operation r ≡ false → form_fault r source ≤ 7
unfolding form_fault
form_old r source o = rw o (go (kind_fits r source) (extent_fits r))
  where
    go : (a b : Bool) → cond {A = ℕ} a (cond b 0 7) 6 ≤ 7
    go true true = omega arith
    go true false = omega arith
    go false b = omega arith

-- 8, 9, 10, 14 or 15
among_faults : (blanks : Bool) (t : Table) (source : ℕ → ℕ) (j n : ℕ) → table_fault blanks t source j ≡ n → (n ≤ 10) ⊎ ((n ≡ 14) ⊎ (n ≡ 15))
unfolding table_fault
among_faults blanks t source j n e = go (class_taken t j) (source_broken blanks t source j) (rank_taken t j) (instance_broken t j) (unfit t j) e
  where
    go : (a b c d f : Bool) → ◌≡◌ {A = ℕ} (cond a 8 (cond b 9 (cond c 10 (cond d 14 (cond f 15 0))))) n → (n ≤ 10) ⊎ ((n ≡ 14) ⊎ (n ≡ 15))
    go true b c d f q = inl (omega arith)
    go false true c d f q = inl (omega arith)
    go false false true d f q = inl (omega arith)
    go false false false true f q = inr (inl (sym q))
    go false false false false true q = inr (inr (sym q))
    go false false false false false q = inl (omega arith)

module _ (s : List ℕ) (old : version_at s < VERSION_HOSTS) where
  no_hosts_here : has_hosts s ≡ false
  unfolding has_hosts
  no_hosts_here = ne_eqb (version_at s) VERSION_HOSTS (λ e. omega arith)

  -- every agent is a shader agent
  fourth : (a : ℕ) → get_or (slot_at s a) 3 0 ≡ 0
  unfolding slot_at place_at shader_place_at
  fourth a = rw no_hosts_here (go (ltb a (agents_at s)))
    where
      go : (c : Bool) → get_or (cond c (shader_place_at s a) (0 ∷ 0 ∷ 0 ∷ 0 ∷ [])) 3 0 ≡ 0
      go true = refl
      go false = refl

  no_kind : (a : ℕ) → agent_kind (places_of s) a ≡ SHADER
  unfolding agent_kind places_of
  no_kind a = go (dec_lt a AGENTS)
    where
      go : Dec (a < AGENTS) → get_or (get_or (tabulate (slot_at s) AGENTS) a []) 3 0 ≡ 0
      go (yes l) = ap (λ (p : List ℕ). get_or p 3 0) (get_d_tabulate (slot_at s) AGENTS a [] l) ∙ fourth a
      go (no l) = ap (λ (p : List ℕ). get_or p 3 0)
          (get_or-eq_default (tabulate (slot_at s) AGENTS) [] (subst (λ (n : ℕ). n ≤ a) (sym (length_tabulate (slot_at s) AGENTS)) (omega arith)))

  no_hosts_fault : length_fits s ≡ true → hosts_fault s ≡ 0
  unfolding hosts_fault agents_known kind_over dependencies_few dependencies_named length_fits size_of dependency_bytes dependency_count pair_at any_below
  no_hosts_fault e = rw (known, few, named) refl
    where
      ends : length s ≡ rows_end s
      ends = rw no_hosts_here at (eqb-true (length s) (cond (has_hosts s) _ (rows_end s)) (split e).1)

      past : (k : ℕ) → get_or (dependency_bytes s) k 0 ≡ 0
      past k = let q = ends in get_or-drop (rows_end s) s k 0 ∙ get_or-eq_default s 0 (omega arith)

      none : dependency_count (dependency_bytes s) ≡ 0
      none = rw (past 0, past 1) refl

      known : agents_known s ≡ true
      known = not_in (any_not (kind_over (places_of s)) (agents_at s) (λ a l. rw (no_kind a) refl))

      few : dependencies_few s ≡ true
      few = rw none refl

      named : dependencies_named s ≡ true
      named = rw none refl

  header_old : header_fault s ≤ 4
  unfolding header_fault shape_or
  header_old = go (leb HEADER (length s)) (version_fits s) (limits_fit s) (length_fits s) (λ e. no_hosts_fault e)
    where
      go : (a b c d : Bool) → (d ≡ true → hosts_fault s ≡ 0) → cond {A = ℕ} a (cond b (cond c (cond d (hosts_fault s) 4) 3) 2) 1 ≤ 4
      go false b c d h = omega arith
      go true false c d h = omega arith
      go true true false d h = omega arith
      go true true true false h = omega arith
      go true true true true h = let e = h refl in omega arith

  -- a row by itself

  module _ (j : ℕ) where
    abbrev r : Row
    r = row_of (row_bytes s) j

    -- kinds from 7 are refusal 5
    pub old_kinds : CONTROL < r.kind → row_fault_at s j ≡ 5
    unfolding row_fault_at row_fault codes_fit
    old_kinds l = rw (codes _ _ _ _ _ _) refl
      where
        kind : (leb r.kind CONTROL or (has_hosts s and operation r)) ≡ false
        kind = rw (lt-leb r.kind CONTROL l, no_hosts_here) (plain (operation r))
          where
            plain : (b : Bool) → (false or (false and b)) ≡ false
            plain b = not_so _ (λ e. ⊎_elim (λ h. not_both h refl) (λ h. not_both (split h).0 refl) (or_cases false (false and b) e))

        codes : (a b c d e f : Bool)
            → ((leb r.kind CONTROL or (has_hosts s and operation r)) and a and b and c and d and e and f) ≡ false
        codes a b c d e f = and_false_left _ f (and_false_left _ e (and_false_left _ d (and_false_left _ c (and_false_left _ b (and_false_left _ a kind)))))

    no_operation : codes_fit (has_hosts s) (agents_at s) r ≡ true → operation r ≡ false
    unfolding codes_fit operation
    no_operation c = not_so _ (λ e. ⊎_elim (λ k. clash (leb-true r.kind CONTROL k)
        (leb-true AVAILABLE_HOST r.kind (split e).0)) (λ k. not_both (split k).0 no_hosts_here)
        (or_cases (leb r.kind CONTROL) _ (split (split (split (split (split (split c).0).0).0).0).0).0))
      where
        clash : {n : ℕ} → n ≤ CONTROL → AVAILABLE_HOST ≤ n → ⊥
        clash p q = omega arith

    row_old : row_fault_at s j ≤ 7
    unfolding row_fault_at row_fault
    row_old = go (codes_fit (has_hosts s) (agents_at s) r) refl
      where
        go : (c : Bool) → codes_fit (has_hosts s) (agents_at s) r ≡ c
            → cond {A = ℕ} c (cond (agent_fits (agent_kind (places_of s) r.agent) r) (form_fault r (source_of (row_bytes s) j)) 19) 5 ≤ 7
        go false e = omega arith
        go true e = rw (agent_old r (no_kind r.agent) (no_operation e)) (form_old r (source_of (row_bytes s) j) (no_operation e))

  -- refusals 16 to 20 are never given
  pub old_refusals : (blanks : Bool) (n i : ℕ) → admission blanks s ≡ Refused n i → (n ≤ 10) ⊎ ((n ≡ 14) ⊎ (n ≡ 15))
  old_refusals blanks n i e = go (from_faults blanks s n i e)
    where
      go : (header_fault s ≡ n) ⊎ (((j : ℕ) × (j < rows_at s) × (row_fault_at s j ≡ n)) ⊎ ((j : ℕ) × (j < rows_at s) × (table_fault blanks (table_of s) (sources_of s) j ≡ n)))
          → (n ≤ 10) ⊎ ((n ≡ 14) ⊎ (n ≡ 15))
      go (inl p) = let h = header_old in inl (omega arith)
      go (inr (inl p)) = let h = row_old p.0 in let q = p.2 in inl (omega arith)
      go (inr (inr p)) = among_faults blanks (table_of s) (sources_of s) p.0 n p.2

  -- happens-before and location order are those of the rules without dependencies, L4 and L5, and scopes go by places alone
  module _ (chains : Bool) (well : Fillable s) where
    pub old_happens : (m k : ℕ) → m < 3 * rows_at s → k < 3 * rows_at s → (happens (table_under chains s) m k ≡ true) ↔ HappensBefore₁ (table_under chains s) m k
    unfolding table_under decode
    old_happens = happens_is₁ (table_under chains s) (no_hosts (admitted_sound true s well) no_hosts_here chains)

    pub old_before : (x y b : ℕ) → before (table_under chains s) x y b ≡ before₁ (table_under chains s) x y b
    old_before = before_is (table_under chains s) (no_hosts (admitted_sound true s well) no_hosts_here chains)

    pub old_shares : (scope a b : ℕ) → shares (table_under chains s).places scope a b ≡ one_instance (table_under chains s).places scope a b
    old_shares = shares_is (table_under chains s) (no_hosts (admitted_sound true s well) no_hosts_here chains)

-- ---- request 5: tables without kind 6

five : (r : Row) → control r ≡ false → leb r.kind CONTROL ≡ leb r.kind BARRIER
unfolding control
five r c = go (dec_lt BARRIER r.kind)
  where
    six : r.kind ≡ CONTROL → ⊥
    six = eqb-false r.kind CONTROL c

    ne : (k : ℕ) → (k ≡ CONTROL → ⊥) → BARRIER < k → CONTROL < k
    ne k n l = past (dec_lt CONTROL k)
      where
        past : Dec (CONTROL < k) → CONTROL < k
        past (yes q) = q
        past (no q) = absurd (n (omega arith))

    go : Dec (BARRIER < r.kind) → leb r.kind CONTROL ≡ leb r.kind BARRIER
    go (yes l) = lt-leb r.kind CONTROL (ne r.kind six l) ∙ sym (lt-leb r.kind BARRIER l)
    go (no l) = le-leb r.kind CONTROL (omega arith) ∙ sym (le-leb r.kind BARRIER (omega arith))

-- 5 and 6 of a row that is no control barrier, without what kind 6 brought
pub codes_without : (hosts : Bool) (agents : ℕ) (r : Row) → control r ≡ false → codes_fit hosts agents r
    ≡ ((leb r.kind BARRIER or (hosts and operation r)) and ltb r.agent agents and leb r.order BOTH and leb r.scope DEVICE
    and leb r.classes MOST_CLASSES and leb r.flags MOST_FLAGS and leb r.class MOST_CLASS)
unfolding codes_fit
codes_without hosts agents r c = rw (c, kinds) refl
  where
    kinds : leb r.kind CONTROL ≡ leb r.kind BARRIER
    kinds = five r c

pub barrier_without : (r : Row) → control r ≡ false → barrier_fits r
    ≡ ((not (eqb r.order RELAXED) and eqb r.class 0 and eqb r.start 0) and not (non_private r) and eqb r.reference 0)
unfolding barrier_fits ◌or◌
barrier_without r c = rw c refl

module _ (t : Table) (without : (i : ℕ) → i < t.rows → control (t.row i) ≡ false) where
  -- M5 without the control barrier's case
  pub synchronizes_without : (a b : ℕ) → synchronizes t a b
      ≡ (releases (t.row a) and acquires (t.row b) and (sync_atomics t a b or sync_from_barrier t a b or sync_to_barrier t a b or sync_barriers t a b))
  unfolding synchronizes sync_control passes arrives joins same_instance
  synchronizes_without a b = rw (or_off _ _ control_off) refl
    where
      control_off : sync_control t a b ≡ false
      control_off = and_false_right _ _ (any_not (passes t a b) t.rows (λ c l. and_false_right _ _ (any_not (arrives t b c) t.rows (λ d k.
          and_false_right _ _ (and_false_left _ _ (and_false_right _ _ (and_false_left _ _ (and_false_left _ _ (without c l)))))))))

  -- 14 doesn't hold of a row
  instance_without : (i : ℕ) → i < t.rows → instance_broken t i ≡ false
  unfolding instance_broken apart_at apart same_instance
  instance_without i l = any_not (apart_at t i) i (λ j k. and_false_left _ _ (and_false_left _ _ (and_false_left _ _ (without i l))))

-- so 14 is never given
header_numbers : (s : List ℕ) → header_fault s ≡ 14 → ⊥
unfolding header_fault hosts_fault shape_or
header_numbers s e = go (leb HEADER (length s)) (version_fits s) (limits_fit s) (length_fits s) (agents_known s) (dependencies_few s) (dependencies_named s) e
  where
    go : (a b c d f g h : Bool) → ◌≡◌ {A = ℕ} (cond a (cond b (cond c (cond d (cond f (cond g (cond h 0 18) 17) 16) 4) 3) 2) 1) 14 → ⊥
    go false b c d f g h q = omega arith
    go true false c d f g h q = omega arith
    go true true false d f g h q = omega arith
    go true true true false f g h q = omega arith
    go true true true true false g h q = omega arith
    go true true true true true false h q = omega arith
    go true true true true true true false q = omega arith
    go true true true true true true true q = omega arith

row_numbers : (s : List ℕ) (j : ℕ) → row_fault_at s j ≡ 14 → ⊥
unfolding row_fault_at row_fault form_fault
row_numbers s j e =
    let r = row_of (row_bytes s) j in
    let a = source_of (row_bytes s) j in
    go (codes_fit (has_hosts s) (agents_at s) r) (agent_fits (agent_kind (places_of s) r.agent) r) (operation r) (operation_fits r a) (kind_fits r a) (extent_fits r) e
  where
    go : (a b c d f g : Bool) → ◌≡◌ {A = ℕ} (cond a (cond b (cond c (cond d 0 20) (cond f (cond g 0 7) 6)) 19) 5) 14 → ⊥
    go false b c d f g q = omega arith
    go true false c d f g q = omega arith
    go true true true true f g q = omega arith
    go true true true false f g q = omega arith
    go true true false d true true q = omega arith
    go true true false d true false q = omega arith
    go true true false d false g q = omega arith

pub never_14 : (s : List ℕ) → ((i : ℕ) → i < rows_at s → control (row_of (row_bytes s) i) ≡ false)
    → (blanks : Bool) (n i : ℕ) → admission blanks s ≡ Refused n i → n ≡ 14 → ⊥
unfolding table_fault table_of table_under decode
never_14 s without blanks n i e h = go (from_faults blanks s n i e)
  where
    among : (a b c d f : Bool) → d ≡ false → ◌≡◌ {A = ℕ} (cond a 8 (cond b 9 (cond c 10 (cond d 14 (cond f 15 0))))) 14 → ⊥
    among true b c d f z q = omega arith
    among false true c d f z q = omega arith
    among false false true d f z q = omega arith
    among false false false true f z q = not_both refl z
    among false false false false true z q = omega arith
    among false false false false false z q = omega arith

    go : (header_fault s ≡ n) ⊎ (((j : ℕ) × (j < rows_at s) × (row_fault_at s j ≡ n))
        ⊎ ((j : ℕ) × (j < rows_at s) × (table_fault blanks (table_of s) (sources_of s) j ≡ n))) → ⊥
    go (inl p) = header_numbers s (p ∙ h)
    go (inr (inl p)) = row_numbers s p.0 (p.2 ∙ h)
    go (inr (inr p)) = among (class_taken (table_of s) p.0) (source_broken blanks (table_of s) (sources_of s) p.0) (rank_taken (table_of s) p.0)
        (instance_broken (table_of s) p.0) (unfit (table_of s) p.0) (instance_without (table_of s) without p.0 p.1) (p.2 ∙ h)
