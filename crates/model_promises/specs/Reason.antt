-- Reasons a reviewer can follow: which derivations the reader accepts, that there is one exactly where a moment happens before
-- another, and what holds of the one that is found. Assumes nothing.
use Rattle.std.specs.Prelude.{◌≡◌, Bool, ◌⊎◌, ◌↔◌, get_or, ltb, eqb}
use Rattle.std.proofs.Math.Path.{refl, ap, subst}
use Rattle.std.proofs.Common.{sym, ◌∙◌, inl, inr, not-suc-le-zero}
use Rattle.std.proofs.Math.Bool.{true, false, not, cond}
use mathlib.Core.List.{List, [], ◌∷◌}
use Rattle.std.proofs.Math.Logic.{⊎_elim}
use Prim.Native.Nat.{ℕ, zero, suc, ◌-◌, ◌*◌, ◌/◌, ◌≤◌, ◌<◌}
use native.Mathlib.Omega.{arith}
use Rattle.std.proofs.Math.Decide.{dec_lt}
use Rattle.std.proofs.Math.ListN.{length}
use borrow.Author.Tests.{ltb-true, lt-ltb, le-ltb, leb-true, le-leb, eqb-true, eqb-false, eq-eqb, ne_eqb}
use Rattle.finite.specs.Logic.{◌and◌, ◌or◌, which, split, and_true, or_cases, or_left, or_right, not_both, not_in, not_out}
use Rattle.finite.specs.Below.{any_below, least, any_off, any_not, Least, least_is, least_hit}
use Rattle.finite.specs.Closure.{Reach, one, more}
use Rattle.finite.specs.Walk.{walk, trail, along}
use Rattle.finite.specs.Cycle.{Way, there, onward, length_trail, length_along, trail_way, walk_reach, least_apart}
use Rattle.model.specs.declared.Admission.TheVariants.{Admitted}
use Rattle.model.specs.declared.Reason.{Reason}
use Rattle.model.specs.declared.Reason.TheVariants.{ProgramOrder, Chain}
use Rattle.model.specs.Limits.{ROWS, STEPS, CASE, CLASS_SETS}
use Rattle.model.specs.Table.{Table, table_under, table_of, decode}
use Rattle.model.specs.Moment.{AT, part, moment_of, moment_in, moment, program_ordered, program_order}
use Rattle.model.specs.Happens.{holding, holding_of, by_sync, to_release, from_acquire, by_system, ROW_CASES, direct, nth_case, step}
use Rattle.model.specs.Words.{HappensBefore}
use Rattle.model_laws.specs.CaseLaws.{step_cases, step_out}
use Rattle.model_laws.specs.AdmissionLaws.{admitted_sound, rows_fit}
use Rattle.model.specs.Refusal.{buffers_fit, admission, when_admitted}
use Rattle.model.specs.Reason.{case_in, reached, step_to, step_holds, stands, broken, chain_holds, accepts, two_moments}
use Rattle.model.specs.Reason.{has_chain, chain_size, lowest_case, step_number, chain, has_chain_by, chain_or, ours}
use Rattle.model.specs.Reason.{Judged, accepted, not_accepted, judged, judge, Derived, word, chained, not_before, refused, derived_of, derive}

-- ---- definitions

module _ (t : Table) where
  -- steps that hold for the class set s lead from a moment to another
  pub data Leads (s : ℕ) : ℕ → List ℕ → ℕ → Type 0 where
    done : {m : ℕ} → Leads s m [] m
    next : {m x k : ℕ} {l : List ℕ} → step_holds t s m x ≡ true → Leads s (reached x) l k → Leads s m (x ∷ l) k

  -- what the reader accepts of moments m and k: the word where program order holds, or a chain of 1 to STEPS such steps
  pub data Accepted (m k : ℕ) : Reason → List ℕ → Type 0 where
    by_word : program_order t m k ≡ true → Accepted m k ProgramOrder []
    by_chain : {s : ℕ} {l : List ℕ} → 1 ≤ s → s ≤ CLASS_SETS → 1 ≤ length l → length l ≤ STEPS → Leads s m l k → Accepted m k (Chain s) l

-- ---- laws: a step

-- two tests, and what each decides
or_is : {a b : Bool} {A B : Type 0} → (a ≡ true) ↔ A → (b ≡ true) ↔ B → ((a or b) ≡ true) ↔ (A ⊎ B)
or_is {a} {b} f g = (
  λ e. ⊎_elim (λ p. inl (f.0 p)) (λ p. inr (g.0 p)) (or_cases a b e),
  λ e. ⊎_elim (λ p. or_left b (f.1 p)) (λ p. or_right a (g.1 p)) e,
)

-- a case is the n-th, and its test passes
case_is : (c n : ℕ) {b : Bool} → ((eqb c n and b) ≡ true) ↔ ((c ≡ n) × (b ≡ true))
case_is c n = (λ e. (eqb-true c n (split e).0, (split e).1), λ e. and_true (eq-eqb c n e.0) e.1)

-- some number up to n passes: n does, where none below it does
least_last : (p : ℕ → Bool) (n : ℕ) → any_below (suc n) p ≡ true → p (least n p) ≡ true
unfolding any_below
least_last p n e = go (dec_lt (least n p) n)
  where
    go : Dec (least n p < n) → p (least n p) ≡ true
    go (yes l) = (least_is p n).hit l
    go (no l) =
        let b = (least_is p n).bound in
        let q : least n p ≡ n = omega arith in
        rw q (⊎_elim (λ h. absurd (l (least_hit p n h).0)) (λ h. h) (or_cases (any_below n p) (p n) e))

module _ (t : Table) (s m : ℕ) where
  -- a step holds exactly if the moment that it reaches is there, and the direct case that it names, 1 to 4, leads to it
  pub step_exactly : (x : ℕ) → (step_holds t s m x ≡ true) ↔ ((moment t (reached x) ≡ true)
      × (((((case_in x ≡ 1) × (by_sync t s m (reached x) ≡ true)) ⊎ ((case_in x ≡ 2) × (to_release t s m (reached x) ≡ true)))
      ⊎ ((case_in x ≡ 3) × (from_acquire t s m (reached x) ≡ true))) ⊎ ((case_in x ≡ 4) × (by_system t m (reached x) ≡ true))))
  unfolding step_holds direct
  step_exactly x =
      let c = or_is (or_is (or_is (case_is (case_in x) 1) (case_is (case_in x) 2)) (case_is (case_in x) 3)) (case_is (case_in x) 4) in
      (λ e. ((split e).0, c.0 (split e).1), λ e. and_true e.0 (c.1 e.1))

  -- the moment that a step reaches is there
  step_there : (x : ℕ) → step_holds t s m x ≡ true → moment t (reached x) ≡ true
  unfolding step_holds
  step_there x h = (split h).0

  -- a step that holds is one of those that inter-thread order is the closure of
  step_is : (x : ℕ) → step_holds t s m x ≡ true → step t s m (reached x) ≡ true
  unfolding step_holds direct
  step_is x h = rw (step_cases t s m (reached x))
      (or_map (or_map (or_map (λ e. (split e).1) (λ e. (split e).1)) (λ e. (split e).1)) (λ e. (split e).1) (split h).1)
    where
      or_map : {a b c d : Bool} → (a ≡ true → c ≡ true) → (b ≡ true → d ≡ true) → (a or b) ≡ true → (c or d) ≡ true
      or_map {a} {b} {c} {d} f g e = ⊎_elim (λ p. or_left d (f p)) (λ p. or_right c (g p)) (or_cases a b e)

  -- a moment that is reached is there
  own : (k : ℕ) → k < 3 * t.rows → holding t s k ≡ true → moment t k ≡ true
  unfolding holding holding_of moment moment_in moment_of
  own k l e = and_true (lt-ltb (k / 3) t.rows (omega arith)) (or_left _ (or_left _ (split (split e).0).0))

  row_there : (k : ℕ) → k < 3 * t.rows → eqb (part k) AT ≡ true → moment t k ≡ true
  unfolding moment moment_in moment_of
  row_there k l e = and_true (lt-ltb (k / 3) t.rows (omega arith)) (or_left _ (or_left _ e))

  ordered : (k : ℕ) → program_order t m k ≡ true → moment t k ≡ true
  unfolding program_order program_ordered moment
  ordered k e = (split e).1

  moment_there : (k : ℕ) → k < 3 * t.rows → step t s m k ≡ true → moment t k ≡ true
  unfolding by_sync to_release from_acquire by_system
  moment_there k l h = go (step_out t s m k h)
    where
      go : (by_sync t s m k ≡ true) ⊎ ((to_release t s m k ≡ true) ⊎ ((from_acquire t s m k ≡ true) ⊎ (by_system t m k ≡ true))) → moment t k ≡ true
      go (inl e) = own k l (split (split e).0).1
      go (inr (inl e)) = own k l (split (split (split e).0).0).0
      go (inr (inr (inl e))) = ordered k (split e).1
      go (inr (inr (inr e))) = row_there k l (split (split e).0).1

-- ---- laws: a chain

stands_next : (m x : ℕ) (l : List ℕ) (i : ℕ) → stands m (x ∷ l) (suc i) ≡ stands (reached x) l i
unfolding stands
stands_next m x l zero = refl
stands_next m x l (suc i) =
    let a : suc (suc i) - 1 ≡ suc i = omega arith in
    let b : suc i - 1 ≡ i = omega arith in
    rw (a, b, ne_eqb (suc (suc i)) 0 (λ q. absurd (omega arith)), ne_eqb (suc i) 0 (λ q. absurd (omega arith))) refl

module _ (t : Table) (s : ℕ) where
  -- each step holds where it stands
  abbrev Each : ℕ → List ℕ → Type 0
  Each m l = (i : ℕ) → i < length l → step_holds t s (stands m l i) (get_or l i 0) ≡ true

  leads_in : (m k : ℕ) (l : List ℕ) → Each m l → stands m l (length l) ≡ k → Leads t s m l k
  unfolding stands
  leads_in m k [] h e = rw e done
  leads_in m k (x ∷ l) h e =
      next (h 0 (omega arith))
      (leads_in (reached x) k l (λ i b. rw (stands_next m x l i) at (h (suc i) (omega arith))) (sym (stands_next m x l (length l)) ∙ e))

  leads_each : {m k : ℕ} {l : List ℕ} → Leads t s m l k → Each m l
  unfolding stands
  leads_each done i b = absurd (not-suc-le-zero b)
  leads_each {m} (next {x = x} {l = l} h p) zero b = h
  leads_each {m} (next {x = x} {l = l} h p) (suc i) b = rw (stands_next m x l i) (leads_each p i (omega arith))

  leads_end : {m k : ℕ} {l : List ℕ} → Leads t s m l k → stands m l (length l) ≡ k
  unfolding stands
  leads_end done = refl
  leads_end {m} (next {x = x} {l = l} h p) = stands_next m x l (length l) ∙ leads_end p

  chain_out : (m k : ℕ) (l : List ℕ) → chain_holds t s m k l ≡ true → Accepted t m k (Chain s) l
  unfolding chain_holds broken
  chain_out m k l h =
      let a = split h in
      let b = split a.0 in
      let c = split b.0 in
      let d = split c.0 in
      let e = split d.0 in
      by_chain (ltb-true _ _ e.0) (leb-true _ _ e.1) (ltb-true _ _ d.1) (leb-true _ _ c.1)
      (leads_in m k l (λ i q. not-false _ (any_off (broken t s m l) (length l) (not_out _ a.1) i q)) (eqb-true _ _ b.1))
    where
      not-false : (v : Bool) → not v ≡ false → v ≡ true
      not-false true q = refl
      not-false false q = not_both refl q

  chain_in : (m k : ℕ) (l : List ℕ) → 1 ≤ s → s ≤ CLASS_SETS → 1 ≤ length l → length l ≤ STEPS → Leads t s m l k → chain_holds t s m k l ≡ true
  unfolding chain_holds broken
  chain_in m k l positive a_set some few leads =
      and_true
      (and_true
      (and_true (and_true (and_true (lt-ltb _ _ positive) (le-leb _ _ a_set)) (lt-ltb _ _ some)) (le-leb _ _ few))
      (eq-eqb _ _ (leads_end leads)))
      (not_in (any_not (broken t s m l) (length l) (λ i q. ap not (leads_each leads i q))))

-- ---- what is accepted: the word where program order holds, or a chain whose steps hold in the table for its one class set and lead from
-- the first moment to the second

pub accepts_exactly : (t : Table) (m k : ℕ) (r : Reason) (l : List ℕ) → (accepts t m k r l ≡ true) ↔ Accepted t m k r l
unfolding accepts
accepts_exactly t m k ProgramOrder l = (out l, back l)
  where
    out : (l : List ℕ) → (eqb (length l) 0 and program_order t m k) ≡ true → Accepted t m k ProgramOrder l
    out [] h = by_word (split h).1
    out (x ∷ l) h = let e : suc (length l) ≡ 0 = eqb-true _ _ (split h).0 in absurd (omega arith)

    back : (l : List ℕ) → Accepted t m k ProgramOrder l → (eqb (length l) 0 and program_order t m k) ≡ true
    back [] (by_word h) = and_true (eq-eqb 0 0 refl) h
    back (_ ∷ _) x = elim x [ ]
accepts_exactly t m k (Chain s) l = (chain_out t s m k l, back s l)
  where
    back : (s : ℕ) (l : List ℕ) → Accepted t m k (Chain s) l → chain_holds t s m k l ≡ true
    back s l (by_chain a b c d p) = chain_in t s m k l a b c d p

-- ---- laws: a chain is a path of direct cases

module _ (t : Table) (s : ℕ) where
  below : (k : ℕ) → moment t k ≡ true → k < 3 * t.rows
  unfolding moment moment_in
  below k h = let e : k / 3 < t.rows = ltb-true _ _ (split h).0 in omega arith

  leads_reach : {m k : ℕ} {l : List ℕ} → 1 ≤ length l → Leads t s m l k → Reach (step t s) (3 * t.rows) m k
  leads_reach b done = absurd (not-suc-le-zero b)
  leads_reach {m} b (next {x = x} h done) = one (step_is t s m x h)
  leads_reach {m} b (next {x = x} h (next g p)) = more (step_is t s m x h) (below (reached x) (step_there t s m x h)) (leads_reach (omega arith) (next g p))

  -- a step by the lowest case that leads to a moment holds
  lowest_holds : (m k : ℕ) → k < CASE → moment t k ≡ true → step t s m k ≡ true → step_holds t s m (step_number t s m k) ≡ true
  unfolding step_holds step_number lowest_case step nth_case
  lowest_holds m k b here h = by (lowest_case t s m k) (least_last (nth_case t s m k) ROW_CASES h)
    where
      by : (case : ℕ) → direct t s case m k ≡ true → step_holds t s m (step_to case k) ≡ true
      by case d =
          let a : case_in (step_to case k) ≡ case = omega arith in
          let r : reached (step_to case k) ≡ k = omega arith in
          rw (a, r) (and_true here d)

  hop : (z w : ℕ) {k : ℕ} {l : List ℕ} → t.rows ≤ ROWS → w < 3 * t.rows → step t s z w ≡ true → Leads t s w l k → Leads t s z (step_number t s z w ∷ l) k
  unfolding step_number
  hop z w {k} {l} f d a p =
      let e : reached (step_to (lowest_case t s z w) w) ≡ w = omega arith in
      next {k = k} {l = l} (lowest_holds z w (omega arith) (moment_there t s z w d a) a) (rw e p)

  way_leads : t.rows ≤ ROWS → {k z : ℕ} {l : List ℕ} → Way (3 * t.rows) (step t s) k z l → Leads t s z (along (step_number t s) k l) k
  unfolding along
  way_leads f there = done
  way_leads f {k} (onward {z} {w} d a there) = hop z w f d a done
  way_leads f {k} (onward {z} {w} d a (onward {l = l} g b p)) = hop z w f d a (way_leads f (onward g b p))

  -- where there is a chain, the shortest is accepted: it has fewer steps than there are moments
  chain_accepted : t.rows ≤ ROWS → 1 ≤ s → s ≤ CLASS_SETS → (m k : ℕ) → two_moments t m k ≡ true → has_chain t s m k ≡ true
      → chain_holds t s m k (chain t s m k) ≡ true
  unfolding chain has_chain chain_size two_moments
  chain_accepted few positive a_set m k two has =
      let d = split two in
      let c = split d.0 in
      let hit = least_hit (λ j. walk (3 * t.rows) (step t s) k (suc j) m) (3 * t.rows) has in
      let size = least_apart (3 * t.rows) (step t s) k m (below k c.1) (below m c.0) (eqb-false _ _ (not_out _ d.1)) has in
      let l = trail (3 * t.rows) (step t s) k (suc (least (3 * t.rows) (λ j. walk (3 * t.rows) (step t s) k (suc j) m))) m in
      let e : length (along (step_number t s) k l) ≡ suc (least (3 * t.rows) (λ j. walk (3 * t.rows) (step t s) k (suc j) m)) =
      length_along (step_number t s) k l ∙ length_trail (3 * t.rows) (step t s) k _ m
      in
      chain_in t s m k (along (step_number t s) k l) positive a_set (omega arith) (omega arith)
      (way_leads few (trail_way (3 * t.rows) (step t s) k _ m hit.1))

-- ---- some derivation is accepted exactly where the first moment happens before the second, so none is otherwise

module _ (t : Table) (m k : ℕ) (f : t.rows ≤ ROWS) (two : two_moments t m k ≡ true) where
  first_there : moment t m ≡ true
  unfolding two_moments
  first_there = (split (split two).0).0

  second_there : moment t k ≡ true
  unfolding two_moments
  second_there = (split (split two).0).1

  -- a chain for a class set, and a path of its direct cases
  chain_reach : (s : ℕ) → (has_chain t s m k ≡ true) ↔ Reach (step t s) (3 * t.rows) m k
  unfolding has_chain
  chain_reach s = walk_reach (3 * t.rows) (step t s) k m (below t s k second_there) (below t s m first_there)

  pub accepted_before : ((r : Reason) × (l : List ℕ) × (accepts t m k r l ≡ true)) ↔ HappensBefore t m k
  accepted_before = (λ d. forth d.0 d.1 ((accepts_exactly t m k d.0 d.1).0 d.2), back)
    where
      forth : (r : Reason) (l : List ℕ) → Accepted t m k r l → HappensBefore t m k
      forth ProgramOrder [] (by_word h) = inl h
      forth ProgramOrder (_ ∷ _) x = elim x [ ]
      forth (Chain s) l (by_chain a b c d p) = inr (s, a, b, leads_reach t s c p)

      back : HappensBefore t m k → (r : Reason) × (l : List ℕ) × (accepts t m k r l ≡ true)
      back (inl h) = (ProgramOrder, [], (accepts_exactly t m k ProgramOrder []).1 (by_word h))
      back (inr (s, a, b, r)) = (Chain s, chain t s m k, taken s a b r)
        where
          taken : (s : ℕ) → 1 ≤ s → s ≤ CLASS_SETS → Reach (step t s) (3 * t.rows) m k → accepts t m k (Chain s) (chain t s m k) ≡ true
          taken s a b r = go (chain_accepted t s f a b m k two ((chain_reach s).1 r))
            where
              go : chain_holds t s m k (chain t s m k) ≡ true → accepts t m k (Chain s) (chain t s m k) ≡ true
              go e = (accepts_exactly t m k (Chain s) (chain t s m k)).1 (chain_out t s m k (chain t s m k) e)

  -- ---- what is said of the two moments by the derivation that is found holds; which one is found is undecided, and ours

  -- the word and a chain are accepted; not before is said where the first does not happen before the second; nothing is refused
  abbrev pub Said : Derived → Type 0
  Said word = accepts t m k ProgramOrder [] ≡ true
  Said (chained s l) = accepts t m k (Chain s) l ≡ true
  Said not_before = HappensBefore t m k → ⊥
  Said (refused n i) = ⊥

  pub ours_said : Said (ours t m k)
  unfolding ours chain_or has_chain_by accepts
  ours_said = go (which (program_order t m k)) (dec_lt c CLASS_SETS)
    where
      c : ℕ
      c = least CLASS_SETS (has_chain_by t m k)

      found : Least CLASS_SETS (has_chain_by t m k) c
      found = least_is (has_chain_by t m k) CLASS_SETS

      none : program_order t m k ≡ false → c ≡ CLASS_SETS → HappensBefore t m k → ⊥
      none x e (inl h) = not_both h x
      none x e (inr (zero, a, b, r)) = omega arith
      none x e (inr (suc j, a, b, r)) = not_both ((chain_reach (suc j)).1 r) (found.miss j (omega arith))

      go : (program_order t m k ≡ true) ⊎ (program_order t m k ≡ false) → Dec (c < CLASS_SETS)
          → Said (cond (program_order t m k) word (cond (ltb c CLASS_SETS) (chained (suc c) (chain t (suc c) m k)) not_before))
      go (inl x) d = rw x (and_true (eq-eqb 0 0 refl) x)
      go (inr x) (yes d) = rw (x, lt-ltb c CLASS_SETS d) (chain_accepted t (suc c) f (omega arith) d m k two (found.hit d))
      go (inr x) (no d) = rw (x, le-ltb c CLASS_SETS (omega arith)) (none x (let b = found.bound in omega arith))

  -- not before is said exactly where the first does not happen before the second
  pub ours_none : (ours t m k ≡ not_before) ↔ (HappensBefore t m k → ⊥)
  ours_none = (λ e. subst Said e ours_said, λ n. go (ours t m k) ours_said n)
    where
      go : (d : Derived) → Said d → (HappensBefore t m k → ⊥) → d ≡ not_before
      go word a n = absurd (n (accepted_before.0 (ProgramOrder, [], a)))
      go (chained s l) a n = absurd (n (accepted_before.0 (Chain s, l, a)))
      go not_before a n = refl
      go (refused i j) a n = absurd a

-- an admitted table is within the limit that these ask for
rows_within : (s : List ℕ) {a n : ℕ} → admission true s ≡ Admitted a n → (table_of s).rows ≤ ROWS
unfolding table_of table_under decode
rows_within s e = rows_fit (admitted_sound true s e)

-- ---- of any bytes that are admitted, and two moments

module _ (s : List ℕ) (m k : ℕ) {a n : ℕ} (admits : admission true s ≡ Admitted a n) (two : two_moments (table_of s) m k ≡ true) where
  -- ---- what the reader accepts

  reads : (r : Reason) (l : List ℕ) → (judge s m k r l ≡ accepted) ↔ (accepts (table_of s) m k r l ≡ true)
  unfolding judge when_admitted judged
  reads r l = (λ h. taken (which (accepts (table_of s) m k r l)) (rw (admits, two) at h), λ h. rw (admits, two, h) refl)
    where
      taken : (accepts (table_of s) m k r l ≡ true) ⊎ (accepts (table_of s) m k r l ≡ false) → cond (accepts (table_of s) m k r l) accepted not_accepted ≡ accepted
          → accepts (table_of s) m k r l ≡ true
      taken (inl x) h = x
      taken (inr x) h = absurd (apart (rw x at h))
        where
          apart : not_accepted ≡ accepted → ⊥
          apart q = subst (λ (j : Judged). is j) q tt
            where
              is : Judged → Type 0
              is not_accepted = Unit
              is accepted = ⊥
              is (refused n i) = ⊥

  -- the word: no steps beside it, and program order holds
  pub reads_word : (l : List ℕ) → (judge s m k ProgramOrder l ≡ accepted) ↔ ((l ≡ []) × (program_order (table_of s) m k ≡ true))
  reads_word l = (
    λ e. out l ((accepts_exactly (table_of s) m k ProgramOrder l).0 ((reads ProgramOrder l).0 e)),
    λ h. (reads ProgramOrder l).1 (back l h.0 h.1),
  )
    where
      out : (l : List ℕ) → Accepted (table_of s) m k ProgramOrder l → (l ≡ []) × (program_order (table_of s) m k ≡ true)
      out [] (by_word h) = (refl, h)
      out (_ ∷ _) x = elim x [ ]

      back : (l : List ℕ) → l ≡ [] → program_order (table_of s) m k ≡ true → accepts (table_of s) m k ProgramOrder l ≡ true
      back l e h = rw e ((accepts_exactly (table_of s) m k ProgramOrder []).1 (by_word h))

  -- a chain: of a class set, of 1 to STEPS steps, each of which holds where it stands, and it ends at the second moment
  pub reads_chain : (c : ℕ) (l : List ℕ) → (judge s m k (Chain c) l ≡ accepted)
      ↔ ((1 ≤ c) × (c ≤ CLASS_SETS) × (1 ≤ length l) × (length l ≤ STEPS) × (stands m l (length l) ≡ k)
      × ((i : ℕ) → i < length l → step_holds (table_of s) c (stands m l i) (get_or l i 0) ≡ true))
  reads_chain c l = (
    λ e. out c ((accepts_exactly (table_of s) m k (Chain c) l).0 ((reads (Chain c) l).0 e)),
    λ h. (reads (Chain c) l).1 ((accepts_exactly (table_of s) m k (Chain c) l).1
        (by_chain h.0 h.1 h.2 h.3 (leads_in (table_of s) c m k l h.5 h.4))),
  )
    where
      out : (c : ℕ) → Accepted (table_of s) m k (Chain c) l
          → (1 ≤ c) × (c ≤ CLASS_SETS) × (1 ≤ length l) × (length l ≤ STEPS) × (stands m l (length l) ≡ k) × Each (table_of s) c m l
      out c (by_chain a b d e p) = (a, b, d, e, leads_end (table_of s) c p, leads_each (table_of s) c p)

  -- some derivation, exactly where the first moment happens before the second
  pub reads_some : ((r : Reason) × (l : List ℕ) × (judge s m k r l ≡ accepted)) ↔ HappensBefore (table_of s) m k
  reads_some =
      let b = accepted_before (table_of s) m k (rows_within s admits) two in (
        λ d. b.0 (d.0, d.1, (reads d.0 d.1).0 d.2),
        λ h. let d = b.1 h in (d.0, d.1, (reads d.0 d.1).1 d.2),
      )

  -- ---- what is found

  module _ (work buffer : ℕ) (room : buffers_fit STEPS work buffer ≡ true) where
    derives_ours : derive s m k work buffer ≡ ours (table_of s) m k
    unfolding derive when_admitted derived_of
    derives_ours = rw (room, admits, two) refl

    said : (d : Derived) → derive s m k work buffer ≡ d → Said (table_of s) m k (rows_within s admits) two d
    said d e = subst (Said (table_of s) m k (rows_within s admits) two) (sym derives_ours ∙ e) (ours_said (table_of s) m k (rows_within s admits) two)

    -- it is accepted
    pub finds_word : derive s m k work buffer ≡ word → judge s m k ProgramOrder [] ≡ accepted
    finds_word e = (reads ProgramOrder []).1 (said word e)

    pub finds_chain : (c : ℕ) (l : List ℕ) → derive s m k work buffer ≡ chained c l → judge s m k (Chain c) l ≡ accepted
    finds_chain c l e = (reads (Chain c) l).1 (said (chained c l) e)

    -- some derivation is found exactly where the first moment happens before the second
    pub finds_some : ((derive s m k work buffer ≡ word) ⊎ ((c : ℕ) × (l : List ℕ) × (derive s m k work buffer ≡ chained c l))) ↔ HappensBefore (table_of s) m k
    finds_some = (
      λ d. ⊎_elim (λ e. reads_some.0 (ProgramOrder, [], finds_word e)) (λ e. reads_some.0 (Chain e.0, e.1, finds_chain e.0 e.1 e.2)) d,
      λ h. go (derive s m k work buffer) refl h,
    )
      where
        go : (d : Derived) → derive s m k work buffer ≡ d → HappensBefore (table_of s) m k
            → (derive s m k work buffer ≡ word) ⊎ ((c : ℕ) × (l : List ℕ) × (derive s m k work buffer ≡ chained c l))
        go word e h = inl e
        go (chained c l) e h = inr (c, l, e)
        go not_before e h = absurd (said not_before e h)
        go (refused i j) e h = absurd (said (refused i j) e)

    -- and none exactly where it does not
    pub finds_none : (derive s m k work buffer ≡ not_before) ↔ (HappensBefore (table_of s) m k → ⊥)
    finds_none = let b = ours_none (table_of s) m k (rows_within s admits) two in (λ e. b.0 (sym derives_ours ∙ e), λ h. derives_ours ∙ b.1 h)

-- ---- the derivation depends on the table and the two numbers alone: refused or not, with any buffers that are long enough

pub same_derivation : (s : List ℕ) (m k work buffer work' buffer' : ℕ) → buffers_fit STEPS work buffer ≡ true → buffers_fit STEPS work' buffer' ≡ true
    → derive s m k work' buffer' ≡ derive s m k work buffer
unfolding derive
same_derivation s m k work buffer work' buffer' h h' = rw (h, h') refl
