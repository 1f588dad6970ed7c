-- Chains: without them L3 is the rule of single elements, and whatever is ordered without them is ordered with them. Assumes nothing.
use Rattle.std.specs.Prelude.{◌≡◌, List, [], ◌⊎◌, ◌↔◌, leb, eqb, get_or}
use Rattle.std.proofs.Math.Path.{refl, sym, ap, subst}
use Rattle.std.proofs.Common.{◌∙◌, inl, inr}
use Rattle.std.proofs.Math.Bool.{Bool, true, false, cond}
use Rattle.std.proofs.Math.Logic.{⊎_elim}
use Prim.Native.Nat.{ℕ, zero, suc, ◌+◌, ◌-◌, ◌*◌, ◌≤◌, ◌<◌}
use native.Mathlib.Omega.{arith}
use Rattle.std.proofs.Math.Decide.{dec_lt}
use borrow.Author.Tests.{eqb-true, eqb-false, eq-eqb, leb-true, le-leb}
use Rattle.finite.specs.Logic.{◌and◌, ◌or◌, split, and_true, or_cases, or_left, or_right, which, not_both, not_out, bool_ext}
use Rattle.finite.specs.Below.{any_below, any_in, any_out}
use Rattle.finite.specs.Closure.{Reach, through_reach}
use Rattle.model.specs.Row.{plain, reads}
use Rattle.model.specs.Table.{Table, row_of, mode_of, dependency, depends_of, decode, table_under}
use Rattle.model.specs.Header.{row_bytes}
use Rattle.model.specs.RowFault.{codes_fit}
use Rattle.model_laws.specs.AdmissionLaws.{Sound, row_right}
use Rattle.model.specs.Scope.{DEVICE, INVOCATION, agree, one_instance, shares, mutually, follows}
use Rattle.model.specs.Moment.{BEFORE, AFTER, row_in, part, itself, availability_of, visibility_of, program_ordered, availability, visibility}
use Rattle.model.specs.Moment.{same_agent, program_order}
use Rattle.model.specs.Synchronizes.{ends, sequence, takes_from, leads, trails, sync_atomics, carries_out, sync_from_barrier, carries_in, sync_to_barrier}
use Rattle.model.specs.Synchronizes.{carries_over, sync_control, passes, arrives, joins, up_to, sync_barriers, synchronizes}
use Rattle.model.specs.Happens.{holding, concerns, by_sync, to_release, from_acquire, by_system, direct, nth_case, step, inter_thread}
use Rattle.model.specs.Happens.{inter_thread_by, happens}
use Rattle.model.specs.Location.{L1, L2}
use Rattle.model.specs.Availability.{single_available, single_visible, share_moment, single_shown, single_met, single_carried, Single}
use Rattle.model.specs.Availability.{covers_of, availability_moment, visibility_moment, first_available, last_visible, broadens, narrows}
use Rattle.model.specs.Availability.{availability_chain, visibility_chain, available_by, ends_availability, visible_by, begins_visibility, in_domain, meets_via, meets_in}
use Rattle.model.specs.Location.{system_before, L4, thence, on_host, available_kind, visible_kind, domain_kind, seen_by, met_from}
use Rattle.model.specs.Availability.{available_via, by_domain, L3}
use Rattle.model.specs.Location.{carried_by, reaches_by, L5, before}

-- ---- definitions

-- each row's scope is one of M2's, as refusal 5 sees to
abbrev pub Scoped : Table → Type 0
Scoped t = (i : ℕ) → i < t.rows → (t.row i).scope ≤ DEVICE

-- the same table on a device with or without chains
abbrev pub under : Bool → Table → Table
under c t =
    record {
      rows = t.rows;
      places = t.places;
      counted = t.counted;
      chains = c;
      row = t.row;
      source = t.source;
      depends = t.depends;
    }

-- ---- a chain has any number of elements

pub availability_chain_is : (t : Table) (a c : ℕ) → (availability_chain t a c ≡ true) ↔ ((a ≡ c) ⊎ ((t.chains ≡ true) × Reach (broadens t) t.rows a c))
unfolding availability_chain
availability_chain_is t a c = (
  λ e. ⊎_elim (λ h. inl (eqb-true a c h)) (λ h. inr ((split h).0, (through_reach (broadens t) t.rows a c).0 (split h).1)) (or_cases (eqb a c) _ e),
  λ d. ⊎_elim (λ h. or_left _ (eq-eqb a c h)) (λ h. or_right (eqb a c) (and_true h.0 ((through_reach (broadens t) t.rows a c).1 h.1))) d,
)

pub visibility_chain_is : (t : Table) (w v : ℕ) → (visibility_chain t w v ≡ true) ↔ ((w ≡ v) ⊎ ((t.chains ≡ true) × Reach (narrows t) t.rows w v))
unfolding visibility_chain
visibility_chain_is t w v = (
  λ e. ⊎_elim (λ h. inl (eqb-true w v h)) (λ h. inr ((split h).0, (through_reach (narrows t) t.rows w v).0 (split h).1)) (or_cases (eqb w v) _ e),
  λ d. ⊎_elim (λ h. or_left _ (eq-eqb w v h)) (λ h. or_right (eqb w v) (and_true h.0 ((through_reach (narrows t) t.rows w v).1 h.1))) d,
)

-- ---- scopes: what holds at one holds at a broader one

module _ (p : List (List ℕ)) where
  at_1 : (a b : ℕ) → one_instance p 1 a b ≡ (agree p 0 a b and agree p 1 a b and agree p 2 a b or false)
  unfolding one_instance ◌and◌ ◌or◌
  at_1 a b = refl

  at_2 : (a b : ℕ) → one_instance p 2 a b ≡ (agree p 0 a b and agree p 1 a b or false or false)
  unfolding one_instance ◌and◌ ◌or◌
  at_2 a b = refl

  at_3 : (a b : ℕ) → one_instance p 3 a b ≡ (agree p 0 a b or false or false or false)
  unfolding one_instance ◌and◌ ◌or◌
  at_3 a b = refl

  at_4 : (a b : ℕ) → one_instance p 4 a b ≡ true
  unfolding one_instance ◌and◌ ◌or◌
  at_4 a b = refl

  out : (x : Bool) → (x or false) ≡ true → x ≡ true
  unfolding ◌or◌
  out true e = refl
  out false e = e

  instance_step : (d a b : ℕ) → 1 ≤ d → d < DEVICE → one_instance p d a b ≡ true → one_instance p (suc d) a b ≡ true
  instance_step zero a b l m e = absurd (omega arith)
  instance_step (suc zero) a b l m e = let h = (split (out _ (sym (at_1 a b) ∙ e))).0 in at_2 a b ∙ or_left _ (or_left _ h)
  instance_step (suc (suc zero)) a b l m e = let h = (split (out _ (out _ (sym (at_2 a b) ∙ e)))).0 in at_3 a b ∙ or_left _ (or_left _ (or_left _ h))
  instance_step (suc (suc (suc zero))) a b l m e = at_4 a b
  instance_step (suc (suc (suc (suc d)))) a b l m e = absurd (omega arith)

  instance_wider : (k d a b : ℕ) → 1 ≤ d → d + k ≤ DEVICE → one_instance p d a b ≡ true → one_instance p (d + k) a b ≡ true
  instance_wider zero d a b l m e = let q : d + 0 ≡ d = omega arith in subst (λ (z : ℕ). one_instance p z a b ≡ true) (sym q) e
  instance_wider (suc k) d a b l m e =
      let q : d + suc k ≡ suc (d + k) = omega arith in
      subst (λ (z : ℕ). one_instance p z a b ≡ true) (sym q) (instance_step (d + k) a b (omega arith) (omega arith) (instance_wider k d a b l (omega arith) e))

  pub shares_wider : (d e a b : ℕ) → 1 ≤ d → d ≤ e → e ≤ DEVICE → shares p d a b ≡ true → shares p e a b ≡ true
  unfolding shares
  shares_wider d e a b l m n h =
      let q : d + (e - d) ≡ e = omega arith in
      and_true (split h).0 (subst (λ (z : ℕ). one_instance p z a b ≡ true) q (instance_wider (e - d) d a b l (omega arith) (split h).1))

  agree_self : (k a : ℕ) → agree p k a a ≡ true
  unfolding agree
  agree_self k a = eq-eqb (get_or (get_or p a []) k 0) _ refl

  instance_self : (d a : ℕ) → 1 ≤ d → d ≤ DEVICE → one_instance p d a a ≡ true
  instance_self zero a l m = absurd (omega arith)
  instance_self (suc zero) a l m = at_1 a a ∙ or_left _ (and_true (and_true (agree_self 0 a) (agree_self 1 a)) (agree_self 2 a))
  instance_self (suc (suc zero)) a l m = at_2 a a ∙ or_left _ (or_left _ (and_true (agree_self 0 a) (agree_self 1 a)))
  instance_self (suc (suc (suc zero))) a l m = at_3 a a ∙ or_left _ (or_left _ (or_left _ (agree_self 0 a)))
  instance_self (suc (suc (suc (suc zero)))) a l m = at_4 a a
  instance_self (suc (suc (suc (suc (suc d))))) a l m = absurd (omega arith)

  -- an agent that shares a scope with another shares it with itself
  pub shares_left : (d a b : ℕ) → 1 ≤ d → d ≤ DEVICE → shares p d a b ≡ true → shares p d a a ≡ true
  unfolding shares
  shares_left d a b l m h = and_true (and_true (split (split h).0).0 (split (split h).0).0) (instance_self d a l m)

  pub shares_right : (d a b : ℕ) → 1 ≤ d → d ≤ DEVICE → shares p d a b ≡ true → shares p d b b ≡ true
  unfolding shares
  shares_right d a b l m h = and_true (and_true (split (split h).0).1 (split (split h).0).1) (instance_self d b l m)

-- ---- moments and the rows that they are of

positive : (n : ℕ) → (n ≡ 0 → ⊥) → 1 ≤ n
positive zero f = absurd (f refl)
positive (suc n) f = omega arith

module _ (t : Table) where
  third : (b : Bool) → (cond {A = ℕ} b AFTER BEFORE < 3) × (cond {A = ℕ} b BEFORE AFTER < 3)
  third true = (omega arith, omega arith)
  third false = (omega arith, omega arith)

  available_row : (i : ℕ) → row_in (availability_moment t i) ≡ i
  unfolding availability_moment
  available_row i = let k = (third (plain (t.row i))).0 in omega arith

  visible_row : (i : ℕ) → row_in (visibility_moment t i) ≡ i
  unfolding visibility_moment
  visible_row i = let k = (third (plain (t.row i))).1 in omega arith

  available_below : (i : ℕ) → i < t.rows → availability_moment t i < 3 * t.rows
  unfolding availability_moment
  available_below i l = let k = (third (plain (t.row i))).0 in omega arith

  visible_below : (i : ℕ) → i < t.rows → visibility_moment t i < 3 * t.rows
  unfolding visibility_moment
  visible_below i l = let k = (third (plain (t.row i))).1 in omega arith

  available_moment : (m : ℕ) → availability t m ≡ true → availability_moment t (row_in m) ≡ m
  unfolding availability availability_of availability_moment
  available_moment m e = let k = eqb-true (part m) _ (split e).1 in omega arith

  visible_moment : (m : ℕ) → visibility t m ≡ true → visibility_moment t (row_in m) ≡ m
  unfolding visibility visibility_of visibility_moment
  visible_moment m e = let k = eqb-true (part m) _ (split e).1 in omega arith

  -- such a moment has a scope
  available_scope : (m : ℕ) → availability t m ≡ true → 1 ≤ (t.row (row_in m)).scope
  unfolding availability availability_of
  available_scope m e = positive (t.row (row_in m)).scope (eqb-false (t.row (row_in m)).scope INVOCATION (not_out _ (split (split e).0).1))

  visible_scope : (m : ℕ) → visibility t m ≡ true → 1 ≤ (t.row (row_in m)).scope
  unfolding visibility visibility_of
  visible_scope m e = positive (t.row (row_in m)).scope (eqb-false (t.row (row_in m)).scope INVOCATION (not_out _ (split (split e).0).1))

  -- program order is of one agent
  order_agent : (m n : ℕ) → program_order t m n ≡ true → (t.row (row_in m)).agent ≡ (t.row (row_in n)).agent
  unfolding program_order program_ordered
  order_agent m n e = eqb-true (t.row (row_in m)).agent (t.row (row_in n)).agent (split (split (split e).0).0).1

  itself_row : (x : ℕ) → row_in (itself x) ≡ x
  itself_row x = omega arith

-- ---- without chains, L3 is the rule of single elements

module _ (t : Table) (scoped : Scoped t) (off : t.chains ≡ false) where
  one_available : (a c : ℕ) → availability_chain t a c ≡ true → a ≡ c
  one_available a c e = ⊎_elim (λ h. h) (λ h. not_both h.0 off) ((availability_chain_is t a c).0 e)

  one_visible : (w v : ℕ) → visibility_chain t w v ≡ true → w ≡ v
  one_visible w v e = ⊎_elim (λ h. h) (λ h. not_both h.0 off) ((visibility_chain_is t w v).0 e)

  -- chains of one element
  from_first : (x b c : ℕ) → ends_availability t x b c ≡ true → first_available t x b c ≡ true
  unfolding ends_availability available_by
  from_first x b c e =
      let r = any_out (λ a. first_available t x b a and availability_chain t a c) t.rows e in
      subst (λ (a : ℕ). first_available t x b a ≡ true) (one_available r.0 c (split r.2).1) (split r.2).0

  first_from : (x b c : ℕ) → c < t.rows → first_available t x b c ≡ true → ends_availability t x b c ≡ true
  unfolding ends_availability available_by
  first_from x b c l e = any_in (λ a. first_available t x b a and availability_chain t a c) t.rows c l (and_true e ((availability_chain_is t c c).1 (inl refl)))

  to_last : (y b w : ℕ) → begins_visibility t y b w ≡ true → last_visible t y b w ≡ true
  unfolding begins_visibility visible_by
  to_last y b w e =
      let r = any_out (λ v. last_visible t y b v and visibility_chain t w v) t.rows e in
      subst (λ (v : ℕ). last_visible t y b v ≡ true) (sym (one_visible w r.0 (split r.2).1)) (split r.2).0

  last_to : (y b w : ℕ) → w < t.rows → last_visible t y b w ≡ true → begins_visibility t y b w ≡ true
  unfolding begins_visibility visible_by
  last_to y b w l e = any_in (λ v. last_visible t y b v and visibility_chain t w v) t.rows w l (and_true e ((visibility_chain_is t w w).1 (inl refl)))

  -- an operation and its moment
  first_single : (x b c : ℕ) → first_available t x b c ≡ true → single_available t x b (availability_moment t c) ≡ true
  unfolding first_available single_available
  first_single x b c e = and_true (split e).0 (subst (λ (i : ℕ). covers_of (t.row i) (t.row x) b ≡ true) (sym (available_row t c)) (split e).1)

  single_first : (x b m : ℕ) → single_available t x b m ≡ true → first_available t x b (row_in m) ≡ true
  unfolding first_available single_available
  single_first x b m e =
      let a = split (split e).0 in
      let q = sym (available_moment t m a.0) in
      and_true (and_true (subst (λ (k : ℕ). availability t k ≡ true) q a.0) (subst (λ (k : ℕ). program_order t (itself x) k ≡ true) q a.1)) (split e).1

  last_single : (y b w : ℕ) → last_visible t y b w ≡ true → single_visible t y b (visibility_moment t w) ≡ true
  unfolding last_visible single_visible
  last_single y b w e = and_true (split e).0 (subst (λ (i : ℕ). covers_of (t.row i) (t.row y) b ≡ true) (sym (visible_row t w)) (split e).1)

  single_last : (y b m : ℕ) → single_visible t y b m ≡ true → last_visible t y b (row_in m) ≡ true
  unfolding last_visible single_visible
  single_last y b m e =
      let a = split (split e).0 in
      let q = sym (visible_moment t m a.0) in
      and_true (and_true (subst (λ (k : ℕ). visibility t k ≡ true) q a.0) (subst (λ (k : ℕ). program_order t k (itself y) ≡ true) q a.1)) (split e).1

  module _ (x y b : ℕ) where
    -- a domain that the agents access is one of a broader scope too
    shared : (d c m : ℕ) → 1 ≤ d → c < t.rows → row_in m ≡ c → leb d (t.row c).scope ≡ true
        → shares t.places d (t.row x).agent (t.row y).agent ≡ true → share_moment t x y m ≡ true
    unfolding share_moment
    shared d c m positive row_there row_is wide sharing =
        subst (λ (i : ℕ). shares t.places (t.row i).scope (t.row x).agent (t.row y).agent ≡ true) (sym row_is)
        (shares_wider t.places d (t.row c).scope (t.row x).agent (t.row y).agent positive (leb-true d (t.row c).scope wide)
        (scoped c row_there) sharing)

    shown_single : (d c w : ℕ) → 1 ≤ d → shares t.places d (t.row x).agent (t.row y).agent ≡ true → w < t.rows
        → meets_via t d y b c w ≡ true → single_shown t x y b (availability_moment t c) (visibility_moment t w) ≡ true
    unfolding meets_via in_domain single_shown
    shown_single d c w l h k f =
        let a = split f in
        let g = split a.0 in
        and_true (and_true (last_single y b w (to_last y b w a.1)) (shared d w (visibility_moment t w) l k (visible_row t w) (split g.0).0 h)) g.1

    forth_met : (d c : ℕ) → 1 ≤ d → shares t.places d (t.row x).agent (t.row y).agent ≡ true → meets_in t d y b c ≡ true
        → single_met t x y b (availability_moment t c) ≡ true
    unfolding meets_in single_met
    forth_met d c l h e = ⊎_elim reading writing (which (reads (t.row y)))
      where
        reading : reads (t.row y) ≡ true
            → cond (reads (t.row y)) (any_below (3 * t.rows) (single_shown t x y b (availability_moment t c))) (happens t (availability_moment t c) (itself y)) ≡ true
        reading r =
            let f : any_below t.rows (meets_via t d y b c) ≡ true = rw r at e in
            let w = any_out (meets_via t d y b c) t.rows f in
            rw r (any_in (single_shown t x y b (availability_moment t c)) (3 * t.rows) (visibility_moment t w.0) (visible_below t w.0 w.1)
            (shown_single d c w.0 l h w.1 w.2))

        writing : reads (t.row y) ≡ false
            → cond (reads (t.row y)) (any_below (3 * t.rows) (single_shown t x y b (availability_moment t c))) (happens t (availability_moment t c) (itself y)) ≡ true
        writing r = let f : happens t (availability_moment t c) (itself y) ≡ true = rw r at e in rw r f

    forth_carried : (c : ℕ) → c < t.rows → available_via t x y b c ≡ true → single_carried t x y b (availability_moment t c) ≡ true
    unfolding available_via by_domain in_domain single_carried
    forth_carried c l e =
        let k = any_out (by_domain t x y b c) DEVICE (split e).1 in
        let g = split k.2 in
        let h = split g.0 in
        let f = first_single x b c (from_first x b c (split e).0) in
        and_true (and_true f (shared (suc k.0) c (availability_moment t c) (omega arith) l (available_row t c) (split h.1).0 h.0))
        (forth_met (suc k.0) c (omega arith) h.0 g.1)

    forth : L3 t x y b ≡ true → Single t x y b ≡ true
    unfolding L3 Single
    forth e =
        let c = any_out (available_via t x y b) t.rows (split e).1 in
        and_true (split e).0
        (any_in (single_carried t x y b) (3 * t.rows) (availability_moment t c.0) (available_below t c.0 c.1) (forth_carried c.0 c.1 c.2))

    -- ---- and back

    abbrev X : ℕ
    X = (t.row x).agent

    abbrev Y : ℕ
    Y = (t.row y).agent

    in_domain_x : (d m : ℕ) → 1 ≤ d → d ≤ DEVICE → single_available t x b m ≡ true → d ≤ (t.row (row_in m)).scope → shares t.places d X Y ≡ true
        → in_domain t d x (row_in m) ≡ true
    unfolding single_available in_domain
    in_domain_x d m positive most available wide sharing =
        let q : (t.row (row_in (itself x))).agent ≡ (t.row (row_in m)).agent = order_agent t (itself x) m (split (split available).0).1 in
        let r : X ≡ (t.row (row_in m)).agent = ap (λ (i : ℕ). (t.row i).agent) (sym (itself_row t x)) ∙ q in
        and_true (le-leb d (t.row (row_in m)).scope wide)
        (subst (λ (a : ℕ). shares t.places d X a ≡ true) r (shares_left t.places d X Y positive most sharing))

    in_domain_y : (d m : ℕ) → 1 ≤ d → d ≤ DEVICE → single_visible t y b m ≡ true → d ≤ (t.row (row_in m)).scope → shares t.places d X Y ≡ true
        → in_domain t d y (row_in m) ≡ true
    unfolding single_visible in_domain
    in_domain_y d m positive most visible wide sharing =
        let q : (t.row (row_in m)).agent ≡ (t.row (row_in (itself y))).agent = order_agent t m (itself y) (split (split visible).0).1 in
        let r : Y ≡ (t.row (row_in m)).agent = ap (λ (i : ℕ). (t.row i).agent) (sym (itself_row t y)) ∙ sym q in
        and_true (le-leb d (t.row (row_in m)).scope wide)
        (subst (λ (a : ℕ). shares t.places d Y a ≡ true) r (shares_right t.places d X Y positive most sharing))

    -- c makes available to a domain of scope d
    build : (d c : ℕ) → 1 ≤ d → d ≤ DEVICE → c < t.rows → shares t.places d X Y ≡ true → in_domain t d x c ≡ true → ends_availability t x b c ≡ true
        → meets_in t d y b c ≡ true
        → any_below t.rows (available_via t x y b) ≡ true
    unfolding by_domain available_via
    build zero c positive most row_there sharing inside available reached = absurd (omega arith)
    build (suc d) c positive most row_there sharing inside available reached = any_in (available_via t x y b) t.rows c row_there
        (and_true available (any_in (by_domain t x y b c) DEVICE d (omega arith) (and_true (and_true sharing inside) reached)))

    available_single : (m : ℕ) → single_available t x b m ≡ true → availability t m ≡ true
    unfolding single_available
    available_single m e = (split (split e).0).0

    visible_single : (m : ℕ) → single_visible t y b m ≡ true → visibility t m ≡ true
    unfolding single_visible
    visible_single m e = (split (split e).0).0

    -- y meets c by way of a domain of scope d
    back_carried : (d m : ℕ) → m < 3 * t.rows → 1 ≤ d → d ≤ DEVICE → single_available t x b m ≡ true → d ≤ (t.row (row_in m)).scope
        → shares t.places d X Y ≡ true
        → meets_in t d y b (row_in m) ≡ true → any_below t.rows (available_via t x y b) ≡ true
    back_carried d m moment_there positive most available wide sharing reached =
        build d (row_in m) positive most (omega arith) sharing (in_domain_x d m positive most available wide sharing)
        (first_from x b (row_in m) (omega arith) (single_first x b m available)) reached

    back_writing : (m : ℕ) → m < 3 * t.rows → reads (t.row y) ≡ false → single_available t x b m ≡ true → share_moment t x y m ≡ true
        → happens t m (itself y) ≡ true
        → any_below t.rows (available_via t x y b) ≡ true
    unfolding share_moment meets_in
    back_writing m moment_there no_read available sharing earlier =
        let positive = available_scope t m (available_single m available) in
        let most = scoped (row_in m) (omega arith) in
        let g : happens t (availability_moment t (row_in m)) (itself y) ≡ true = subst (λ (k : ℕ). happens t k (itself y) ≡ true)
        (sym (available_moment t m (available_single m available))) earlier in
        back_carried (t.row (row_in m)).scope m moment_there positive most available (omega arith) sharing (rw no_read g)

    back_reading : (m v : ℕ) → m < 3 * t.rows → v < 3 * t.rows → reads (t.row y) ≡ true → single_available t x b m ≡ true → share_moment t x y m ≡ true
        → single_visible t y b v ≡ true → share_moment t x y v ≡ true → happens t m v ≡ true → any_below t.rows (available_via t x y b) ≡ true
    unfolding share_moment meets_in meets_via
    back_reading m v first_there second_there a_read available first_shares visible second_shares earlier =
        go (dec_lt (t.row (row_in v)).scope (t.row (row_in m)).scope)
      where
        hap : happens t (availability_moment t (row_in m)) (visibility_moment t (row_in v)) ≡ true
        hap =
            subst (λ (k : ℕ). happens t k (visibility_moment t (row_in v)) ≡ true) (sym (available_moment t m (available_single m available)))
            (subst (λ (k : ℕ). happens t m k ≡ true) (sym (visible_moment t v (visible_single v visible))) earlier)

        by : (d : ℕ) → 1 ≤ d → d ≤ DEVICE → d ≤ (t.row (row_in m)).scope → d ≤ (t.row (row_in v)).scope → shares t.places d X Y ≡ true
            → any_below t.rows (available_via t x y b) ≡ true
        by d positive most first_wide_lem second_wide sharing =
            back_carried d m first_there positive most available first_wide_lem sharing
            (rw a_read (any_in (meets_via t d y b (row_in m)) t.rows (row_in v) (omega arith)
            (and_true (and_true (in_domain_y d v positive most visible second_wide sharing) hap)
            (last_to y b (row_in v) (omega arith) (single_last y b v visible)))))

        go : Dec ((t.row (row_in v)).scope < (t.row (row_in m)).scope) → any_below t.rows (available_via t x y b) ≡ true
        go (yes q) =
            by (t.row (row_in v)).scope (visible_scope t v (visible_single v visible)) (scoped (row_in v) (omega arith)) (omega arith) (omega arith)
            second_shares
        go (no q) =
            by (t.row (row_in m)).scope (available_scope t m (available_single m available)) (scoped (row_in m) (omega arith)) (omega arith) (omega arith)
            first_shares

    back : Single t x y b ≡ true → L3 t x y b ≡ true
    unfolding L3 Single single_carried single_met single_shown
    back e = and_true (split e).0 (at (any_out (single_carried t x y b) (3 * t.rows) (split e).1))
      where
        at : (m : ℕ) × (m < 3 * t.rows) × (single_carried t x y b m ≡ true) → any_below t.rows (available_via t x y b) ≡ true
        at w = ⊎_elim reading writing (which (reads (t.row y)))
          where
            a : (single_available t x b w.0 ≡ true) × (share_moment t x y w.0 ≡ true)
            a = split (split w.2).0

            reading : reads (t.row y) ≡ true → any_below t.rows (available_via t x y b) ≡ true
            reading r =
                let f : any_below (3 * t.rows) (single_shown t x y b w.0) ≡ true = rw r at (split w.2).1 in
                let v = any_out (single_shown t x y b w.0) (3 * t.rows) f in
                let g = split v.2 in
                back_reading w.0 v.0 w.1 v.1 r a.0 a.1 (split g.0).0 (split g.0).1 g.1

            writing : reads (t.row y) ≡ false → any_below t.rows (available_via t x y b) ≡ true
            writing r =
                let f : happens t w.0 (itself y) ≡ true = rw r at (split w.2).1 in
                back_writing w.0 w.1 r a.0 a.1 f

    -- WITHOUT CHAINS, L3 IS DOCUMENT 01'S
    pub off_is : L3 t x y b ≡ Single t x y b
    off_is = bool_ext (L3 t x y b) (Single t x y b) forth back

-- ---- nothing but L3 reads whether the device has chains

module _ (c : Bool) (t : Table) where
  pub happens_under : (m n : ℕ) → happens (under c t) m n ≡ happens t m n
  unfolding happens inter_thread_by inter_thread step nth_case direct by_sync to_release from_acquire by_system holding concerns program_order
      same_agent synchronizes sync_control passes arrives joins up_to sync_barriers carries_over sync_to_barrier carries_in sync_from_barrier
      carries_out sync_atomics trails leads takes_from sequence ends follows mutually
  happens_under m n = refl

  L1_under : (x y : ℕ) → L1 (under c t) x y ≡ L1 t x y
  unfolding L1 happens inter_thread_by inter_thread step nth_case direct by_sync to_release from_acquire by_system holding concerns program_order
      same_agent synchronizes sync_control passes arrives joins up_to sync_barriers carries_over sync_to_barrier carries_in sync_from_barrier
      carries_out sync_atomics trails leads takes_from sequence ends follows mutually
  L1_under x y = refl

  L2_under : (x y : ℕ) → L2 (under c t) x y ≡ L2 t x y
  unfolding L2 happens inter_thread_by inter_thread step nth_case direct by_sync to_release from_acquire by_system holding concerns program_order
      same_agent synchronizes sync_control passes arrives joins up_to sync_barriers carries_over sync_to_barrier carries_in sync_from_barrier
      carries_out sync_atomics trails leads takes_from sequence ends follows mutually
  L2_under x y = refl

  L4_under : (x y : ℕ) → L4 (under c t) x y ≡ L4 t x y
  unfolding L4 system_before
  L4_under x y = refl

  L5_under : (x y : ℕ) → L5 (under c t) x y ≡ L5 t x y
  unfolding L5 reaches_by carried_by met_from seen_by thence available_kind visible_kind domain_kind on_host happens inter_thread_by inter_thread
      step nth_case direct by_sync to_release from_acquire by_system holding concerns program_order same_agent synchronizes sync_control passes arrives
      joins up_to sync_barriers carries_over sync_to_barrier carries_in sync_from_barrier carries_out sync_atomics trails leads takes_from sequence
      ends follows mutually
  L5_under x y = refl

  first_under : (x b a : ℕ) → first_available (under c t) x b a ≡ first_available t x b a
  unfolding first_available availability_moment availability program_order
  first_under x b a = refl

  last_under : (y b v : ℕ) → last_visible (under c t) y b v ≡ last_visible t y b v
  unfolding last_visible visibility_moment visibility program_order
  last_under y b v = refl

  domain_under : (d x i : ℕ) → in_domain (under c t) d x i ≡ in_domain t d x i
  unfolding in_domain
  domain_under d x i = refl

-- ---- whatever is ordered without chains is ordered with them

module _ (t : Table) where
  abbrev no_chains : Table
  no_chains = under false t

  abbrev with_chains : Table
  with_chains = under true t

  available_grows : (x b c : ℕ) → ends_availability no_chains x b c ≡ true → ends_availability with_chains x b c ≡ true
  unfolding ends_availability available_by
  available_grows x b c e =
      let r = any_out (λ a. first_available no_chains x b a and availability_chain no_chains a c) t.rows e in
      let q : r.0 ≡ c = ⊎_elim (λ h. h) (λ h. not_both h.0 refl) ((availability_chain_is no_chains r.0 c).0 (split r.2).1) in
      any_in (λ a. first_available with_chains x b a and availability_chain with_chains a c) t.rows r.0 r.1
      (and_true (first_under true t x b r.0 ∙ sym (first_under false t x b r.0) ∙ (split r.2).0)
      ((availability_chain_is with_chains r.0 c).1 (inl q)))

  visible_grows : (y b w : ℕ) → begins_visibility no_chains y b w ≡ true → begins_visibility with_chains y b w ≡ true
  unfolding begins_visibility visible_by
  visible_grows y b w e =
      let r = any_out (λ v. last_visible no_chains y b v and visibility_chain no_chains w v) t.rows e in
      let q : w ≡ r.0 = ⊎_elim (λ h. h) (λ h. not_both h.0 refl) ((visibility_chain_is no_chains w r.0).0 (split r.2).1) in
      any_in (λ v. last_visible with_chains y b v and visibility_chain with_chains w v) t.rows r.0 r.1
      (and_true (last_under true t y b r.0 ∙ sym (last_under false t y b r.0) ∙ (split r.2).0) ((visibility_chain_is with_chains w r.0).1 (inl q)))

  happens_same : (m n : ℕ) → happens no_chains m n ≡ true → happens with_chains m n ≡ true
  happens_same m n e = happens_under true t m n ∙ sym (happens_under false t m n) ∙ e

  domain_same : (d x i : ℕ) → in_domain no_chains d x i ≡ true → in_domain with_chains d x i ≡ true
  domain_same d x i e = domain_under true t d x i ∙ sym (domain_under false t d x i) ∙ e

  met_grows : (d y b c : ℕ) → meets_in no_chains d y b c ≡ true → meets_in with_chains d y b c ≡ true
  unfolding meets_in meets_via availability_moment visibility_moment
  met_grows d y b c e = ⊎_elim reading writing (which (reads (t.row y)))
    where
      m : ℕ
      m = 3 * c + cond (plain (t.row c)) AFTER BEFORE

      reading : reads (t.row y) ≡ true → meets_in with_chains d y b c ≡ true
      reading r =
          let f : any_below t.rows (meets_via no_chains d y b c) ≡ true = rw r at e in
          let w = any_out (meets_via no_chains d y b c) t.rows f in
          let g = split w.2 in
          let h = split g.0 in
          rw r (any_in (meets_via with_chains d y b c) t.rows w.0 w.1
          (and_true (and_true (domain_same d y w.0 h.0) (happens_same m _ h.1)) (visible_grows y b w.0 g.1)))

      writing : reads (t.row y) ≡ false → meets_in with_chains d y b c ≡ true
      writing r = let f : happens no_chains m (itself y) ≡ true = rw r at e in rw r (happens_same m (itself y) f)

  pub L3_grows : (x y b : ℕ) → L3 no_chains x y b ≡ true → L3 with_chains x y b ≡ true
  unfolding L3 by_domain available_via
  L3_grows x y b e =
      let c = any_out (available_via no_chains x y b) t.rows (split e).1 in
      let h = split c.2 in
      let k = any_out (by_domain no_chains x y b c.0) DEVICE h.1 in
      let g = split k.2 in
      and_true (split e).0
      (any_in (available_via with_chains x y b) t.rows c.0 c.1 (and_true (available_grows x b c.0 h.0)
      (any_in (by_domain with_chains x y b c.0) DEVICE k.0 k.1
      (and_true (and_true (split g.0).0 (domain_same (suc k.0) x c.0 (split g.0).1)) (met_grows (suc k.0) y b c.0 g.1)))))

  -- WHATEVER IS ORDERED WITHOUT CHAINS IS ORDERED WITH THEM
  pub before_grows : (x y b : ℕ) → before no_chains x y b ≡ true → before with_chains x y b ≡ true
  unfolding before
  before_grows x y b e = and_true (split e).0 (cases (split e).1)
    where
      T : Table → Bool
      T u = L1 u x y or L2 u x y or L3 u x y b or L4 u x y or L5 u x y

      cases : T no_chains ≡ true → T with_chains ≡ true
      cases h = ⊎_elim (λ a. ⊎_elim (λ b₁. ⊎_elim (λ c. ⊎_elim
          (λ d. or_left _ (or_left _ (or_left _ (or_left _ (L1_under true t x y ∙ sym (L1_under false t x y) ∙ d)))))
          (λ d. or_left _ (or_left _ (or_left _ (or_right _ (L2_under true t x y ∙ sym (L2_under false t x y) ∙ d)))))
          (or_cases (L1 no_chains x y) (L2 no_chains x y) c))
          (λ c. or_left _ (or_left _ (or_right _ (L3_grows x y b c))))
          (or_cases (L1 no_chains x y or L2 no_chains x y) (L3 no_chains x y b) b₁))
          (λ b₁. or_left _ (or_right _ (L4_under true t x y ∙ sym (L4_under false t x y) ∙ b₁)))
          (or_cases (L1 no_chains x y or L2 no_chains x y or L3 no_chains x y b) (L4 no_chains x y) a))
          (λ a. or_right _ (L5_under true t x y ∙ sym (L5_under false t x y) ∙ a))
          (or_cases (L1 no_chains x y or L2 no_chains x y or L3 no_chains x y b or L4 no_chains x y) (L5 no_chains x y) h)

-- ---- of a table's bytes

module _ {blanks : Bool} {s : List ℕ} (h : Sound blanks s) (c : Bool) where
  scoped_of : Scoped (table_under c s)
  unfolding table_under decode codes_fit
  scoped_of i l = leb-true (row_of (row_bytes s) i).scope DEVICE (row_right h i l).codes.scope

switched : (c : Bool) (s : List ℕ) → (table_under c s).chains ≡ c
unfolding table_under decode mode_of
switched c s = refl

-- with the switch off, L3 of a table that is admitted is the rule of single elements
pub single_elements : {blanks : Bool} {s : List ℕ} → Sound blanks s → (x y b : ℕ) → L3 (table_under false s) x y b ≡ Single (table_under false s) x y b
single_elements {blanks} {s} h x y b = off_is (table_under false s) (scoped_of h false) (switched false s) x y b

-- whatever is ordered with the switch off is ordered with it on
pub ordered_more : (s : List ℕ) (x y b : ℕ) → before (table_under false s) x y b ≡ true → before (table_under true s) x y b ≡ true
unfolding table_under decode mode_of depends_of dependency
ordered_more s x y b e = before_grows (table_under true s) x y b e
