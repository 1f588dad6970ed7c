-- L3 by two sets of each availability row a: AT*, the rows that meet what a's chains make available, and VIS*, the last elements of
-- visibility chains that show it. Both hang on a alone, since its agent is the writer's, and a last element's is the reader's. So
-- location order has one form with chains and without them. Of tables whose scopes are M2's.
use Rattle.std.specs.Prelude.{◌≡◌, refl, Bool, false, cond, ltb}
use Rattle.std.proofs.Math.Path.{sym, ap, subst}
use Rattle.std.proofs.Common.{◌∙◌}
use Rattle.std.proofs.Math.Bool.{true}
use Rattle.std.proofs.Math.Logic.{⊎_elim}
use Prim.Native.Nat.{ℕ, zero, suc, ◌≤◌, ◌<◌}
use native.Mathlib.Omega.{arith}
use Rattle.std.proofs.Math.Decide.{dec_lt}
use Rattle.std.proofs.Math.Dec.{leb, eqb}
use borrow.Author.Tests.{eqb-true, eqb-false, eq-eqb, leb-true, le-leb, ltb-true, lt-ltb}
use Rattle.finite.specs.Logic.{◌and◌, ◌or◌, split, and_true, or_cases, or_left, or_right, which, not_out, bool_ext}
use Rattle.finite.specs.Below.{any_below, any_in, any_out}
use Rattle.finite.specs.Closure.{Reach, one, more}
use Rattle.model.specs.Row.{plain, reads}
use Rattle.model.specs.Table.{Table}
use Rattle.model.specs.Scope.{DEVICE, INVOCATION, shares}
use Rattle.model.specs.Moment.{BEFORE, AFTER, row_in, itself, availability_of, visibility_of, program_ordered, availability, visibility, program_order}
use Rattle.model.specs.Happens.{happens}
use Rattle.model.specs.Availability.{public_write, availability_moment, visibility_moment, first_available, last_visible, broader, broadens, narrows}
use Rattle.model.specs.Availability.{availability_chain, visibility_chain, available_by, ends_availability, visible_by, begins_visibility, in_domain, meets_via, meets_in}
use Rattle.model.specs.Availability.{available_via, by_domain, L3}
use Rattle.model_laws.specs.ChainLaws.{Scoped, shares_wider, availability_chain_is, visibility_chain_is}
use Rattle.model_placing.specs.Shares.{share, shares_swap, shares_trans}

-- ---- definitions

-- y meets at once what a chain from a to c makes available: in the widest domain of c's
unfoldable pub met_by : Table → ℕ → ℕ → ℕ → Bool
met_by t a y c =
    availability_chain t a c and share t (t.row a).agent (t.row c).scope c and share t (t.row a).agent (t.row c).scope y
    and happens t (availability_moment t c) (itself y)

-- AT*[a]: the rows that meet at once what some chain from a makes available
unfoldable pub meets : Table → ℕ → ℕ → Bool
meets t a y = any_below t.rows (met_by t a y)

-- the domain of scope d is the widest that c and w have in common
unfoldable pub widest : Table → ℕ → ℕ → ℕ → Bool
widest t d c w =
    (eqb (t.row c).scope d and leb d (t.row w).scope) or (ltb d (t.row c).scope and eqb (t.row w).scope d)

-- what a chain from a to c makes available to the domain of scope d of a's agent, w makes visible from it
unfoldable pub joined_by : Table → ℕ → ℕ → ℕ → ℕ → Bool
joined_by t a d w c =
    availability_chain t a c and share t (t.row a).agent d c and share t (t.row a).agent d w and widest t d c w
    and (visibility t (visibility_moment t w) and happens t (availability_moment t c) (visibility_moment t w))

unfoldable pub joined : Table → ℕ → ℕ → ℕ → Bool
joined t a d w = any_below t.rows (joined_by t a d w)

-- a visibility chain from such a w ends with v
unfoldable pub shown_by : Table → ℕ → ℕ → ℕ → ℕ → Bool
shown_by t a d v w = joined t a d w and visibility_chain t w v

-- the same, in the domain of scope k + 1
unfoldable pub shown_in : Table → ℕ → ℕ → ℕ → Bool
shown_in t a v k = share t (t.row a).agent (suc k) v and any_below t.rows (shown_by t a (suc k) v)

-- VIS*[a]: the last elements that show what some chain from a makes available
unfoldable pub shows : Table → ℕ → ℕ → Bool
shows t a v = any_below DEVICE (shown_in t a v)

-- ---- L3, of two such sets for each row. An engine may keep other sets than these two, if they lead to the same rows

-- y meets by way of its last element v, at b, what a leads to
unfoldable pub seen_by : Table → (ℕ → ℕ → Bool) → ℕ → ℕ → ℕ → ℕ → Bool
seen_by t vis a y b v = last_visible t y b v and vis a v

-- y meets at b what a leads to: a reader by way of a last element, any other at once
unfoldable pub leads : Table → (ℕ → ℕ → Bool) → (ℕ → ℕ → Bool) → ℕ → ℕ → ℕ → Bool
leads t at vis a y b = cond (reads (t.row y)) (any_below t.rows (seen_by t vis a y b)) (at a y)

-- x's first element a at b leads to y
unfoldable pub carried_by : Table → (ℕ → ℕ → Bool) → (ℕ → ℕ → Bool) → ℕ → ℕ → ℕ → ℕ → Bool
carried_by t at vis x y b a = first_available t x b a and leads t at vis a y b

unfoldable pub carried : Table → (ℕ → ℕ → Bool) → (ℕ → ℕ → Bool) → ℕ → ℕ → ℕ → Bool
carried t at vis x y b = any_below t.rows (carried_by t at vis x y b)

-- ---- laws: a test that is known

pub cond_on : (c a b : Bool) → c ≡ true → cond c a b ≡ a
cond_on c a b e = rw e refl

pub cond_off : (c a b : Bool) → c ≡ false → cond c a b ≡ b
cond_off c a b e = rw e refl

-- ---- laws: elements

positive : (n : ℕ) → (n ≡ 0 → ⊥) → 1 ≤ n
positive zero f = absurd (f refl)
positive (suc n) f = omega arith

module _ (t : Table) where
  third : (b : Bool) → (cond {A = ℕ} b AFTER BEFORE < 3) × (cond {A = ℕ} b BEFORE AFTER < 3)
  third true = (omega arith, omega arith)
  third false = (omega arith, omega arith)

  pub available_row : (i : ℕ) → row_in (availability_moment t i) ≡ i
  unfolding availability_moment
  available_row i = let k = (third (plain (t.row i))).0 in omega arith

  pub visible_row : (i : ℕ) → row_in (visibility_moment t i) ≡ i
  unfolding visibility_moment
  visible_row i = let k = (third (plain (t.row i))).1 in omega arith

  itself_row : (x : ℕ) → row_in (itself x) ≡ x
  itself_row x = omega arith

  order_agent : (m n : ℕ) → program_order t m n ≡ true → (t.row (row_in m)).agent ≡ (t.row (row_in n)).agent
  unfolding program_order program_ordered
  order_agent m n e = eqb-true (t.row (row_in m)).agent (t.row (row_in n)).agent (split (split (split e).0).0).1

  -- a first element is of the writer's agent, and has a scope
  pub first_agent : (x b a : ℕ) → first_available t x b a ≡ true → (t.row x).agent ≡ (t.row a).agent
  unfolding first_available
  first_agent x b a e =
      ap (λ (i : ℕ). (t.row i).agent) (sym (itself_row x)) ∙ order_agent (itself x) (availability_moment t a) (split (split e).0).1
      ∙ ap (λ (i : ℕ). (t.row i).agent) (available_row a)

  pub last_agent : (y b v : ℕ) → last_visible t y b v ≡ true → (t.row y).agent ≡ (t.row v).agent
  unfolding last_visible
  last_agent y b v e =
      ap (λ (i : ℕ). (t.row i).agent) (sym (itself_row y)) ∙ sym (order_agent (visibility_moment t v) (itself y) (split (split e).0).1)
      ∙ ap (λ (i : ℕ). (t.row i).agent) (visible_row v)

  pub available_scope : (a : ℕ) → availability t (availability_moment t a) ≡ true → 1 ≤ (t.row a).scope
  unfolding availability availability_of
  available_scope a e =
      subst (λ (i : ℕ). 1 ≤ (t.row i).scope) (available_row a)
      (positive (t.row (row_in (availability_moment t a))).scope
      (eqb-false (t.row (row_in (availability_moment t a))).scope INVOCATION (not_out _ (split (split e).0).1)))

  pub visible_scope : (v : ℕ) → visibility t (visibility_moment t v) ≡ true → 1 ≤ (t.row v).scope
  unfolding visibility visibility_of
  visible_scope v e =
      subst (λ (i : ℕ). 1 ≤ (t.row i).scope) (visible_row v)
      (positive (t.row (row_in (visibility_moment t v))).scope
      (eqb-false (t.row (row_in (visibility_moment t v))).scope INVOCATION (not_out _ (split (split e).0).1)))

  first_scope : (x b a : ℕ) → first_available t x b a ≡ true → 1 ≤ (t.row a).scope
  unfolding first_available
  first_scope x b a e = available_scope a (split (split e).0).0

  pub last_visible_lem : (y b v : ℕ) → last_visible t y b v ≡ true → visibility t (visibility_moment t v) ≡ true
  unfolding last_visible
  last_visible_lem y b v e = (split (split e).0).0

  -- a visibility chain's first element is one, if the last is
  chain_visible : (w v : ℕ) → visibility t (visibility_moment t v) ≡ true → visibility_chain t w v ≡ true → visibility t (visibility_moment t w) ≡ true
  unfolding narrows
  chain_visible w v l e =
      ⊎_elim (λ q. subst (λ (i : ℕ). visibility t (visibility_moment t i) ≡ true) (sym q) l) (λ r. starts r.1) ((visibility_chain_is t w v).0 e)
    where
      starts : {i j : ℕ} → Reach (narrows t) t.rows i j → visibility t (visibility_moment t i) ≡ true
      starts (one e) = (split (split e).0).0
      starts (more e h q) = (split (split e).0).0

  -- ---- laws: scopes along a chain

  pub broadens_scope : (a c : ℕ) → broadens t a c ≡ true → (t.row a).scope < (t.row c).scope
  unfolding broadens broader
  broadens_scope a c e = ltb-true (t.row a).scope (t.row c).scope (split (split (split e).0).1).0

  pub narrows_scope : (w v : ℕ) → narrows t w v ≡ true → (t.row v).scope < (t.row w).scope
  unfolding narrows broader
  narrows_scope w v e = ltb-true (t.row v).scope (t.row w).scope (split (split (split e).0).1).0

  reach_scope : {a c : ℕ} → Reach (broadens t) t.rows a c → (t.row a).scope < (t.row c).scope
  reach_scope {a} {c} (one e) = broadens_scope a c e
  reach_scope {a} {c} (more {m = m} e l q) =
      let h = broadens_scope a m e in
      let k = reach_scope q in
      omega arith

  chain_scope : (a c : ℕ) → 1 ≤ (t.row a).scope → availability_chain t a c ≡ true → 1 ≤ (t.row c).scope
  chain_scope a c l e =
      ⊎_elim (λ q. subst (λ (i : ℕ). 1 ≤ (t.row i).scope) q l) (λ r. let h = reach_scope r.1 in omega arith) ((availability_chain_is t a c).0 e)

-- what shows v what a leads to: a domain, the last element of an availability chain and the first of a visibility chain
pub record Shown (t : Table) (a v d c w : ℕ) : Type 0 where
  pub low : 1 ≤ d
  pub high : d ≤ DEVICE
  pub first_there : c < t.rows
  pub second_there : w < t.rows
  pub chain : availability_chain t a c ≡ true
  pub last : visibility_chain t w v ≡ true
  pub first_wide_lem : d ≤ (t.row c).scope
  pub second_wide : d ≤ (t.row w).scope
  pub with_first : share t (t.row a).agent d c ≡ true
  pub with_second : share t (t.row a).agent d w ≡ true
  pub with_last : share t (t.row a).agent d v ≡ true
  pub visible : visibility t (visibility_moment t w) ≡ true
  pub earlier : happens t (availability_moment t c) (visibility_moment t w) ≡ true

widest_out : (t : Table) (d c w : ℕ) → widest t d c w ≡ true → (d ≤ (t.row c).scope) × (d ≤ (t.row w).scope)
unfolding widest
widest_out t d c w e =
    ⊎_elim (λ h. let p = eqb-true (t.row c).scope d (split h).0 in let o = leb-true d (t.row w).scope (split h).1 in (omega arith, o))
    (λ h. let p = ltb-true d (t.row c).scope (split h).0 in let o = eqb-true (t.row w).scope d (split h).1 in (omega arith, omega arith))
    (or_cases _ _ e)

joined_out : (t : Table) (a d v w c k : ℕ) → k < DEVICE → d ≡ suc k → w < t.rows → c < t.rows → share t (t.row a).agent d v ≡ true
    → visibility_chain t w v ≡ true
    → joined_by t a d w c ≡ true → Shown t a v d c w
unfolding joined_by
joined_out t a d v w c k below is second_there first_there with_v last e =
    let j = split e in
    let l = split j.0 in
    let m = split l.0 in
    let n = split m.0 in
    let wide = widest_out t d c w l.1 in
    record {
      low = omega arith;
      high = omega arith;
      first_there = first_there;
      second_there = second_there;
      chain = n.0;
      last = last;
      first_wide_lem = wide.0;
      second_wide = wide.1;
      with_first = n.1;
      with_second = m.1;
      with_last = with_v;
      visible = (split j.1).0;
      earlier = (split j.1).1;
    }

pub shows_out : (t : Table) (a v : ℕ) → shows t a v ≡ true → (d c w : ℕ) × Shown t a v d c w
unfolding shows shown_in shown_by joined
shows_out t a v e =
    let k = any_out (shown_in t a v) DEVICE e in
    let h = split {a = share t (t.row a).agent (suc k.0) v} k.2 in
    let w = any_out (shown_by t a (suc k.0) v) t.rows h.1 in
    let i = split {a = joined t a (suc k.0) w.0} w.2 in
    let c = any_out (joined_by t a (suc k.0) w.0) t.rows i.0 in
    (suc k.0, c.0, w.0, joined_out t a (suc k.0) v w.0 c.0 k.0 k.1 refl w.1 c.1 h.0 i.1 c.2)

-- ---- laws: L3 by the two sets

module _ (t : Table) (scoped : Scoped t) where
  -- the widest of two operations' common domains
  pub shown_widest : (a v c w k : ℕ) → 1 ≤ k → k ≤ (t.row c).scope → k ≤ (t.row w).scope → c < t.rows → w < t.rows
      → ((d : ℕ) → k ≤ d → d ≤ DEVICE → share t (t.row a).agent d c ≡ true) → ((d : ℕ) → k ≤ d → d ≤ DEVICE → share t (t.row a).agent d w ≡ true)
      → ((d : ℕ) → k ≤ d → d ≤ DEVICE → share t (t.row a).agent d v ≡ true)
      → availability_chain t a c ≡ true → visibility_chain t w v ≡ true → visibility t (visibility_moment t w) ≡ true
      → happens t (availability_moment t c) (visibility_moment t w) ≡ true → shows t a v ≡ true
  unfolding shows shown_in shown_by joined joined_by widest
  shown_widest a v c w k low first_wide_lem second_wide first_there second_there with_c with_w with_v chain last visible earlier =
      go (dec_lt (t.row w).scope (t.row c).scope)
    where
      at : (d : ℕ) → 1 ≤ d → k ≤ d → d ≤ DEVICE
          → ((eqb (t.row c).scope d and leb d (t.row w).scope) or (ltb d (t.row c).scope and eqb (t.row w).scope d)) ≡ true
          → any_below DEVICE (shown_in t a v) ≡ true
      at zero low_d above most wide = absurd (omega arith)
      at (suc d) low_d above most wide =
          any_in (shown_in t a v) DEVICE d (omega arith)
          (and_true (with_v (suc d) above most)
          (any_in (shown_by t a (suc d) v) t.rows w second_there
          (and_true
          (any_in (joined_by t a (suc d) w) t.rows c first_there
          (and_true (and_true (and_true (and_true chain (with_c (suc d) above most)) (with_w (suc d) above most)) wide) (and_true visible earlier)))
          last)))

      go : Dec ((t.row w).scope < (t.row c).scope) → any_below DEVICE (shown_in t a v) ≡ true
      go (yes q) =
          at (t.row w).scope (omega arith) second_wide (scoped w second_there) (or_right _ (and_true (lt-ltb _ _ q) (eq-eqb (t.row w).scope _ refl)))
      go (no q) =
          at (t.row c).scope (omega arith) first_wide_lem (scoped c first_there)
          (or_left _ (and_true (eq-eqb (t.row c).scope _ refl) (le-leb (t.row c).scope (t.row w).scope (omega arith))))

  module _ (x y b : ℕ) where
    abbrev X : ℕ
    X = (t.row x).agent

    abbrev Y : ℕ
    Y = (t.row y).agent

    -- ---- laws: what the model finds, the sets have

    forth : any_below t.rows (available_via t x y b) ≡ true → carried t (meets t) (shows t) x y b ≡ true
    unfolding available_via ends_availability available_by by_domain in_domain carried carried_by meets_in leads meets_via begins_visibility visible_by seen_by share meets met_by
    forth e =
        let c = any_out (available_via t x y b) t.rows e in
        let f = split c.2 in
        let a = any_out (available_by t x b c.0) t.rows f.0 in
        let g = split a.2 in
        let k = any_out (by_domain t x y b c.0) DEVICE f.1 in
        let h = split k.2 in
        let i = split h.0 in
        let j = split i.1 in
        any_in (carried_by t (meets t) (shows t) x y b) t.rows a.0 a.1
        (and_true g.0
        (at a.0 c.0 (suc k.0) (omega arith) c.1 (first_agent t x b a.0 g.0) g.1 i.0 (leb-true _ _ j.0) j.1 h.1))
      where
        at : (a c d : ℕ) → 1 ≤ d → c < t.rows → X ≡ (t.row a).agent → availability_chain t a c ≡ true → shares t.places d X Y ≡ true → d ≤ (t.row c).scope
            → shares t.places d X (t.row c).agent ≡ true → meets_in t d y b c ≡ true → leads t (meets t) (shows t) a y b ≡ true
        at a c d low there agent chain sharing wide inside met = ⊎_elim reading writing (which (reads (t.row y)))
          where
            up : (e : ℕ) → d ≤ e → e ≤ DEVICE → (g : ℕ) → shares t.places d X g ≡ true → shares t.places e (t.row a).agent g ≡ true
            up e l m g s = subst (λ (z : ℕ). shares t.places e z g ≡ true) agent (shares_wider t.places d e X g low l m s)

            reading : reads (t.row y) ≡ true → cond (reads (t.row y)) (any_below t.rows (seen_by t (shows t) a y b)) (meets t a y) ≡ true
            reading r =
                let f : any_below t.rows (meets_via t d y b c) ≡ true = sym (cond_on _ _ _ r) ∙ met in
                let w = any_out (meets_via t d y b c) t.rows f in
                let g = split w.2 in
                let h = split g.0 in
                let i = split h.0 in
                let v = any_out (visible_by t y b w.0) t.rows g.1 in
                let j = split v.2 in
                let most : d ≤ DEVICE = omega (arith, scoped c there) in
                cond_on _ _ _ r ∙ (any_in (seen_by t (shows t) a y b) t.rows v.0 v.1
                (and_true j.0
                (shown_widest a v.0 c w.0 d low wide (leb-true _ _ i.0) there w.1
                (λ e l m. up e l m (t.row c).agent inside)
                (λ e l m. up e l m (t.row w.0).agent (shares_trans t.places d X Y (t.row w.0).agent low most sharing i.1))
                (λ e l m. subst (λ (z : ℕ). shares t.places e (t.row a).agent z ≡ true) (last_agent t y b v.0 j.0) (up e l m Y sharing))
                chain j.1 (chain_visible t w.0 v.0 (last_visible_lem t y b v.0 j.0) j.1) h.1)))

            writing : reads (t.row y) ≡ false → cond (reads (t.row y)) (any_below t.rows (seen_by t (shows t) a y b)) (meets t a y) ≡ true
            writing r =
                let f : happens t (availability_moment t c) (itself y) ≡ true = sym (cond_off _ _ _ r) ∙ met in
                cond_off _ _ _ r ∙ (any_in (met_by t a y) t.rows c there
                (and_true (and_true (and_true chain (up (t.row c).scope wide (scoped c there) (t.row c).agent inside))
                (up (t.row c).scope wide (scoped c there) Y sharing)) f))

    -- ---- laws: what the sets have, the model finds

    build : (d a c : ℕ) → 1 ≤ d → d ≤ DEVICE → a < t.rows → c < t.rows → first_available t x b a ≡ true → availability_chain t a c ≡ true
        → shares t.places d X Y ≡ true → d ≤ (t.row c).scope → shares t.places d X (t.row c).agent ≡ true → meets_in t d y b c ≡ true
        → any_below t.rows (available_via t x y b) ≡ true
    unfolding by_domain available_via ends_availability available_by in_domain
    build zero a c low most first_there there first chain sharing wide inside met = absurd (omega arith)
    build (suc d) a c low most first_there there first chain sharing wide inside met =
        any_in (available_via t x y b) t.rows c there
        (and_true (any_in (available_by t x b c) t.rows a first_there (and_true first chain))
        (any_in (by_domain t x y b c) DEVICE d (omega arith) (and_true (and_true sharing (and_true (le-leb _ _ wide) inside)) met)))

    shown_back : (d a c w v : ℕ) → a < t.rows → v < t.rows → first_available t x b a ≡ true → last_visible t y b v ≡ true → reads (t.row y) ≡ true
        → Shown t a v d c w → any_below t.rows (available_via t x y b) ≡ true
    unfolding share meets_in meets_via begins_visibility visible_by in_domain
    shown_back d a c w v there last_there first last r n =
        build d a c n.low n.high there n.first_there first n.chain xy n.first_wide_lem (down (t.row c).agent n.with_first)
        (cond_on _ _ _ r ∙ any_in (meets_via t d y b c) t.rows w n.second_there
        (and_true (and_true (and_true (le-leb _ _ n.second_wide) yw) n.earlier)
        (any_in (visible_by t y b w) t.rows v last_there (and_true last n.last))))
      where
        down : (g : ℕ) → shares t.places d (t.row a).agent g ≡ true → shares t.places d X g ≡ true
        down g s = subst (λ (z : ℕ). shares t.places d z g ≡ true) (sym (first_agent t x b a first)) s

        xy : shares t.places d X Y ≡ true
        xy = subst (λ (z : ℕ). shares t.places d X z ≡ true) (sym (last_agent t y b v last)) (down (t.row v).agent n.with_last)

        yw : shares t.places d Y (t.row w).agent ≡ true
        yw = shares_trans t.places d Y X _ n.low n.high (shares_swap t.places d X Y xy) (down (t.row w).agent n.with_second)

    back : carried t (meets t) (shows t) x y b ≡ true → any_below t.rows (available_via t x y b) ≡ true
    unfolding carried carried_by leads meets met_by share meets_in seen_by
    back e = at (any_out (carried_by t (meets t) (shows t) x y b) t.rows e)
      where
        at : (a : ℕ) × (a < t.rows) × (carried_by t (meets t) (shows t) x y b a ≡ true) → any_below t.rows (available_via t x y b) ≡ true
        at q = ⊎_elim reading writing (which (reads (t.row y)))
          where
            a : ℕ
            a = q.0

            first : first_available t x b a ≡ true
            first = (split q.2).0

            down : (d g : ℕ) → shares t.places d (t.row a).agent g ≡ true → shares t.places d X g ≡ true
            down d g s = subst (λ (z : ℕ). shares t.places d z g ≡ true) (sym (first_agent t x b a first)) s

            writing : reads (t.row y) ≡ false → any_below t.rows (available_via t x y b) ≡ true
            writing r =
                let f : meets t a y ≡ true = sym (cond_off _ _ _ r) ∙ (split q.2).1 in
                let c = any_out (met_by t a y) t.rows f in
                let g = split c.2 in
                let h = split g.0 in
                let i = split h.0 in
                build (t.row c.0).scope a c.0 (chain_scope t a c.0 (first_scope t x b a first) i.0) (scoped c.0 c.1) q.1 c.1 first
                i.0
                (down _ _ h.1) (omega arith) (down _ _ i.1) (cond_off _ _ _ r ∙ g.1)

            reading : reads (t.row y) ≡ true → any_below t.rows (available_via t x y b) ≡ true
            reading r =
                let f : any_below t.rows (seen_by t (shows t) a y b) ≡ true = sym (cond_on _ _ _ r) ∙ (split q.2).1 in
                let v = any_out (seen_by t (shows t) a y b) t.rows f in
                let g = split v.2 in
                let n = shows_out t a v.0 g.1 in
                shown_back n.0 a n.1 n.2 v.0 q.1 v.1 first g.0 r n.3

    -- L3, with chains or without
    pub third_is : L3 t x y b ≡ (public_write (t.row x) (t.row y) and carried t (meets t) (shows t) x y b)
    unfolding L3
    third_is = ap (λ (z : Bool). public_write (t.row x) (t.row y) and z) (bool_ext _ _ forth back)
