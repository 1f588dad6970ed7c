-- The sets of `Leads` without chains, and the chains' closure by scope: scopes rise along an availability chain and fall along a
-- visibility chain, so that four steps are enough. Of tables whose scopes are M2's.
use Rattle.std.specs.Prelude.{◌≡◌, Bool, false, ltb}
use Rattle.std.proofs.Math.Path.{refl, sym, ap}
use Rattle.std.proofs.Common.{◌∙◌, subst, inl, ⊎_elim, arith}
use Rattle.std.proofs.Math.Bool.{true}
use Prim.Native.Nat.{ℕ, ◌≤◌, ◌<◌}
use Rattle.std.proofs.Math.Decide.{dec_lt}
use Rattle.std.proofs.Math.Dec.{eqb}
use Rattle.finite.specs.Logic.{◌and◌, ◌or◌, split, and_true, or_cases, or_left, or_right, not_both, bool_ext, and_on}
use Rattle.finite.specs.Below.{any_below, any_in, any_out, any_cong}
use Rattle.finite.specs.Closure.{Reach, one, more, through, through_reach}
use Rattle.model.specs.Table.{Table}
use Rattle.model.specs.Scope.{shares}
use Rattle.model.specs.Moment.{itself, availability, visibility}
use Rattle.model.specs.Happens.{happens}
use Rattle.model.specs.Availability.{availability_moment, visibility_moment, broader, broadens, narrows, availability_chain, visibility_chain}
use Rattle.model_laws.specs.ChainLaws.{Scoped, shares_wider, shares_left, availability_chain_is, visibility_chain_is}
use Rattle.model_placing.specs.Shares.{share, hears, shares_sym}
use Rattle.model_placing.specs.Leads.{met_by, meets, shows, Shown, shows_out, shown_widest, broadens_scope, narrows_scope, visible_scope}

-- ---- definitions

-- one step and then any number
unfoldable pub then_on : (ℕ → ℕ → Bool) → ℕ → ℕ → ℕ → ℕ → Bool
then_on r n i j m = r i m and through r n m j

-- both ends of a step of a visibility chain are visibility operations: what an engine keeps of `narrows`
unfoldable pub narrows_in : Table → ℕ → ℕ → Bool
narrows_in t w v = narrows t w v and visibility t (visibility_moment t v)

-- AT[a] and VIS[a]: AT* and VIS* without chains, of an order h between moments
unfoldable pub meets_alone : Table → (ℕ → ℕ → Bool) → ℕ → ℕ → Bool
meets_alone t h a y = share t (t.row a).agent (t.row a).scope y and h (availability_moment t a) (itself y)

unfoldable pub shows_alone : Table → (ℕ → ℕ → Bool) → ℕ → ℕ → Bool
shows_alone t h a v =
    share t (t.row a).agent (t.row a).scope v and hears t (t.row a).agent v and h (availability_moment t a) (visibility_moment t v)

-- ---- laws: steps

module _ (r : ℕ → ℕ → Bool) (n : ℕ) where
  -- one turn by scope: a step, or a step and then what was found of a row of broader scope
  pub then_on_lem : (i j : ℕ) → through r n i j ≡ (r i j or any_below n (then_on r n i j))
  unfolding then_on
  then_on_lem i j = bool_ext _ _ forth back
    where
      go : Reach r n i j → (r i j or any_below n (λ m. r i m and through r n m j)) ≡ true
      go (one e) = or_left _ e
      go (more {m = m} e h q) =
          or_right (r i j) (any_in (λ m. r i m and through r n m j) n m h (and_true e ((through_reach r n m j).1 q)))

      forth : through r n i j ≡ true → (r i j or any_below n (λ m. r i m and through r n m j)) ≡ true
      forth e = go ((through_reach r n i j).0 e)

      back : (r i j or any_below n (λ m. r i m and through r n m j)) ≡ true → through r n i j ≡ true
      back e =
          (through_reach r n i j).1
          (⊎_elim (λ h. one h)
          (λ h. let m = any_out (λ m. r i m and through r n m j) n h in more (split m.2).0 m.1 ((through_reach r n m.0 j).0 (split m.2).1))
          (or_cases (r i j) _ e))

-- ---- laws: chains by scope

-- under a test
under : (a b c : Bool) → (a ≡ true → b ≡ c) → (a and b) ≡ (a and c)
unfolding ◌and◌
under true b c h = h refl
under false b c h = refl

module _ (t : Table) where
  -- a step of an availability chain as sets: after a's moment, of a broader scope, within a's reach
  pub broadens_is : (a c : ℕ)
      → broadens t a c
      ≡ (availability t (availability_moment t c) and (ltb (t.row a).scope (t.row c).scope and share t (t.row a).agent (t.row a).scope c)
      and happens t (availability_moment t a) (availability_moment t c))
  unfolding broadens broader share
  broadens_is a c = refl

  -- a step of a visibility chain: v is of a narrower scope that reaches w's agent
  pub narrows_is : (w v : ℕ)
      → narrows t w v
      ≡ (visibility t (visibility_moment t w) and (ltb (t.row v).scope (t.row w).scope and hears t (t.row w).agent v)
      and happens t (visibility_moment t w) (visibility_moment t v))
  unfolding narrows broader hears
  narrows_is w v = rw (shares_sym t.places (t.row v).scope (t.row v).agent (t.row w).agent) refl

  -- what ends with a visibility operation has them all along
  narrows_both : {w v : ℕ} → visibility t (visibility_moment t v) ≡ true → Reach (narrows t) t.rows w v → Reach (narrows_in t) t.rows w v
  unfolding narrows_in narrows
  narrows_both {w} {v} l (one e) = one (and_true e l)
  narrows_both {w} {v} l (more {m = m} e h q) = more (and_true e (starts q)) h (narrows_both l q)
    where
      starts : {i j : ℕ} → Reach (narrows t) t.rows i j → visibility t (visibility_moment t i) ≡ true
      starts (one e) = (split (split e).0).0
      starts (more e h q) = (split (split e).0).0

  narrows_less : {w v : ℕ} → Reach (narrows_in t) t.rows w v → Reach (narrows t) t.rows w v
  unfolding narrows_in
  narrows_less (one e) = one (split e).0
  narrows_less (more e h q) = more (split e).0 h (narrows_less q)

  pub narrows_in_lem : (w v : ℕ) → visibility t (visibility_moment t v) ≡ true → through (narrows_in t) t.rows w v ≡ through (narrows t) t.rows w v
  narrows_in_lem w v l =
      bool_ext _ _ (λ e. (through_reach (narrows t) t.rows w v).1 (narrows_less ((through_reach (narrows_in t) t.rows w v).0 e)))
      (λ e. (through_reach (narrows_in t) t.rows w v).1 (narrows_both l ((through_reach (narrows t) t.rows w v).0 e)))

  -- with chains, those of one element and of more
  pub available_on : (a c : ℕ) → t.chains ≡ true → availability_chain t a c ≡ (eqb a c or through (broadens t) t.rows a c)
  unfolding availability_chain
  available_on a c on = ap (λ (z : Bool). eqb a c or z) (and_on _ _ on)

  -- of those that end with a visibility operation
  pub visible_on : (w v : ℕ) → t.chains ≡ true → visibility t (visibility_moment t v) ≡ true → visibility_chain t w v ≡ (eqb w v or through (narrows_in t) t.rows w v)
  unfolding visibility_chain
  visible_on w v on l = ap (λ (z : Bool). eqb w v or z) (and_on _ _ on ∙ sym (narrows_in_lem w v l))

  -- one turn by scope: a row of scope d needs the rows of broader scopes alone, whose turn it was; in a visibility chain those of
  -- narrower scopes
  pub available_turn : (g : ℕ → ℕ → Bool) (a c : ℕ)
      → ((m : ℕ) → m < t.rows → (t.row a).scope < (t.row m).scope → g m c ≡ through (broadens t) t.rows m c)
      → through (broadens t) t.rows a c ≡ (broadens t a c or any_below t.rows (λ m. broadens t a m and g m c))
  unfolding then_on
  available_turn g a c h =
      then_on_lem (broadens t) t.rows a c
      ∙ ap (λ (z : Bool). broadens t a c or z)
      (any_cong (λ m. broadens t a m and through (broadens t) t.rows m c) (λ m. broadens t a m and g m c) t.rows
      (λ m l. under (broadens t a m) _ _ (λ e. sym (h m l (broadens_scope t a m e)))))

  pub visible_turn : (g : ℕ → ℕ → Bool) (w v : ℕ)
      → ((m : ℕ) → m < t.rows → (t.row m).scope < (t.row w).scope → g m v ≡ through (narrows_in t) t.rows m v)
      → through (narrows_in t) t.rows w v ≡ (narrows_in t w v or any_below t.rows (λ m. narrows_in t w m and g m v))
  unfolding then_on narrows_in
  visible_turn g w v h =
      then_on_lem (narrows_in t) t.rows w v
      ∙ ap (λ (z : Bool). narrows_in t w v or z)
      (any_cong (λ m. narrows_in t w m and through (narrows_in t) t.rows m v) (λ m. narrows_in t w m and g m v) t.rows
      (λ m l. under (narrows_in t w m) _ _ (λ e. sym (h m l (narrows_scope t w m (split e).0)))))

  module _ (scoped : Scoped t) where
    -- ---- laws: without chains

    module _ (off : t.chains ≡ false) where
      one_available : (a c : ℕ) → availability_chain t a c ≡ true → a ≡ c
      one_available a c e = ⊎_elim (λ h. h) (λ h. not_both h.0 off) ((availability_chain_is t a c).0 e)

      one_visible : (w v : ℕ) → visibility_chain t w v ≡ true → w ≡ v
      one_visible w v e = ⊎_elim (λ h. h) (λ h. not_both h.0 off) ((visibility_chain_is t w v).0 e)

      pub meets_alone_lem : (a y : ℕ) → a < t.rows → 1 ≤ (t.row a).scope → meets t a y ≡ meets_alone t (happens t) a y
      unfolding meets met_by meets_alone share
      meets_alone_lem a y there low = bool_ext _ _ forth back
        where
          forth : any_below t.rows (met_by t a y) ≡ true
              → (shares t.places (t.row a).scope (t.row a).agent (t.row y).agent and happens t (availability_moment t a) (itself y)) ≡ true
          forth e =
              let c = any_out (met_by t a y) t.rows e in
              let g = split c.2 in
              let h = split g.0 in
              let q = sym (one_available a c.0 (split h.0).0) in
              and_true (subst (λ (i : ℕ). shares t.places (t.row i).scope (t.row a).agent (t.row y).agent ≡ true) q h.1)
              (subst (λ (i : ℕ). happens t (availability_moment t i) (itself y) ≡ true) q g.1)

          back : (shares t.places (t.row a).scope (t.row a).agent (t.row y).agent and happens t (availability_moment t a) (itself y)) ≡ true
              → any_below t.rows (met_by t a y) ≡ true
          back e =
              let h = split e in
              any_in (met_by t a y) t.rows a there
              (and_true (and_true (and_true ((availability_chain_is t a a).1 (inl refl))
              (shares_left t.places (t.row a).scope (t.row a).agent (t.row y).agent low (scoped a there) h.0)) h.0) h.1)

      pub shows_alone_lem : (a v : ℕ) → a < t.rows → v < t.rows → 1 ≤ (t.row a).scope → visibility t (visibility_moment t v) ≡ true
          → shows t a v ≡ shows_alone t (happens t) a v
      unfolding shows_alone share hears
      shows_alone_lem a v there last_there low visible = bool_ext _ _ (λ e. let n = shows_out t a v e in forth n.0 n.1 n.2 n.3) back
        where
          A : ℕ
          A = (t.row a).agent

          E : ℕ
          E = (t.row v).agent

          forth : (d c w : ℕ) → Shown t a v d c w
              → (shares t.places (t.row a).scope A E and shares t.places (t.row v).scope A E and happens t (availability_moment t a) (visibility_moment t v)) ≡ true
          forth d c w n =
              let p = sym (one_available a c n.chain) in
              let q = one_visible w v n.last in
              let first_wide_lem : d ≤ (t.row a).scope = subst (λ (i : ℕ). d ≤ (t.row i).scope) p n.first_wide_lem in
              let second_wide : d ≤ (t.row v).scope = subst (λ (i : ℕ). d ≤ (t.row i).scope) q n.second_wide in
              and_true (and_true
              (shares_wider t.places d (t.row a).scope A E n.low first_wide_lem (scoped a there) n.with_last)
              (shares_wider t.places d (t.row v).scope A E n.low second_wide (scoped v last_there) n.with_last))
              (subst (λ (i : ℕ). happens t (availability_moment t a) (visibility_moment t i) ≡ true) q
              (subst (λ (i : ℕ). happens t (availability_moment t i) (visibility_moment t w) ≡ true) p n.earlier))

          by : (k : ℕ) → 1 ≤ k → k ≤ (t.row a).scope → k ≤ (t.row v).scope → shares t.places k A E ≡ true
              → happens t (availability_moment t a) (visibility_moment t v) ≡ true → shows t a v ≡ true
          by k one_k first second sharing earlier =
              shown_widest t scoped a v a v k one_k first second there last_there
              (λ d l m. shares_left t.places d A E (omega arith) m (shares_wider t.places k d A E one_k l m sharing))
              (λ d l m. shares_wider t.places k d A E one_k l m sharing)
              (λ d l m. shares_wider t.places k d A E one_k l m sharing)
              ((availability_chain_is t a a).1 (inl refl)) ((visibility_chain_is t v v).1 (inl refl)) visible earlier

          back : (shares t.places (t.row a).scope A E and shares t.places (t.row v).scope A E and happens t (availability_moment t a) (visibility_moment t v)) ≡ true
              → shows t a v ≡ true
          back e = go (dec_lt (t.row v).scope (t.row a).scope)
            where
              go : Dec ((t.row v).scope < (t.row a).scope) → shows t a v ≡ true
              go (yes q) = by (t.row v).scope (visible_scope t v visible) (omega arith) (omega arith) (split (split e).0).1 (split e).1
              go (no q) = by (t.row a).scope low (omega arith) (omega arith) (split (split e).0).0 (split e).1
