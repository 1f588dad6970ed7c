-- What two agents share, from the numbers of their places one after the other: those that a scope doesn't go by are not asked.
-- Assumes nothing.
use Rattle.std.specs.Prelude.{◌≡◌, ℕ, ◌<◌, Bool, true, false, not, List, ◌==◌, ◌≢◌, nat_eq, slice_index, slice_index_or}
use Rattle.std.proofs.Math.Path.{refl, sym}
use Rattle.std.proofs.Common.{◌∙◌, true≢false, arith}
use borrow.Author.Tests.{ne_eqb, eq-eqb}
use Rattle.finite.specs.Logic.{◌and◌, ◌or◌, and_false_left, and_false_right, or_none}
use Rattle.model.specs.Scope.{SHADER, INVOCATION, SUBGROUP, WORKGROUP, FAMILY, DEVICE, agent_kind, shader, agree, one_instance, shares}
use Rattle.door_rows.specs.Places.{IsPlace}

-- ---- laws

rest_is : (w g sub same : Bool) → (false or (false and true) or (w and true and true) or (g and true and true and sub) or (false and same)) ≡ (w or (g and sub))
unfolding ◌and◌ ◌or◌
rest_is true g sub same = refl
rest_is false true true same = refl
rest_is false true false same = refl
rest_is false false sub same = refl

alien : (u v w : Bool) → (not v or not u) ≡ true → false ≡ (u and v and w)
unfolding ◌and◌ ◌or◌
alien true true w h = absurd (true≢false (sym h))
alien true false w h = refl
alien false v w h = refl

both : (u v w : Bool) → (not v or not u) ≡ false → (u and v and w) ≡ w
unfolding ◌and◌ ◌or◌
both true true w h = refl
both true false w h = absurd (true≢false h)
both false true w h = absurd (true≢false h)
both false false w h = absurd (true≢false h)

module _ (p : List (List ℕ)) (s a b : ℕ) (x y : List ℕ) (e : IsPlace p a x) (f : IsPlace p b y) where
  agree_is : (k : ℕ) → k < 4 → agree p k a b ≡ (slice_index x k == slice_index y k)
  unfolding agree IsPlace
  agree_is k l = rw (e k l, f k l) refl

  -- one of them is no shader agent
  pub shares_alien : (not (slice_index y 3 == SHADER) or not (slice_index x 3 == SHADER)) ≡ true → false ≡ shares p s a b
  unfolding shares shader agent_kind IsPlace
  shares_alien h = rw (← e 3 (omega arith), ← f 3 (omega arith)) (alien (slice_index x 3 == SHADER) (slice_index y 3 == SHADER) _ h)

  -- both are
  module _ (h : (not (slice_index y 3 == SHADER) or not (slice_index x 3 == SHADER)) ≡ false) where
    shares_is : shares p s a b ≡ one_instance p s a b
    unfolding shares shader agent_kind IsPlace
    shares_is = rw (← e 3 (omega arith), ← f 3 (omega arith)) (both (slice_index x 3 == SHADER) (slice_index y 3 == SHADER) _ h)

    pub shares_device : s ≡ DEVICE → true ≡ shares p s a b
    unfolding one_instance ◌or◌
    shares_device d = sym (shares_is ∙ rw d refl)

    pub shares_invocation : s ≡ INVOCATION → (a == b) ≡ shares p s a b
    unfolding one_instance ◌or◌ ◌and◌
    shares_invocation d = sym (shares_is ∙ rw d refl)

    module _ (d : s ≡ DEVICE → ⊥) (i : s ≡ INVOCATION → ⊥) where
      pub shares_apart : (slice_index x 0 ≢ slice_index y 0) → false ≡ shares p s a b
      unfolding one_instance
      shares_apart z =
          let g = agree_is 0 (omega arith) ∙ ne_eqb _ _ z in
          sym (shares_is ∙ or_none (or_none (or_none (or_none (ne_eqb s DEVICE d) (and_false_right _ _ g)) (and_false_left _ _ (and_false_right _ _ g)))
          (and_false_left _ _ (and_false_left _ _ (and_false_right _ _ g)))) (and_false_left _ _ (ne_eqb s INVOCATION i)))

      pub shares_family : slice_index_or x 0 0 ≡ slice_index y 0 → s ≡ FAMILY → true ≡ shares p s a b
      unfolding one_instance ◌or◌ ◌and◌
      shares_family z q = let g = agree_is 0 (omega arith) ∙ eq-eqb _ _ z in sym (shares_is ∙ rw (q, g) refl)

      module _ (q : s ≡ FAMILY → ⊥) where
        pub shares_parted : (slice_index x 1 ≢ slice_index y 1) → false ≡ shares p s a b
        unfolding one_instance
        shares_parted z =
            let g = agree_is 1 (omega arith) ∙ ne_eqb _ _ z in
            sym (shares_is ∙ or_none (or_none (or_none (or_none (ne_eqb s DEVICE d) (and_false_left _ _ (ne_eqb s FAMILY q))) (and_false_right _ _ g))
            (and_false_left _ _ (and_false_right _ _ g))) (and_false_left _ _ (ne_eqb s INVOCATION i)))

        pub shares_rest : slice_index_or x 0 0 ≡ slice_index y 0 → slice_index x 1 ≡ slice_index y 1
            → (nat_eq s WORKGROUP or (nat_eq s SUBGROUP and nat_eq (slice_index x 2) (slice_index y 2))) ≡ shares p s a b
        unfolding one_instance
        shares_rest z o =
            let g = agree_is 0 (omega arith) ∙ eq-eqb _ _ z in
            let m = agree_is 1 (omega arith) ∙ eq-eqb _ _ o in
            sym (shares_is ∙ rw (ne_eqb s DEVICE d, ne_eqb s FAMILY q, ne_eqb s INVOCATION i, g, m, agree_is 2 (omega arith)) (rest_is _ _ _ _))
