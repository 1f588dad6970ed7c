-- Common domains by sets of rows: SHARE, the rows whose agents share a scope with an agent, and HEARS, the rows whose own scope
-- reaches an agent. Assumes nothing.
use Rattle.std.specs.Prelude.{◌≡◌, Bool, List, [], ℕ, zero, suc, ◌≤◌, get_or}
use Rattle.std.proofs.Math.Path.{refl}
use Rattle.std.proofs.Common.{sym, ◌∙◌, arith}
use Rattle.std.proofs.Math.Bool.{true, false}
use borrow.Author.Tests.{eqb-true, eq-eqb}
use Rattle.finite.specs.Logic.{◌and◌, ◌or◌, split, and_true, or_left, bool_ext}
use Rattle.model.specs.Table.{Table}
use Rattle.model.specs.Scope.{DEVICE, agree, one_instance, shares}
use Rattle.model_laws.specs.PairLaws.{eqb_swap}

-- ---- definitions

-- SHARE[g][d]: the rows whose agent shares the scope d with the agent g
unfoldable pub share : Table → ℕ → ℕ → ℕ → Bool
share t g d i = shares t.places d g (t.row i).agent

-- HEARS[g]: the rows whose own scope reaches the agent g
unfoldable pub hears : Table → ℕ → ℕ → Bool
hears t g i = shares t.places (t.row i).scope g (t.row i).agent

-- ---- laws: sharing a scope

module _ (p : List (List ℕ)) where
  agree_swap : (k a b : ℕ) → agree p k a b ≡ agree p k b a
  unfolding agree
  agree_swap k a b = eqb_swap (get_or (get_or p a []) k 0) (get_or (get_or p b []) k 0)

  instance_swap : (d a b : ℕ) → one_instance p d a b ≡ one_instance p d b a
  unfolding one_instance
  instance_swap d a b = rw (agree_swap 0 a b, agree_swap 1 a b, agree_swap 2 a b, eqb_swap a b) refl

  pub shares_swap : (d a b : ℕ) → shares p d a b ≡ true → shares p d b a ≡ true
  unfolding shares
  shares_swap d a b h = and_true (and_true (split (split h).0).1 (split (split h).0).0) (sym (instance_swap d a b) ∙ (split h).1)

  pub shares_sym : (d a b : ℕ) → shares p d a b ≡ shares p d b a
  shares_sym d a b = bool_ext _ _ (shares_swap d a b) (shares_swap d b a)

  agree_trans : (k a b c : ℕ) → agree p k a b ≡ true → agree p k b c ≡ true → agree p k a c ≡ true
  unfolding agree
  agree_trans k a b c e f =
      eq-eqb (get_or (get_or p a []) k 0) (get_or (get_or p c []) k 0)
      (eqb-true (get_or (get_or p a []) k 0) (get_or (get_or p b []) k 0) e ∙ eqb-true (get_or (get_or p b []) k 0) (get_or (get_or p c []) k 0) f)

  at_1 : (a b : ℕ) → one_instance p 1 a b ≡ (agree p 0 a b and agree p 1 a b and agree p 2 a b or false)
  unfolding one_instance ◌and◌ ◌or◌
  at_1 a b = refl

  at_2 : (a b : ℕ) → one_instance p 2 a b ≡ (agree p 0 a b and agree p 1 a b or false or false)
  unfolding one_instance ◌and◌ ◌or◌
  at_2 a b = refl

  at_3 : (a b : ℕ) → one_instance p 3 a b ≡ (agree p 0 a b or false or false or false)
  unfolding one_instance ◌and◌ ◌or◌
  at_3 a b = refl

  at_4 : (a b : ℕ) → one_instance p 4 a b ≡ true
  unfolding one_instance ◌and◌ ◌or◌
  at_4 a b = refl

  out : (x : Bool) → (x or false) ≡ true → x ≡ true
  unfolding ◌or◌
  out true e = refl
  out false e = e

  instance_trans : (d a b c : ℕ) → 1 ≤ d → d ≤ DEVICE → one_instance p d a b ≡ true → one_instance p d b c ≡ true → one_instance p d a c ≡ true
  instance_trans zero a b c l m e f = absurd (omega arith)
  instance_trans (suc zero) a b c l m e f =
      let g = split (out _ (sym (at_1 a b) ∙ e)) in
      let h = split (out _ (sym (at_1 b c) ∙ f)) in
      at_1 a c ∙ or_left _
      (and_true (and_true (agree_trans 0 a b c (split g.0).0 (split h.0).0) (agree_trans 1 a b c (split g.0).1 (split h.0).1))
      (agree_trans 2 a b c g.1 h.1))
  instance_trans (suc (suc zero)) a b c l m e f =
      let g = split (out _ (out _ (sym (at_2 a b) ∙ e))) in
      let h = split (out _ (out _ (sym (at_2 b c) ∙ f))) in
      at_2 a c ∙ or_left _ (or_left _ (and_true (agree_trans 0 a b c g.0 h.0) (agree_trans 1 a b c g.1 h.1)))
  instance_trans (suc (suc (suc zero))) a b c l m e f =
      let g = out _ (out _ (out _ (sym (at_3 a b) ∙ e))) in
      let h = out _ (out _ (out _ (sym (at_3 b c) ∙ f))) in
      at_3 a c ∙ or_left _ (or_left _ (or_left _ (agree_trans 0 a b c g h)))
  instance_trans (suc (suc (suc (suc zero)))) a b c l m e f = at_4 a c
  instance_trans (suc (suc (suc (suc (suc d))))) a b c l m e f = absurd (omega arith)

  pub shares_trans : (d a b c : ℕ) → 1 ≤ d → d ≤ DEVICE → shares p d a b ≡ true → shares p d b c ≡ true → shares p d a c ≡ true
  unfolding shares
  shares_trans d a b c l m e f =
      and_true (and_true (split (split e).0).0 (split (split f).0).1) (instance_trans d a b c l m (split e).1 (split f).1)
