-- An operation's two sets with chains. Assumes nothing.
use Rattle.std.specs.Prelude.{◌≡◌, refl, false, List, ℕ, ◌+◌, ◌≤◌, ◌<◌, eqb, ltb}
use Rattle.std.proofs.Common.{sym, ap, subst, ◌∙◌, arith}
use Rattle.std.proofs.Math.Bool.{true}
use Rattle.std.proofs.Math.Logic.{⊎_elim}
use Rattle.std.proofs.Math.Decide.{ℕ_discrete}
use borrow.Author.Tests.{eqb-true, eq-eqb, ltb-true, lt-ltb}
use Rattle.finite.specs.Logic.{◌and◌, ◌or◌, bool_ext, split, and_true, or_cases, or_left, or_right, not_both}
use Rattle.finite.specs.Below.{any_below, any_in, any_out}
use Rattle.model.specs.Availability.{availability_chain}
use Rattle.model.specs.Table.{Table}
use Rattle.model_placing.specs.Chains.{available_on}
use Rattle.sets_of_rows.specs.declared.Set.{Set}
use Rattle.sets_of_rows.specs.Member.{in_set}
use Rattle.sets_of_rows.specs.Rows.{Rows, rows_cong, rows_none, rows_or}
use Rattle.sets_of_table.specs.Known.{Opened}
use Rattle.sets_grids.specs.Regions.{AVAILABLE_AVAILABLE, VISIBLE_VISIBLE}
use Rattle.sets_grids.specs.Grid.{GridOn}
use Rattle.sets_grids.specs.Given.{Given}
use Rattle.sets_grids.specs.Available.{makes, shown_to}
use Rattle.sets_chains.specs.Alone.{After}
use Rattle.sets_chains.specs.Chained.{sees, outs, ins}
use Rattle.sets_chains.specs.Wide.{wide_shown, wide_from, wide_shows}

-- ---- definitions

-- every operation's chains are known
pub record Chained (t : Table) (n : ℕ) (w : List ℕ) : Type 0 where
  pub outs : GridOn (makes t) AVAILABLE_AVAILABLE n (outs t) w
  pub ins : GridOn (sees t) VISIBLE_VISIBLE n (ins t) w

-- row a of n performs an availability operation
pub record Maker (t : Table) (n a : ℕ) : Type 0 where
  pub low : a < n
  pub makes : makes t a ≡ true

-- the availability chains from row a of n end at the members of z
pub record ChainOf (t : Table) (n a : ℕ) (z : Set) : Type 0 where
  pub low : a < n
  pub ends : Rows n (availability_chain t a) z

-- what comes after availability operations, and the visibility operations that chains from those end at
pub record Visibles (t : Table) (n : ℕ) (s w : List ℕ) : Type 0 where
  pub given : Given t n s w
  pub after : After t n w
  pub ins : GridOn (sees t) VISIBLE_VISIBLE n (ins t) w

-- ---- laws

-- the chains from a, itself alone or more
pub chain_rows : (t : Table) {n : ℕ} {x : Set} (b z : Set) (a : ℕ) → t.chains ≡ true → a < n → Rows n (outs t a) x → ((j : ℕ) → in_set b j ≡ eqb j a)
    → ((j : ℕ) → in_set z j ≡ (in_set x j or in_set b j)) → Rows n (availability_chain t a) z
unfolding outs
chain_rows t {n} {x} b z a on l h eb ez = record { is = λ j. bool_ext _ _ (forth j) (back j) }
  where
    forth : (j : ℕ) → in_set z j ≡ true → (ltb j n and availability_chain t a j) ≡ true
    forth j e =
        ⊎_elim (λ k. let p = split (sym (h.is j) ∙ k) in and_true p.0 (available_on t a j on ∙ or_right _ p.1))
        (λ k. let q = eqb-true j a (sym (eb j) ∙ k) in and_true (lt-ltb j n (omega arith)) (available_on t a j on ∙ or_left _ (eq-eqb a j (sym q))))
        (or_cases (in_set x j) (in_set b j) (sym (ez j) ∙ e))

    back : (j : ℕ) → (ltb j n and availability_chain t a j) ≡ true → in_set z j ≡ true
    back j e =
        let p = split e in
        ez j ∙ ⊎_elim (λ k. or_right _ (eb j ∙ eq-eqb j a (sym (eqb-true a j k)))) (λ k. or_left _ (h.is j ∙ and_true p.0 k))
        (or_cases _ _ (sym (available_on t a j on) ∙ p.1))

module _ (t : Table) (n a : ℕ) where
  pub wide_none : {x : Set} → ((j : ℕ) → in_set x j ≡ false) → Rows n (λ v. any_below 1 (wide_from t n a v)) x
  unfolding wide_from
  wide_none e =
      rows_cong (λ j l. bool_ext _ _ (λ f. not_both f refl)
      (λ f. let d = any_out (wide_from t n a j) 1 f in let b = d.1 in let z = ltb-true 0 d.0 (split d.2).0 in absurd (omega arith))) (rows_none e)

  pub wide_more : {x y z : Set} (q : ℕ) → 1 ≤ q → Rows n (λ v. any_below q (wide_from t n a v)) x → Rows n (wide_shown t n a q) y
      → ((j : ℕ) → in_set z j ≡ (in_set x j or in_set y j)) → Rows n (λ v. any_below (q + 1) (wide_from t n a v)) z
  unfolding wide_from
  wide_more q low f g e = rows_cong (λ j l. bool_ext _ _ (forth j) (back j)) (rows_or f g e)
    where
      forth : (j : ℕ) → (any_below q (wide_from t n a j) or wide_shown t n a q j) ≡ true → any_below (q + 1) (wide_from t n a j) ≡ true
      forth j h =
          ⊎_elim (λ k. let d = any_out (wide_from t n a j) q k in let b = d.1 in any_in (wide_from t n a j) (q + 1) d.0 (omega arith) d.2)
          (λ k. any_in (wide_from t n a j) (q + 1) q (omega arith) (and_true (lt-ltb 0 q (omega arith)) k)) (or_cases _ _ h)

      back : (j : ℕ) → any_below (q + 1) (wide_from t n a j) ≡ true → (any_below q (wide_from t n a j) or wide_shown t n a q j) ≡ true
      back j h = let d = any_out (wide_from t n a j) (q + 1) h in go d.0 d.1 d.2 (ℕ_discrete d.0 q)
        where
          go : (d : ℕ) → d < q + 1 → (ltb 0 d and wide_shown t n a d j) ≡ true → Dec (d ≡ q) → (any_below q (wide_from t n a j) or wide_shown t n a q j) ≡ true
          go d l p (yes u) = or_right _ (subst (λ (i : ℕ). wide_shown t n a i j ≡ true) u (split p).1)
          go d l p (no u) = or_left _ (any_in (wide_from t n a j) q d (omega arith) p)

  pub wide_all : {s : List ℕ} {x : Set} (q : ℕ) → Opened t n s → t.chains ≡ true → 5 ≤ q → q ≤ 5 → Rows n (λ v. any_below q (wide_from t n a v)) x → Rows n (shown_to t a) x
  wide_all q o on l m h = rows_cong (λ j k. ap (λ (i : ℕ). any_below i (wide_from t n a j)) (let e : q ≡ 5 = omega arith in e) ∙ wide_shows o on a j k) h
