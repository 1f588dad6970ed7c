-- M5 by the kinds of its two rows: which of its cases is left. Assumes nothing.
use Rattle.std.specs.Prelude.{◌≡◌, Bool, true, false, not, List, ℕ, ◌≤◌, eqb}
use Rattle.std.proofs.Math.Path.{refl}
use Rattle.std.proofs.Common.{sym, ap, ap₂, ◌∙◌, arith, leb-true, ne_eqb}
use Rattle.std.proofs.lemmas.Bool.{not-false}
use Rattle.finite.specs.Logic.{◌and◌, ◌or◌, not_both, not_so, or_none, split, and_on}
use Rattle.finite.specs.Below.{any_below}
use Rattle.model.specs.declared.Row.{Row}
use Rattle.model.specs.Row.{BARRIER, CONTROL, RMW, atomic, barrier, releases, acquires}
use Rattle.model.specs.Table.{Mode, decode, row_of}
use Rattle.model.specs.Scope.{together}
use Rattle.model.specs.Synchronizes.{takes_from, carries_out, carries_in, carries_over, passes, sync_atomics, sync_from_barrier, sync_to_barrier, sync_barriers}
use Rattle.model.specs.Synchronizes.{sync_control, synchronizes}

-- ---- laws: of the tests alone

-- two tests that were read
pub both : {x y u v e : Bool} → u ≡ x → v ≡ y → (u and v) ≡ e → (x and y) ≡ e
both p q h = rw (← p, ← q) h

module _ (x y u v near e t o i w k : Bool) where
  -- x, y: the rows are atomic; u, v: they are barriers
  abbrev some : Bool
  some =
      (x and y and t) or (u and y and near and o) or (x and v and near and i) or (not e and u and v and near and w)
      or (not e and u and v and near and k)

  some_last : (x and y) ≡ false → (u and y) ≡ false → (x and v) ≡ false → ((not e and u and v and near and w) or (not e and u and v and near and k)) ≡ some
  unfolding ◌and◌ ◌or◌
  some_last f g h = rw (f, g, h) refl

some_atomics : (near e t o i w k : Bool) → t ≡ some true true false false near e t o i w k
unfolding ◌and◌ ◌or◌
some_atomics near e true o i w k = refl
some_atomics near true false o i w k = refl
some_atomics near false false o i w k = refl

some_from : (near e t o i w k : Bool) → (near and o) ≡ some false true true false near e t o i w k
unfolding ◌and◌ ◌or◌
some_from true e t true i w k = refl
some_from true true t false i w k = refl
some_from true false t false i w k = refl
some_from false true t o i w k = refl
some_from false false t o i w k = refl

some_to : (near e t o i w k : Bool) → (near and i) ≡ some true false false true near e t o i w k
unfolding ◌and◌ ◌or◌
some_to true e t o true w k = refl
some_to true true t o false w k = refl
some_to true false t o false w k = refl
some_to false true t o i w k = refl
some_to false false t o i w k = refl

-- ---- laws: of rows

-- an atomic is no barrier
lone : (r : Row) → atomic r ≡ true → barrier r ≡ false
unfolding atomic barrier
lone r e = let l : r.kind ≤ RMW = leb-true r.kind RMW (split e).1 in
    or_none (ne_eqb r.kind BARRIER (λ h. omega arith)) (ne_eqb r.kind CONTROL (λ h. omega arith))

-- the tests of two rows that were read, b's rows a and c
module _ (b : List ℕ) (p : List (List ℕ)) (mode : Mode) (n a c : ℕ) (r q : Row) (first_is : r ≡ row_of b a) (second_is : q ≡ row_of b c)
    (g h x y u v near : Bool) (release_is : g ≡ releases r) (acquire_is : h ≡ acquires q) (atomic_r : x ≡ atomic r) (atomic_q : y ≡ atomic q)
    (barrier_r : u ≡ barrier r) (barrier_q : v ≡ barrier q) (near_is : near ≡ together p r q) (both_on : not (g and h) ≡ false) where
  abbrev t : Bool
  t = takes_from (decode b p mode n) a c

  abbrev o : Bool
  o = any_below n (carries_out (decode b p mode n) a c)

  abbrev i : Bool
  i = any_below n (carries_in (decode b p mode n) a c)

  abbrev w : Bool
  w = any_below n (carries_over (decode b p mode n) a c)

  abbrev k : Bool
  k = any_below n (passes (decode b p mode n) a c)

  -- a release and an acquire: one of the five cases
  cases : some x y u v near (eqb a c) t o i w k ≡ synchronizes (decode b p mode n) a c
  unfolding synchronizes sync_atomics sync_from_barrier sync_to_barrier sync_barriers sync_control decode
  cases =
      rw (← first_is, ← second_is, ← release_is, ← acquire_is, ← atomic_r, ← atomic_q, ← barrier_r, ← barrier_q, ← near_is)
      (sym (and_on (g and h) _ (not-false (g and h) both_on)))

  no_barrier_r : x ≡ true → u ≡ false
  no_barrier_r e = barrier_r ∙ lone r (sym atomic_r ∙ e)

  no_barrier_q : y ≡ true → v ≡ false
  no_barrier_q e = barrier_q ∙ lone q (sym atomic_q ∙ e)

  no_atomic_r : u ≡ true → x ≡ false
  no_atomic_r e = not_so x (λ k. not_both e (no_barrier_r k))

  no_atomic_q : v ≡ true → y ≡ false
  no_atomic_q e = not_so y (λ k. not_both e (no_barrier_q k))

  pub sync_atomics_lem : (d : Bool) → (x and y) ≡ true → d ≡ t → d ≡ synchronizes (decode b p mode n) a c
  sync_atomics_lem d g₁ e =
      let z = split g₁ in
      let m : t ≡ some x y u v near (eqb a c) t o i w k = rw (z.0, z.1, no_barrier_r z.0, no_barrier_q z.1) (some_atomics near (eqb a c) t o i w k) in
      e ∙ m ∙ cases

  pub sync_from : (d : Bool) → (u and y) ≡ true → d ≡ o → (near and d) ≡ synchronizes (decode b p mode n) a c
  sync_from d g₁ e =
      let z = split g₁ in
      let m : (near and o) ≡ some x y u v near (eqb a c) t o i w k = rw (z.0, z.1, no_atomic_r z.0, no_barrier_q z.1)
      (some_from near (eqb a c) t o i w k) in
      ap (λ (s : Bool). near and s) e ∙ m ∙ cases

  pub sync_to : (d : Bool) → (x and v) ≡ true → d ≡ i → (near and d) ≡ synchronizes (decode b p mode n) a c
  sync_to d g₁ e =
      let z = split g₁ in
      let m : (near and i) ≡ some x y u v near (eqb a c) t o i w k = rw (z.0, z.1, no_barrier_r z.0, no_atomic_q z.1)
      (some_to near (eqb a c) t o i w k) in
      ap (λ (s : Bool). near and s) e ∙ m ∙ cases

  pub sync_over : (d z : Bool) → (x and y) ≡ false → (u and y) ≡ false → (x and v) ≡ false → d ≡ w → z ≡ k
      → ((not (eqb a c) and u and v and near and d) or (not (eqb a c) and u and v and near and z)) ≡ synchronizes (decode b p mode n) a c
  sync_over d z no_atomics not_from not_to over_is passes_is =
      ap₂ (λ (s m : Bool). (not (eqb a c) and u and v and near and s) or (not (eqb a c) and u and v and near and m)) over_is passes_is
      ∙ some_last x y u v near (eqb a c) t o i w k no_atomics not_from not_to ∙ cases
