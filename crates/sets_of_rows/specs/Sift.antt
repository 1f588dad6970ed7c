-- The members of a set that pass a test, by a walk. Assumes nothing.
use Rattle.std.specs.Prelude.{◌≡◌, refl, Bool, true, ℕ, ◌+◌, ◌<◌, eqb, ltb}
use Rattle.std.proofs.Math.Path.{sym, ap}
use Rattle.std.proofs.Common.{ap₂, ◌∙◌, arith, lt-ltb, le-ltb}
use Rattle.std.proofs.Math.Bool.{false}
use Rattle.std.proofs.Math.Decide.{dec_lt, ℕ_discrete}
use Rattle.finite.specs.Logic.{◌and◌, ◌or◌, and_on, and_false_left, and_false_right}
use Rattle.finite.specs.Below.{any_below, turn, at_one}
use Rattle.model.specs.Limits.{ROWS}
use Rattle.sets_of_rows.specs.declared.Set.{Set}
use Rattle.sets_of_rows.specs.Member.{in_set, in_none}
use Rattle.sets_of_rows.specs.First.{First, first_next, Rest, next}
use Rattle.sets_of_rows.specs.Walk.{Walk, walk_begin, walk_turn, walk_end, walk_in}

-- r has the members of x below m that pass
pub record Sifted (x : Set) (p : ℕ → Bool) (r : Set) (m : ℕ) : Type 0 where
  pub is : (j : ℕ) → in_set r j ≡ (ltb j m and (in_set x j and p j))

and_swap : (a b : Bool) → (a and b) ≡ (b and a)
unfolding ◌and◌
and_swap true true = refl
and_swap true false = refl
and_swap false true = refl
and_swap false false = refl

module _ (x : Set) (p : ℕ → Bool) where
  skip : (r : Set) (m : ℕ) → in_set x m ≡ false → Sifted x p r m → Sifted x p r (m + 1)
  unfolding ◌or◌ ◌and◌
  skip r m e h = record { is = λ j. h.is j ∙ go j (ℕ_discrete j m) (dec_lt j m) }
    where
      go : (j : ℕ) → Dec (j ≡ m) → Dec (j < m) → (ltb j m and (in_set x j and p j)) ≡ (ltb j (m + 1) and (in_set x j and p j))
      go j (yes q) d =
          let z : (in_set x j and p j) ≡ false = and_false_left (in_set x j) (p j) (ap (in_set x) q ∙ e) in
          and_false_right (ltb j m) (in_set x j and p j) z ∙ sym (and_false_right (ltb j (m + 1)) (in_set x j and p j) z)
      go j (no q) (yes o) = ap (λ (b : Bool). b and (in_set x j and p j)) (lt-ltb j m o ∙ sym (lt-ltb j (m + 1) (omega arith)))
      go j (no q) (no o) = ap (λ (b : Bool). b and (in_set x j and p j)) (le-ltb j m (omega arith) ∙ sym (le-ltb j (m + 1) (omega arith)))

  pub sift_begin : (r : Set) → ((j : ℕ) → in_set r j ≡ false) → Walk x x × Sifted x p r (next x)
  sift_begin r e = walk_begin x (Sifted x p r) (skip r) (record { is = λ j. e j ∙ sym (and_false_left (ltb j 0) (in_set x j and p j) (le-ltb j 0 (omega arith))) })

  pub sift_turn : {r s left rest : Set} {i : ℕ} (b : Bool) → Walk x left × Sifted x p r (next left) → First left i → Rest left rest → b ≡ p i
      → ((j : ℕ) → in_set s j ≡ (in_set r j or (b and eqb j i))) → Walk x rest × Sifted x p s (next rest)
  sift_turn {r} {s} {left} {rest} {i} b inv low h e o = walk_turn x (Sifted x p s) (skip s) inv.0 low h (record { is = here })
    where
      one : (j : ℕ) → j ≡ i → b ≡ (in_set x j and p j)
      one j q = e ∙ ap p (sym q) ∙ sym (and_on (in_set x j) (p j) (ap (in_set x) q ∙ walk_in inv.0 low))

      here : (j : ℕ) → in_set s j ≡ (ltb j (i + 1) and (in_set x j and p j))
      here j =
          o j ∙ ap₂ ◌or◌ (inv.1.is j ∙ ap (λ (m : ℕ). ltb j m and (in_set x j and p j)) (first_next low))
          (and_swap b (eqb j i) ∙ at_one j i b (in_set x j and p j) (one j))
          ∙ turn j i (in_set x j and p j)

  pub sift_end : (r left : Set) → any_below ROWS (in_set left) ≡ false → Sifted x p r (next left) → (j : ℕ) → in_set r j ≡ (in_set x j and p j)
  sift_end r left e h j = (walk_end x (Sifted x p r) (skip r) left e h).is j ∙ go (dec_lt j ROWS)
    where
      go : Dec (j < ROWS) → (ltb j ROWS and (in_set x j and p j)) ≡ (in_set x j and p j)
      go (yes l) = and_on (ltb j ROWS) (in_set x j and p j) (lt-ltb j ROWS l)
      go (no l) =
          and_false_left (ltb j ROWS) (in_set x j and p j) (le-ltb j ROWS (omega arith))
          ∙ sym (and_false_left (in_set x j) (p j) (in_none x j (omega arith)))
