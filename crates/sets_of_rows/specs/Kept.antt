-- Sets that stand in a list of words, two words to a set: what is read, what a store leaves. Assumes nothing.
use Rattle.std.specs.Prelude.{◌≡◌, refl, Bool, List, ℕ, ◌+◌, ◌-◌, ◌*◌, ◌/◌, ◌%◌, ◌^◌, ◌≤◌, ◌<◌, eqb, length, get_or, set}
use Rattle.std.proofs.Common.{sym, ap, ap₂, ◌∙◌, arith, length-set, get_or-set_same, get_or-set_other, eq-eqb, ne_eqb}
use Rattle.std.proofs.Math.Decide.{dec_lt, ℕ_discrete}
use Rattle.std.specs.Int.Bits.{bit_or}
use Rattle.finite.specs.Logic.{◌or◌, or_off, or_right}
use Rattle.model.specs.Limits.{ROWS}
use Rattle.bits.specs.Bit.{bit, bit_of, set_bit, set_bit_same, set_bit_other, one_shl}
use Rattle.bits.specs.Within.{Within, within_set_bit}
use Rattle.sets_of_rows.specs.declared.Set.{Set}
use Rattle.sets_of_rows.specs.Member.{in_set, of, in_low, in_high, in_none, or_is}

-- ---- definitions

-- the set at word `at`
unfoldable pub set_at : List ℕ → ℕ → Set
set_at w at = record { lo = get_or w at 0; hi = get_or w (at + 1) 0 }

-- the set at word `at` was made to have the members that p says; no word outside it changed
pub record Stored (at : ℕ) (p : ℕ → Bool) (w u : List ℕ) : Type 0 where
  pub is : (j : ℕ) → in_set (set_at u at) j ≡ p j
  pub frame : Within at (at + 2) w u

-- the members of the set at word `at` and those of s; and row i
unfoldable pub joined : List ℕ → ℕ → Set → ℕ → Bool
joined w at s j = in_set (set_at w at) j or in_set s j

unfoldable pub added : List ℕ → ℕ → ℕ → ℕ → Bool
added w at i j = in_set (set_at w at) j or eqb j i

-- ---- laws

-- a change elsewhere keeps a set
pub set_kept : {a b : ℕ} {w u : List ℕ} (at : ℕ) → (a < at + 2 → b ≤ at) → Within a b w u → set_at u at ≡ set_at w at
unfolding set_at
set_kept {a} {b} at off f =
    ap₂ of (f.out at (λ h. let g : b ≤ at = off (omega arith) in omega arith))
    (f.out (at + 1) (λ h. go h (dec_lt a (at + 2))))
  where
    go : a ≤ at + 1 → Dec (a < at + 2) → b ≤ at + 1
    go h (yes l) = let g : b ≤ at = off l in omega arith
    go h (no l) = absurd (omega arith)

-- members are bits of the words: what a grid of bits holds in row i is a set
pub set_bit_lem : (w : List ℕ) (at k j : ℕ) → j < ROWS → k ≡ at * 64 + j → in_set (set_at w at) j ≡ bit w k
unfolding set_at bit
set_bit_lem w at k j l e = go (dec_lt j 64)
  where
    go : Dec (j < 64) → in_set (of (get_or w at 0) (get_or w (at + 1) 0)) j ≡ bit_of (get_or w (k / 64) 0) (k % 64)
    go (yes m) =
        let d : k / 64 ≡ at = omega arith in
        let r : k % 64 ≡ j = omega arith in
        in_low (of (get_or w at 0) (get_or w (at + 1) 0)) j m ∙ sym (ap₂ (λ (x y : ℕ). bit_of (get_or w x 0) y) d r)
    go (no m) =
        let d : k / 64 ≡ at + 1 = omega arith in
        let r : k % 64 ≡ j - 64 = omega arith in
        let f : j ≡ 64 + (j - 64) = omega arith in
        ap (in_set (of (get_or w at 0) (get_or w (at + 1) 0))) f ∙ in_high (of (get_or w at 0) (get_or w (at + 1) 0)) (j - 64) (omega arith)
        ∙ sym (ap₂ (λ (x y : ℕ). bit_of (get_or w x 0) y) d r)

-- two stores
abbrev two : List ℕ → ℕ → ℕ → ℕ → List ℕ
two w at x y = set (set w at x) (at + 1) y

two_is : (w : List ℕ) (at x y : ℕ) → at + 2 ≤ length w → set_at (two w at x y) at ≡ of x y
unfolding set_at
two_is w at x y l =
    ap₂ of (get_or-set_other (set w at x) (at + 1) at y 0 (λ e. omega arith) ∙ get_or-set_same w at x 0 (omega arith))
    (get_or-set_same (set w at x) (at + 1) y 0 (let e : length (set w at x) ≡ length w = length-set w at x in omega arith))

two_within : (w : List ℕ) (at x y : ℕ) → Within at (at + 2) w (two w at x y)
two_within w at x y =
    record {
      len = length-set (set w at x) (at + 1) y ∙ length-set w at x;
      out = λ z h.
          get_or-set_other (set w at x) (at + 1) z y 0 (λ e. let g : at + 2 ≤ z = h (omega arith) in omega arith)
          ∙ get_or-set_other w at z x 0 (λ e. let g : at + 2 ≤ z = h (omega arith) in omega arith);
    }

pub put_is : (w : List ℕ) (at : ℕ) (s : Set) → at + 2 ≤ length w → Stored at (in_set s) w (set (set w at s.lo) (at + 1) s.hi)
put_is w at s l = record { is = λ j. ap (λ (x : Set). in_set x j) (two_is w at s.lo s.hi l); frame = two_within w at s.lo s.hi }

pub join_is : (w : List ℕ) (at : ℕ) (s : Set) → at + 2 ≤ length w
    → Stored at (joined w at s) w (set (set w at (bit_or (get_or w at 0) s.lo)) (at + 1) (bit_or (get_or (set w at (bit_or (get_or w at 0) s.lo)) (at + 1) 0) s.hi))
unfolding joined set_at
join_is w at s l =
    let e : get_or (set w at (bit_or (get_or w at 0) s.lo)) (at + 1) 0 ≡ get_or w (at + 1) 0 =
    get_or-set_other w at (at + 1) (bit_or (get_or w at 0) s.lo) 0 (λ e. omega arith)
    in
    rw e
    (record {
      is = λ j.
          ap (λ (x : Set). in_set x j) (two_is w at (bit_or (get_or w at 0) s.lo) (bit_or (get_or w (at + 1) 0) s.hi) l)
          ∙ or_is (of (get_or w at 0) (get_or w (at + 1) 0)) s j;
      frame = two_within w at (bit_or (get_or w at 0) s.lo) (bit_or (get_or w (at + 1) 0) s.hi);
    })

put_bit_set : (w u : List ℕ) (at k i : ℕ) → at + 2 ≤ length w → i < ROWS → k ≡ at * 64 + i → u ≡ set_bit w k → Stored at (added w at i) w u
unfolding added
put_bit_set w u at k i l m e f = rw f (record { is = λ j. is j (dec_lt j ROWS) (ℕ_discrete j i); frame = within_set_bit at (at + 2) w k (omega arith) (omega arith) })
  where
    is : (j : ℕ) → Dec (j < ROWS) → Dec (j ≡ i) → in_set (set_at (set_bit w k) at) j ≡ (in_set (set_at w at) j or eqb j i)
    is j (yes d) (yes q) =
        set_bit_lem (set_bit w k) at k j d (omega arith) ∙ set_bit_same w k (omega arith) ∙ sym (or_right (in_set (set_at w at) j) (eq-eqb j i q))
    is j (yes d) (no q) =
        set_bit_lem (set_bit w k) at (at * 64 + j) j d refl ∙ set_bit_other w k (at * 64 + j) (λ g. q (omega arith)) ∙ sym (set_bit_lem w at (at * 64 + j) j d refl)
        ∙ sym (or_off (in_set (set_at w at) j) (eqb j i) (ne_eqb j i q))
    is j (no d) (yes q) = absurd (omega arith)
    is j (no d) (no q) =
        in_none (set_at (set_bit w k) at) j (omega arith) ∙ sym (in_none (set_at w at) j (omega arith)) ∙ sym (or_off (in_set (set_at w at) j) (eqb j i) (ne_eqb j i q))

pub put_bit_is : (w : List ℕ) (at i : ℕ) → at + 2 ≤ length w → i < ROWS
    → Stored at (added w at i) w (set w (at + i / 64) (bit_or (get_or w (at + i / 64) 0) (1 * 2 ^ (i % 64) % 2 ^ 64)))
unfolding set_bit
put_bit_is w at i l m = put_bit_set w _ at (at * 64 + i) i l m refl same
  where
    same : set w (at + i / 64) (bit_or (get_or w (at + i / 64) 0) (1 * 2 ^ (i % 64) % 2 ^ 64)) ≡ set_bit w (at * 64 + i)
    same =
        let d : (at * 64 + i) / 64 ≡ at + i / 64 = omega arith in
        let r : (at * 64 + i) % 64 ≡ i % 64 = omega arith in
        ap (λ (x : ℕ). set w (at + i / 64) (bit_or (get_or w (at + i / 64) 0) x)) (one_shl (i % 64) (omega arith))
        ∙ sym (ap₂ (λ (x y : ℕ). set w x (bit_or (get_or w x 0) (2 ^ y))) d r)
