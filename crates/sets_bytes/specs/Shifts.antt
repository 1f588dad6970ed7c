-- Bits of numbers that are moved, cut and put together, on plain numbers. Assumes nothing.
use Rattle.std.specs.Prelude.{◌≡◌, Bool, true, ℕ, ◌+◌, ◌-◌, ◌*◌, ◌/◌, ◌%◌, ◌^◌, ◌≤◌, ◌<◌, max, min, length, get_or, set, leb, ltb}
use Rattle.std.proofs.Math.Path.{refl, ap}
use Rattle.std.proofs.Common.{sym, ◌∙◌, mul_comm, mul-one, pow-add, length-set, get_or-set_same, get_or-set_other, le-leb, le-ltb, lt-ltb, leb-true, ltb-true}
use Rattle.std.proofs.Math.Bool.{false}
use mathlib.Core.List.{List}
use native.Mathlib.Omega.{arith}
use Rattle.std.proofs.Math.Decide.{dec_lt, ℕ_discrete}
use Rattle.std.proofs.Math.Nat.{div-div-eq-div-mul, mul-sub, one-le-pow, pow-le-pow_right}
use Rattle.std.specs.Int.Bits.{bit_or}
use Rattle.std.proofs.lemmas.Bool.{lt-leb}
use Rattle.finite.specs.Logic.{◌and◌, ◌or◌, and_on, and_false_left, and_false_right, bool_ext, split, and_true}
use Rattle.model.specs.Row.{inside}
use Rattle.bits.specs.Bit.{bit, bit_of, bit_of_or}
use Rattle.bits.specs.Within.{Within}
use Rattle.sets_of_rows.specs.Word.{bit_of_cut, bit_of_shl_low, bit_of_shl_high, bit_of_ones, bit_of_small}

-- ---- from bit l up to bit h

between_is : (l d : ℕ) → 2 ^ (l + d) - 2 ^ l ≡ (2 ^ d - 1) * 2 ^ l
between_is l d =
    let e : 2 ^ (l + d) ≡ 2 ^ l * 2 ^ d = pow-add 2 l d in
    let f : 2 ^ l * (2 ^ d - 1) ≡ 2 ^ l * 2 ^ d - 2 ^ l * 1 = mul-sub (2 ^ l) (2 ^ d) 1 in
    let g : 2 ^ l * 1 ≡ 2 ^ l = mul-one (2 ^ l) in
    rw (e, mul_comm (2 ^ d - 1) (2 ^ l), f, g) refl

ones_at : (l d k : ℕ) → bit_of ((2 ^ d - 1) * 2 ^ l) k ≡ (leb l k and ltb k (l + d))
ones_at l d k = go (dec_lt k l)
  where
    go : Dec (k < l) → bit_of ((2 ^ d - 1) * 2 ^ l) k ≡ (leb l k and ltb k (l + d))
    go (yes m) = bit_of_shl_low (2 ^ d - 1) l k m ∙ sym (and_false_left (leb l k) (ltb k (l + d)) (lt-leb l k m))
    go (no m) =
        let e : l + (k - l) ≡ k = omega arith in
        ap (bit_of ((2 ^ d - 1) * 2 ^ l)) (sym e) ∙ bit_of_shl_high (2 ^ d - 1) l (k - l) ∙ bit_of_ones d (k - l) ∙ same (dec_lt k (l + d))
        ∙ sym (and_on (leb l k) (ltb k (l + d)) (le-leb l k (omega arith)))
      where
        same : Dec (k < l + d) → ltb (k - l) d ≡ ltb k (l + d)
        same (yes o) = lt-ltb (k - l) d (omega arith) ∙ sym (lt-ltb k (l + d) o)
        same (no o) = le-ltb (k - l) d (omega arith) ∙ sym (le-ltb k (l + d) (omega arith))

pub between : (l h k : ℕ) → l ≤ h → bit_of (2 ^ h - 2 ^ l) k ≡ (leb l k and ltb k h)
between l h k m =
    let e : l + (h - l) ≡ h = omega arith in
    ap (λ (z : ℕ). bit_of (2 ^ z - 2 ^ l) k) (sym e) ∙ ap (λ (z : ℕ). bit_of z k) (between_is l (h - l)) ∙ ones_at l (h - l) k
    ∙ ap (λ (z : ℕ). leb l k and ltb k z) e

pub power_fits : (h : ℕ) → h ≤ 16 → 2 ^ h ≤ 65536
power_fits h l = pow-le-pow_right {n = 2} (omega arith) {i = h} {j = 16} l

pub between_small : (l h : ℕ) → h ≤ 16 → 2 ^ h - 2 ^ l < 65536
between_small l h m =
    let p = power_fits h m in
    let q = one-le-pow l 2 (omega arith) in
    omega arith

-- ---- bytes that two extents share, from the first one's start

pub shared_none : (a m b n k : ℕ) → min (a + m) (b + n) ≤ max a b → (inside a m (a + k) and inside b n (a + k)) ≡ false
unfolding inside
shared_none a m b n k h = go (dec_lt (a + k) (a + m)) (dec_lt (a + k) (b + n)) (dec_lt (a + k) b)
  where
    go : Dec (a + k < a + m) → Dec (a + k < b + n) → Dec (a + k < b)
        → ((leb a (a + k) and ltb (a + k) (a + m)) and (leb b (a + k) and ltb (a + k) (b + n))) ≡ false
    go (no p) q r = and_false_left _ _ (and_false_right _ _ (le-ltb (a + k) (a + m) (omega arith)))
    go (yes p) (no q) r = and_false_right _ _ (and_false_right _ _ (le-ltb (a + k) (b + n) (omega arith)))
    go (yes p) (yes q) (yes r) = and_false_right _ _ (and_false_left _ _ (lt-leb b (a + k) r))
    go (yes p) (yes q) (no r) = absurd (omega arith)

pub shared_some : (a m b n k : ℕ) → max a b < min (a + m) (b + n)
    → (leb (max a b - a) k and ltb k (min (a + m) (b + n) - a)) ≡ (inside a m (a + k) and inside b n (a + k))
unfolding inside
shared_some a m b n k h = bool_ext _ _ there back
  where
    there : (leb (max a b - a) k and ltb k (min (a + m) (b + n) - a)) ≡ true
        → ((leb a (a + k) and ltb (a + k) (a + m)) and (leb b (a + k) and ltb (a + k) (b + n))) ≡ true
    there e =
        let p = leb-true (max a b - a) k (split e).0 in
        let q = ltb-true k (min (a + m) (b + n) - a) (split e).1 in
        and_true (and_true (le-leb a (a + k) (omega arith)) (lt-ltb (a + k) (a + m) (omega arith)))
        (and_true (le-leb b (a + k) (omega arith)) (lt-ltb (a + k) (b + n) (omega arith)))

    back : ((leb a (a + k) and ltb (a + k) (a + m)) and (leb b (a + k) and ltb (a + k) (b + n))) ≡ true
        → (leb (max a b - a) k and ltb k (min (a + m) (b + n) - a)) ≡ true
    back e =
        let p = ltb-true (a + k) (a + m) (split (split e).0).1 in
        let q = leb-true b (a + k) (split (split e).1).0 in
        let r = ltb-true (a + k) (b + n) (split (split e).1).1 in
        and_true (le-leb (max a b - a) k (omega arith)) (lt-ltb k (min (a + m) (b + n) - a) (omega arith))

-- ---- a mask of bytes from a on, as bits from b on

abbrev from : ℕ → ℕ → ℕ → ℕ → Bool
from m a b k = leb a (b + k) and bit_of m (b + k - a)

pub moved_past : (m a b k : ℕ) → m < 65536 → a + 16 ≤ b → from m a b k ≡ false
moved_past m a b k l h = and_false_right _ _ (bit_of_small m 16 (b + k - a) l (omega arith))

pub moved_before : (m a b k : ℕ) → b + 16 ≤ a → k < 16 → from m a b k ≡ false
moved_before m a b k h l = and_false_left _ _ (lt-leb a (b + k) (omega arith))

shr_is : (m s k : ℕ) → bit_of (m / 2 ^ s) k ≡ bit_of m (s + k)
unfolding bit_of
shr_is m s k = rw (div-div-eq-div-mul m (2 ^ s) (2 ^ k), pow-add 2 s k) refl

pub moved_down : (m a b k : ℕ) → a < b → bit_of (m / 2 ^ (b - a)) k ≡ from m a b k
moved_down m a b k l =
    let e : b - a + k ≡ b + k - a = omega arith in
    shr_is m (b - a) k ∙ ap (bit_of m) e ∙ sym (and_on (leb a (b + k)) (bit_of m (b + k - a)) (le-leb a (b + k) (omega arith)))

pub moved_up : (m a b k : ℕ) → b ≤ a → k < 16 → bit_of (m * 2 ^ (a - b) % 65536) k ≡ from m a b k
moved_up m a b k l h = bit_of_cut (m * 2 ^ (a - b)) 16 k h ∙ go (dec_lt k (a - b))
  where
    go : Dec (k < a - b) → bit_of (m * 2 ^ (a - b)) k ≡ from m a b k
    go (yes q) = bit_of_shl_low m (a - b) k q ∙ sym (and_false_left _ _ (lt-leb a (b + k) (omega arith)))
    go (no q) =
        let e : a - b + (k - (a - b)) ≡ k = omega arith in
        let f : k - (a - b) ≡ b + k - a = omega arith in
        ap (bit_of (m * 2 ^ (a - b))) (sym e) ∙ bit_of_shl_high m (a - b) (k - (a - b)) ∙ ap (bit_of m) f
        ∙ sym (and_on (leb a (b + k)) (bit_of m (b + k - a)) (le-leb a (b + k) (omega arith)))

-- ---- sixteen bits put into a word: at quarter q of it

-- what stands in a quarter fits in the word
pub quarter_fits : (m q : ℕ) → m < 65536 → q < 4 → m * 2 ^ (16 * q) < 18446744073709551616
quarter_fits m q l h = go (ℕ_discrete q 0) (ℕ_discrete q 1) (ℕ_discrete q 2)
  where
    at : (c : ℕ) → q ≡ c → m * 2 ^ (16 * c) < 18446744073709551616 → m * 2 ^ (16 * q) < 18446744073709551616
    at c e p = rw e p

    go : Dec (q ≡ 0) → Dec (q ≡ 1) → Dec (q ≡ 2) → m * 2 ^ (16 * q) < 18446744073709551616
    go (yes e) b c = at 0 e (omega arith)
    go (no a) (yes e) c = at 1 e (omega arith)
    go (no a) (no b) (yes e) = at 2 e (omega arith)
    go (no a) (no b) (no c) = at 3 (omega arith) (omega arith)

or_nothing : (b : Bool) → (b or false) ≡ b
unfolding ◌or◌
or_nothing true = refl
or_nothing false = refl

module _ (w u : List ℕ) (at m s : ℕ) (small : m < 65536) (e : u ≡ set w at (bit_or (get_or w at 0) (m * 2 ^ s))) (room : at < length w) where
  word_is : get_or u at 0 ≡ bit_or (get_or w at 0) (m * 2 ^ s)
  word_is = ap (λ (v : List ℕ). get_or v at 0) e ∙ get_or-set_same w at (bit_or (get_or w at 0) (m * 2 ^ s)) 0 room

  -- the bits that m was put at
  pub put_is : (i k : ℕ) → i / 64 ≡ at → i % 64 ≡ s + k → bit u i ≡ (bit w i or bit_of m k)
  unfolding bit
  put_is i k p q =
      rw (p, q, word_is, bit_of_or (get_or w at 0) (m * 2 ^ s) (s + k), bit_of_shl_high m s k) refl

  -- every other bit
  pub put_other : (i : ℕ) → (i / 64 ≡ at → s ≤ i % 64 → s + 16 ≤ i % 64) → bit u i ≡ bit w i
  unfolding bit
  put_other i h = go (ℕ_discrete (i / 64) at) (dec_lt (i % 64) s)
    where
      go : Dec (i / 64 ≡ at) → Dec (i % 64 < s) → bit_of (get_or u (i / 64) 0) (i % 64) ≡ bit_of (get_or w (i / 64) 0) (i % 64)
      go (no p) q = ap (λ (v : List ℕ). bit_of (get_or v (i / 64) 0) (i % 64)) e
          ∙ ap (λ (z : ℕ). bit_of z (i % 64)) (get_or-set_other w at (i / 64) (bit_or (get_or w at 0) (m * 2 ^ s)) 0 p)
      go (yes p) (yes q) =
          rw (p, word_is, bit_of_or (get_or w at 0) (m * 2 ^ s) (i % 64), bit_of_shl_low m s (i % 64) q, or_nothing (bit_of (get_or w at 0) (i % 64))) refl
      go (yes p) (no q) =
          let l : s + 16 ≤ i % 64 = h p (omega arith) in
          let f : s + (i % 64 - s) ≡ i % 64 = omega arith in
          let z : bit_of (m * 2 ^ s) (i % 64) ≡ false =
          ap (bit_of (m * 2 ^ s)) (sym f) ∙ bit_of_shl_high m s (i % 64 - s) ∙ bit_of_small m 16 (i % 64 - s) small (omega arith) in
          rw (p, word_is, bit_of_or (get_or w at 0) (m * 2 ^ s) (i % 64), z, or_nothing (bit_of (get_or w at 0) (i % 64))) refl

  pub put_within : (a b : ℕ) → a ≤ at → at < b → Within a b w u
  put_within a b p q =
      record {
        len = ap length e ∙ length-set w at (bit_or (get_or w at 0) (m * 2 ^ s));
        out = λ x h.
            ap (λ (v : List ℕ). get_or v x 0) e
            ∙ get_or-set_other w at x (bit_or (get_or w at 0) (m * 2 ^ s)) 0 (λ f. let l : b ≤ x = h (omega arith) in omega arith);
      }
