-- What the functions on bytes come to, from the numbers that they read. Assumes nothing.
use Rattle.std.specs.Prelude.{◌≡◌, List, length, get_or, set}
use Rattle.std.proofs.Math.Path.{sym, ap, ap₂}
use Rattle.std.proofs.Common.{subst₂, ◌∙◌, arith, mul-le-mul_left}
use Prim.Native.Nat.{ℕ, ◌+◌, ◌-◌, ◌*◌, ◌/◌, ◌%◌, ◌^◌, ◌≤◌, ◌<◌, max, min}
use Rattle.std.proofs.Math.Nat.{pow-le-pow_right, one-le-pow, div-le_self}
use Rattle.std.specs.Int.Bits.{bit_or}
use Rattle.std.proofs.Math.Dec.{leb, ltb}
use Rattle.finite.specs.Logic.{◌and◌}
use Rattle.model.specs.Limits.{ROWS, WORK, LONGEST}
use Rattle.model.specs.Row.{inside, touches}
use Rattle.model.specs.Table.{Table}
use Rattle.bits.specs.Bit.{bit_of, bit_of_zero, one_shl}
use Rattle.work_area.specs.Regions.{LOCATION, LOCATION_END, PAIRS, PAIR}
use Rattle.sets_bytes.specs.Masks.{Mask, shared_bit, moved_bit, Adds}
use Rattle.sets_bytes.specs.Shifts.{between, between_small, shared_none, shared_some, moved_past, moved_before, moved_down, moved_up}
use Rattle.sets_bytes.specs.Shifts.{quarter_fits, power_fits, put_is, put_other, put_within}

-- 1 shifted by so many bits, as code says it
abbrev pub shifted : ℕ → ℕ
shifted k = 1 * 2 ^ k % 18446744073709551616

pub shifted_is : (k : ℕ) → k < 64 → shifted k ≡ 2 ^ k
shifted_is = one_shl

pub shift_some : (k : ℕ) → k < 64 → 0 < shifted k
shift_some k l = rw (shifted_is k l) (let h = one-le-pow k 2 (omega arith) in omega arith)

pub up_fits : (m k : ℕ) → m < 65536 → k < 16 → m * shifted k < 18446744073709551616
up_fits m k small l =
    let p = power_fits k (omega arith) in
    rw (shifted_is k (omega arith)) (let q : m * 2 ^ k ≤ m * 65536 = mul-le-mul_left m p in omega arith)

-- extents of at most sixteen bytes
module _ (a e b f low high : ℕ) (lows : low ≡ max a b) (highs : high ≡ min e f) (few : e ≤ a + 16) (some : low < high) where
  pub below_sixteen : (high - a ≤ 16) × (low - a ≤ high - a)
  below_sixteen = (omega arith, omega arith)

  pub less_fits : shifted (low - a) ≤ shifted (high - a)
  less_fits =
      let q = below_sixteen.0 in
      let r = below_sixteen.1 in
      rw (shifted_is (low - a) (omega arith), shifted_is (high - a) (omega arith)) (pow-le-pow_right {n = 2} (omega arith) {i = low - a} {j = high - a} r)

-- ---- the bytes that two rows share

module _ (t : Table) (x y a e b f low high : ℕ) (from_x : a ≡ (t.row x).start) (to_x : e ≡ (t.row x).start + (t.row x).size)
    (from_y : b ≡ (t.row y).start) (to_y : f ≡ (t.row y).start + (t.row y).size) (lows : low ≡ max a b) (highs : high ≡ min e f) where
  pub shared_empty : high ≤ low → Mask (shared_bit t x y) 0
  unfolding shared_bit touches
  shared_empty h =
      record {
        low = omega arith;
        is = λ k l. bit_of_zero k ∙ sym (shared_none (t.row x).start (t.row x).size (t.row y).start (t.row y).size k (omega arith));
      }

  pub shared_bits : (t.row x).size ≤ LONGEST → low < high → Mask (shared_bit t x y) (shifted (high - a) - shifted (low - a))
  unfolding shared_bit touches
  shared_bits s h =
      let p = below_sixteen a e b f low high lows highs (omega arith) h in
      let q = p.0 in
      let r = p.1 in
      let one = shifted_is (low - a) (omega arith) in
      let two = shifted_is (high - a) (omega arith) in
      record {
        low = rw (one, two) (between_small (low - a) (high - a) q);
        is = λ k l. ap₂ (λ (u v : ℕ). bit_of (u - v) k) two one ∙ between (low - a) (high - a) k r ∙ at k;
      }
    where
      at : (k : ℕ) → (leb (low - a) k and ltb k (high - a)) ≡ (inside (t.row x).start (t.row x).size ((t.row x).start + k) and inside (t.row y).start (t.row y).size ((t.row x).start + k))
      at k =
          let m : low - a ≡ max (t.row x).start (t.row y).start - (t.row x).start =
          ap (λ (z : ℕ). z - a) lows ∙ ap₂ (λ (u v : ℕ). max u v - u) from_x from_y in
          let n : high - a ≡ min ((t.row x).start + (t.row x).size) ((t.row y).start + (t.row y).size) - (t.row x).start =
          ap (λ (z : ℕ). z - a) highs ∙ ap₂ (λ (u v : ℕ). min u v - a) to_x to_y
          ∙ ap (λ (z : ℕ). min ((t.row x).start + (t.row x).size) ((t.row y).start + (t.row y).size) - z) from_x in
          ap₂ (λ (u v : ℕ). leb u k and ltb k v) m n
          ∙ shared_some (t.row x).start (t.row x).size (t.row y).start (t.row y).size k
          (subst₂ (λ (u v : ℕ). u < v) (lows ∙ ap₂ max from_x from_y) (highs ∙ ap₂ min to_x to_y) h)

-- ---- a mask moved from row x's start to row z's

module _ (t : Table) (m x z a b : ℕ) (from_x : a ≡ (t.row x).start) (from_z : b ≡ (t.row z).start) (small : m < 65536) where
  pub all_past : a + 16 ≤ b → Mask (moved_bit t m x z) 0
  unfolding moved_bit
  all_past h =
      record { low = omega arith; is = λ k l. bit_of_zero k ∙ sym (moved_past m (t.row x).start (t.row z).start k small (omega arith)) }

  pub all_before : b + 16 ≤ a → Mask (moved_bit t m x z) 0
  unfolding moved_bit
  all_before h =
      record { low = omega arith; is = λ k l. bit_of_zero k ∙ sym (moved_before m (t.row x).start (t.row z).start k (omega arith) l) }

  pub down : a < b → b < a + 16 → Mask (moved_bit t m x z) (m / shifted (b - a))
  unfolding moved_bit
  down h g =
      let e = shifted_is (b - a) (omega arith) in
      let p = one-le-pow (b - a) 2 (omega arith) in
      record {
        low = rw e (let q = div-le_self m (2 ^ (b - a)) in omega arith);
        is = λ k l.
            ap (λ (v : ℕ). bit_of (m / v) k) e
            ∙ ap₂ (λ (u v : ℕ). bit_of (m / 2 ^ (v - u)) k) from_x from_z ∙ moved_down m (t.row x).start (t.row z).start k (omega arith);
      }

  pub up : b ≤ a → a < b + 16 → Mask (moved_bit t m x z) (m * shifted (a - b) % 65536)
  unfolding moved_bit
  up h g =
      let e = shifted_is (a - b) (omega arith) in
      record {
        low = omega arith;
        is = λ k l.
            ap (λ (v : ℕ). bit_of (m * v % 65536) k) e
            ∙ ap₂ (λ (u v : ℕ). bit_of (m * 2 ^ (u - v) % 65536) k) from_x from_z ∙ moved_up m (t.row x).start (t.row z).start k (omega arith) l;
      }

-- ---- a mask added to the bits of a pair

pub add_fits : (m y : ℕ) → m < 65536 → m * shifted (16 * (y % 4)) < 18446744073709551616
add_fits m y l = rw (shifted_is (16 * (y % 4)) (omega arith)) (quarter_fits m (y % 4) l (omega arith))

pub adds : (w u : List ℕ) (x y m : ℕ) → x < ROWS → y < ROWS → m < 65536 → WORK ≤ length w
    → u ≡ set w (3072 + x * 32 + y / 4) (bit_or (get_or w (3072 + x * 32 + y / 4) 0) (m * shifted (16 * (y % 4)))) → Adds x y m w u
adds w u x y m hx hy small room e =
    record {
      is = λ k l. put_is w u at m s small same fit (LOCATION * 64 + x * PAIRS + y * PAIR + k) k (omega arith) (omega arith);
      other = λ i h. put_other w u at m s small same fit i
          (λ p q. let g : LOCATION * 64 + x * PAIRS + y * PAIR + PAIR ≤ i = h (omega arith) in omega arith);
      frame = put_within w u at m s small same fit LOCATION LOCATION_END (omega arith) (omega arith);
    }
  where
    at : ℕ
    at = 3072 + x * 32 + y / 4

    s : ℕ
    s = 16 * (y % 4)

    same : u ≡ set w at (bit_or (get_or w at 0) (m * 2 ^ s))
    same = e ∙ ap (λ (v : ℕ). set w at (bit_or (get_or w at 0) (m * v))) (shifted_is s (omega arith))

    fit : at < length w
    fit = omega arith
