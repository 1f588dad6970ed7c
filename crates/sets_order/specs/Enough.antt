-- The class sets that no other stands for are enough for happens-before. Assumes nothing.
use Rattle.std.specs.Prelude.{◌≡◌, Bool, false, cond, List, ◌⊎◌, eqb}
use Rattle.std.proofs.Common.{sym, ◌∙◌, inl, inr, ⊎_elim, eq-eqb, lt-ltb}
use Rattle.std.proofs.Math.Path.{ap}
use Rattle.std.proofs.Math.Bool.{true}
use Prim.Native.Nat.{ℕ, zero, suc, ◌+◌, ◌-◌, ◌*◌, ◌%◌, ◌≤◌, ◌<◌}
use native.Mathlib.Omega.{arith}
use Rattle.std.specs.Int.Bits.{bit_and, and_self}
use Rattle.std.proofs.lemmas.Nat.{and_mask, and_comm, and_le_l}
use Rattle.std.proofs.lemmas.Bool.{eqb-false}
use Rattle.finite.specs.Logic.{◌or◌, which, bool_ext, not_both, split, and_true}
use Rattle.finite.specs.Below.{any_below, any_in, any_out, below_cases}
use Rattle.model.specs.Row.{holds}
use Rattle.model.specs.Limits.{CLASS_SETS}
use Rattle.model.specs.Table.{Table}
use Rattle.model.specs.Moment.{itself, program_order}
use Rattle.model.specs.Availability.{availability_moment, visibility_moment}
use Rattle.model.specs.Happens.{inter_thread, inter_thread_by, happens}
use Rattle.model_hubs.specs.Wider.{less_by, shared_by, inter_wider, and_assoc, holds_is}
use Rattle.model_closing.specs.Order.{available_row, visible_row}
use Rattle.sets_grids.specs.Grid.{grid_cong}
use Rattle.sets_grids.specs.Happens.{done_by, order_by, HappensBy, Happening, happens_rows, available_rows, available_visibles, availables, visibles}
use Rattle.sets_closure.specs.Widest.{widest}
use Rattle.sets_order.specs.Inter.{wide_to}

-- ---- laws: class sets

holds_in : (c s : ℕ) → bit_and c s ≡ s → holds c s ≡ true
unfolding holds
holds_in c s e = eq-eqb (bit_and c s) s e

-- what two hold, what they share holds
holds_both : (a b s : ℕ) → holds a s ≡ true → holds b s ≡ true → holds (bit_and a b) s ≡ true
holds_both a b s e f = holds_in (bit_and a b) s (and_assoc a b s ∙ ap (bit_and a) (holds_is b s f) ∙ holds_is a s e)

holds_left : (x a b : ℕ) → holds x a ≡ true → holds x (bit_and a b) ≡ true
holds_left x a b e = holds_in x (bit_and a b) (sym (and_assoc x a b) ∙ ap (λ (z : ℕ). bit_and z b) (holds_is x a e))

holds_right : (a b : ℕ) → holds b (bit_and a b) ≡ true
holds_right a b = holds_in b (bit_and a b) (ap (bit_and b) (and_comm a b) ∙ sym (and_assoc b b a) ∙ ap (λ (z : ℕ). bit_and z a) (and_self b) ∙ and_comm b a)

-- they have all of s, are no more than there are, and each holder has them
record Shared (t : Table) (s n c : ℕ) : Type 0 where
  low : c ≤ CLASS_SETS
  sub : holds c s ≡ true
  all : (x : ℕ) → x < n → holds (t.row x).classes s ≡ true → holds (t.row x).classes c ≡ true

shared_is : (t : Table) (s n : ℕ) → s ≤ CLASS_SETS → Shared t s n (shared_by t s n)
unfolding shared_by less_by
shared_is t s zero l =
    let e : bit_and s 15 ≡ s % 16 = and_mask s 4 in
    record { low = omega arith; sub = holds_in 15 s (and_comm 15 s ∙ omega (arith, e)); all = λ x o. absurd (omega arith) }
shared_is t s (suc n) l = go (shared_is t s n l) (which (holds (t.row n).classes s))
  where
    go : Shared t s n (shared_by t s n) → (holds (t.row n).classes s ≡ true) ⊎ (holds (t.row n).classes s ≡ false)
        → Shared t s (suc n) (cond (holds (t.row n).classes s) (bit_and (shared_by t s n) (t.row n).classes) (shared_by t s n))
    go h (inl e) = rw e
        (record {
          low = omega (arith, h.low, and_le_l (shared_by t s n) (t.row n).classes);
          sub = holds_both (shared_by t s n) (t.row n).classes s h.sub e;
          all = λ x o f. ⊎_elim (λ q. rw q (holds_right (shared_by t s n) (t.row n).classes))
              (λ q. holds_left (t.row x).classes (shared_by t s n) (t.row n).classes (h.all x q f)) (below_cases o);
        })
    go h (inr e) = rw e
        (record { low = h.low; sub = h.sub; all = λ x o f. ⊎_elim (λ q. not_both f (rw q e)) (λ q. h.all x q f) (below_cases o) })

-- ---- laws: up to a class set that no other stands for

module _ (t : Table) (m k : ℕ) (here : m < 3 * t.rows) (there : k < 3 * t.rows) where
  climb : (f s : ℕ) → 0 < s → s < 16 → 16 ≤ s + f → inter_thread t s m k ≡ true → any_below CLASS_SETS (done_by t (wide_to t 16) m k) ≡ true
  unfolding done_by wide_to widest
  climb zero s l o e i = absurd (omega arith)
  climb (suc f) s l o e i = go (λ c a b d j. climb f c a b d j) (which (eqb (shared_by t s t.rows) s))
    where
      same : suc (s - 1) ≡ s
      same = omega arith

      h : Shared t s t.rows (shared_by t s t.rows)
      h = shared_is t s t.rows (omega arith)

      later : (c : ℕ) → eqb c s ≡ false → s ≤ c → s < c
      later c n q = let d = eqb-false c s n in omega (arith, d)

      low : s ≤ shared_by t s t.rows
      low = let a = and_le_l (shared_by t s t.rows) s in let b = holds_is (shared_by t s t.rows) s h.sub in omega (arith, a, b)

      go : ((c : ℕ) → 0 < c → c < 16 → 16 ≤ c + f → inter_thread t c m k ≡ true → any_below CLASS_SETS (done_by t (wide_to t 16) m k) ≡ true)
          → (eqb (shared_by t s t.rows) s ≡ true) ⊎ (eqb (shared_by t s t.rows) s ≡ false) → any_below CLASS_SETS (done_by t (wide_to t 16) m k) ≡ true
      go on (inl a) =
          any_in (done_by t (wide_to t 16) m k) CLASS_SETS (s - 1) (omega arith)
          (and_true (and_true (lt-ltb (suc (s - 1)) 16 (omega arith)) (ap (λ (z : ℕ). eqb (shared_by t z t.rows) z) same ∙ a)) (ap (λ (z : ℕ). inter_thread t z m k) same ∙ i))
      go on (inr a) =
          let z = later (shared_by t s t.rows) a low in
          let y = h.low in
          on (shared_by t s t.rows) (omega (arith, z)) (omega (arith, y)) (omega (arith, z, e)) (inter_wider t s (shared_by t s t.rows) h.sub h.all m k here there i)

  wide_happens : order_by t (wide_to t 16) m k ≡ happens t m k
  unfolding order_by done_by inter_thread_by happens
  wide_happens = ap (λ (b : Bool). program_order t m k or b) (bool_ext _ _ forth back)
    where
      forth : any_below CLASS_SETS (done_by t (wide_to t 16) m k) ≡ true → any_below CLASS_SETS (inter_thread_by t m k) ≡ true
      forth e = let r = any_out (done_by t (wide_to t 16) m k) CLASS_SETS e in any_in (inter_thread_by t m k) CLASS_SETS r.0 r.1 (split r.2).1

      back : any_below CLASS_SETS (inter_thread_by t m k) ≡ true → any_below CLASS_SETS (done_by t (wide_to t 16) m k) ≡ true
      back e = let r = any_out (inter_thread_by t m k) CLASS_SETS e in let l = r.1 in climb 16 (suc r.0) (omega arith) (omega arith) (omega arith) r.2

pub happening_all : {t : Table} {n c : ℕ} {w : List ℕ} → t.rows ≡ n → c ≡ 16 → HappensBy t (wide_to t c) n w → Happening t n w
unfolding happens_rows available_rows available_visibles availables visibles
happening_all {t} {n} {c} {w} rows q h = go (rw q at h)
  where
    av : (x : ℕ) → x < n → availability_moment t x < 3 * t.rows
    av x l = let e = available_row t x in omega (arith, rows)

    vi : (x : ℕ) → x < n → visibility_moment t x < 3 * t.rows
    vi x l = let e = visible_row t x in omega (arith, rows)

    own : (x : ℕ) → x < n → itself x < 3 * t.rows
    own x l = omega (arith, rows)

    go : HappensBy t (wide_to t 16) n w → Happening t n w
    go h =
        record {
          rows = grid_cong (λ i j l m. wide_happens t _ _ (own i l) (own j m)) h.rows;
          available_rows_lem = grid_cong (λ i j l m. wide_happens t _ _ (av i l) (own j m)) h.available_rows_lem;
          available_visibles_lem = grid_cong (λ i j l m. wide_happens t _ _ (av i l) (vi j m)) h.available_visibles_lem;
          availables = grid_cong (λ i j l m. wide_happens t _ _ (av i l) (av j m)) h.availables;
          visibles = grid_cong (λ i j l m. wide_happens t _ _ (vi i l) (vi j m)) h.visibles;
        }
