-- Sets that stand side by side from word `base` on: what each holds, and what a store in one leaves. Assumes nothing.
use Rattle.std.specs.Prelude.{◌≡◌, refl, Bool, true, false, List, ℕ, ◌+◌, ◌*◌, ◌≤◌, ◌<◌, eqb}
use Rattle.std.proofs.Common.{sym, ap, ◌∙◌, arith, eq-eqb, ne_eqb}
use Rattle.std.proofs.Math.Decide.{ℕ_discrete}
use Rattle.finite.specs.Logic.{◌and◌, ◌or◌, and_on, and_false_left, or_off, or_assoc}
use Rattle.bits.specs.Within.{Within, within_trans, within_widen}
use Rattle.sets_of_rows.specs.declared.Set.{Set}
use Rattle.sets_of_rows.specs.Member.{in_set}
use Rattle.sets_of_rows.specs.Kept.{set_at, set_kept, Stored, added}

-- ---- definitions

-- set m of those from word `base` on
abbrev pub nth : List ℕ → ℕ → ℕ → Set
nth s base m = set_at s (base + 2 * m)

-- row j is in set m where f says so, for each of so many sets
pub record Family (base count : ℕ) (f : ℕ → ℕ → Bool) (s : List ℕ) : Type 0 where
  pub is : (m j : ℕ) → m < count → in_set (nth s base m) j ≡ f m j

-- row i was added to the sets that p names, among so many
pub record Marks (base count : ℕ) (p : ℕ → Bool) (i : ℕ) (s u : List ℕ) : Type 0 where
  pub is : (m j : ℕ) → in_set (nth u base m) j ≡ (in_set (nth s base m) j or (p m and eqb j i))
  pub frame : Within base (base + 2 * count) s u

-- ---- laws

pub family_kept : {base count c d : ℕ} {f : ℕ → ℕ → Bool} {s u : List ℕ} → (c < base + 2 * count → d ≤ base) → Within c d s u
    → Family base count f s → Family base count f u
family_kept {base} {count} {c} {d} off w h =
    record { is = λ m j l. ap (λ (x : Set). in_set x j) (set_kept (base + 2 * m) (λ q. let g : d ≤ base = off (omega arith) in omega arith) w) ∙ h.is m j l }

or_same : (c : Bool) → (c or c) ≡ c
unfolding ◌or◌
or_same true = refl
or_same false = refl

-- a set that took in one row
pub marks_one : {base : ℕ} {s u : List ℕ} (count n i : ℕ) → n < count → Stored (base + 2 * n) (added s (base + 2 * n) i) s u → Marks base count (λ m. eqb m n) i s u
unfolding added
marks_one {base} {s} {u} count n i l p =
    record { is = λ m j. go m j (ℕ_discrete m n); frame = within_widen base (base + 2 * count) (omega arith) (omega arith) p.frame }
  where
    go : (m j : ℕ) → Dec (m ≡ n) → in_set (nth u base m) j ≡ (in_set (nth s base m) j or (eqb m n and eqb j i))
    go m j (yes e) =
        ap (λ (k : ℕ). in_set (nth u base k) j) e ∙ p.is j ∙ ap (λ (k : ℕ). in_set (nth s base k) j or eqb j i) (sym e)
        ∙ ap (λ (b : Bool). in_set (nth s base m) j or b) (sym (and_on (eqb m n) (eqb j i) (eq-eqb m n e)))
    go m j (no e) =
        ap (λ (y : Set). in_set y j) (set_kept (base + 2 * m) (λ q. omega arith) p.frame)
        ∙ sym (or_off (in_set (nth s base m) j) (eqb m n and eqb j i) (and_false_left (eqb m n) (eqb j i) (ne_eqb m n e)))

or_and : (a b c : Bool) → ((a and c) or (b and c)) ≡ ((a or b) and c)
unfolding ◌and◌ ◌or◌
or_and true true c = or_same c
or_and true false c = or_off c false refl
or_and false b c = refl

-- one after the other
pub marks_both : {base count i : ℕ} {p q : ℕ → Bool} {s u v : List ℕ} → Marks base count p i s u → Marks base count q i u v → Marks base count (λ m. p m or q m) i s v
marks_both {base} {count} {i} {p} {q} {s} {u} {v} a b =
    record {
      is = λ m j.
          b.is m j ∙ ap (λ (t : Bool). t or (q m and eqb j i)) (a.is m j) ∙ or_assoc (in_set (nth s base m) j) (p m and eqb j i) (q m and eqb j i)
          ∙ ap (λ (t : Bool). in_set (nth s base m) j or t) (or_and (p m) (q m) (eqb j i));
      frame = within_trans a.frame b.frame;
    }
