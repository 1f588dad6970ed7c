-- The sets of rows by classes, and of plain rows. Assumes nothing.
use Rattle.std.specs.Prelude.{◌≡◌, refl, Bool, true, false, List, ℕ, ◌+◌, ◌*◌, ◌≤◌, ◌<◌, ltb}
use Rattle.std.proofs.Math.Path.{sym, ap₂, subst}
use Rattle.std.proofs.Common.{ap, ◌∙◌, arith, add-one, eqb-true, eq-eqb, ltb-true, ne_eqb}
use Rattle.std.proofs.Math.Decide.{ℕ_discrete}
use Rattle.std.proofs.Math.Dec.{eqb, leb}
use Rattle.std.proofs.lemmas.Bool.{lt-leb}
use Rattle.finite.specs.Logic.{◌and◌, ◌or◌, bool_ext, split, and_true, or_none}
use Rattle.finite.specs.Below.{any_below, any_none, any_in, any_out}
use Rattle.model.specs.declared.Row.{Row}
use Rattle.model.specs.Row.{access, plain, meets, single}
use Rattle.bits.specs.Within.{Within, within_refl, within_trans, within_widen}
use Rattle.sets_of_rows.specs.Member.{in_set}
use Rattle.sets_of_rows.specs.declared.Set.{Set}
use Rattle.sets_of_rows.specs.Kept.{set_at, Stored}
use Rattle.sets_of_rows.specs.Family.{nth}
use Rattle.sets_of_table.specs.Filed.{CLASSES, CLASS}
use Rattle.sets_of_table.specs.Says.{Says, Ground, says_kind, says_classes, says_class, says_or, says_and, says_cong, says_put, says_kept}
use Rattle.sets_of_table.specs.Tested.{ACCESS, Tested, tested_kept}

-- ---- the layout, in words

abbrev pub PLAIN : ℕ
PLAIN = 206

abbrev pub HOLDING : ℕ
HOLDING = 208

abbrev pub CLASSED : ℕ
CLASSED = 216

abbrev pub SORTED_END : ℕ
SORTED_END = 224

-- ---- definitions

-- the row's semantics have class q; it is an access of class q
unfoldable pub holds_class : ℕ → Row → Bool
holds_class q r = meets r.classes (single q)

unfoldable pub of_class : ℕ → Row → Bool
of_class q r = access r and eqb r.class q

pub record Sorted (row : ℕ → Row) (n : ℕ) (s : List ℕ) : Type 0 where
  pub plain : Says row n plain (set_at s PLAIN)
  pub holding : (q : ℕ) → q < 4 → Says row n (holds_class q) (nth s HOLDING q)
  pub classed : (q : ℕ) → q < 4 → Says row n (of_class q) (nth s CLASSED q)

-- row j has the m-th set of classes, and class q is in it
unfoldable pub held_by : List ℕ → ℕ → ℕ → ℕ → Bool
held_by s q j m = meets m (single q) and in_set (nth s 0 (CLASSES + m)) j

-- x has the rows that do, of the first m sets of classes
pub record HeldTo (s : List ℕ) (q m : ℕ) (x : Set) : Type 0 where
  pub is : (j : ℕ) → in_set x j ≡ any_below m (held_by s q j)

-- the same while they are made: of the classes below q
pub record SortedTo (row : ℕ → Row) (n q : ℕ) (s : List ℕ) : Type 0 where
  pub plain : Says row n plain (set_at s PLAIN)
  pub holding : (k : ℕ) → k < q → Says row n (holds_class k) (nth s HOLDING k)
  pub classed : (k : ℕ) → k < q → Says row n (of_class k) (nth s CLASSED k)

-- one more of them
pub record SortsClass (q : ℕ) (s u : List ℕ) : Type 0 where
  pub made : (row : ℕ → Row) (n : ℕ) → Tested row n s → SortedTo row n q s → SortedTo row n (q + 1) u
  pub frame : Within HOLDING SORTED_END s u

-- all, of rows that are tested
pub record Sorts (s u : List ℕ) : Type 0 where
  pub made : (row : ℕ → Row) (n : ℕ) → Tested row n s → Sorted row n u
  pub frame : Within PLAIN SORTED_END s u

-- ---- laws: the rows whose semantics have a class

pub held_none : (s : List ℕ) (q : ℕ) (x : Set) → ((j : ℕ) → in_set x j ≡ false) → HeldTo s q 0 x
held_none s q x e = record { is = λ j. e j ∙ sym (any_none (held_by s q j)) }

pub held_more : {s : List ℕ} {q m : ℕ} {x y : Set} (b : Bool) (v z : Set) → HeldTo s q m x → b ≡ meets m (single q) → v ≡ nth s 0 (CLASSES + m)
    → ((j : ℕ) → in_set z j ≡ (b and in_set v j)) → ((j : ℕ) → in_set y j ≡ (in_set x j or in_set z j)) → HeldTo s q (m + 1) y
unfolding held_by any_below
held_more {s} {q} {m} {x} {y} b v z h e f g o =
    record {
      is = λ j. o j ∙ ap₂ ◌or◌ (h.is j) (g j ∙ ap₂ (λ (c : Bool) (d : Set). c and in_set d j) e f) ∙ sym (ap (λ (k : ℕ). any_below k (held_by s q j)) (add-one m));
    }

zero_is : (eqb 0 0 or eqb 0 1) ≡ leb 0 1
unfolding ◌or◌
zero_is = refl

one_is : (eqb 1 0 or eqb 1 1) ≡ leb 1 1
unfolding ◌or◌
one_is = refl

module _ {row : ℕ → Row} {n : ℕ} {s : List ℕ} (g : Ground row n s) where
  pub says_holding : (q : ℕ) (x : Set) → HeldTo s q 16 x → Says row n (holds_class q) x
  unfolding held_by holds_class
  says_holding q x e = record { is = λ j. e.is j ∙ bool_ext _ _ (out j) (back j) }
    where
      of : (j m : ℕ) → m < 16 → in_set (nth s 0 (CLASSES + m)) j ≡ (ltb j n and eqb (row j).classes m)
      of j m l = (says_classes g m l).is j

      out : (j : ℕ) → any_below 16 (held_by s q j) ≡ true → (ltb j n and meets (row j).classes (single q)) ≡ true
      out j t =
          let r = any_out (held_by s q j) 16 t in
          let p = split r.2 in
          let o = split (sym (of j r.0 r.1) ∙ p.1) in
          and_true o.0 (ap (λ (m : ℕ). meets m (single q)) (eqb-true (row j).classes r.0 o.1) ∙ p.0)

      back : (j : ℕ) → (ltb j n and meets (row j).classes (single q)) ≡ true → any_below 16 (held_by s q j) ≡ true
      back j t =
          let p = split t in
          let k = (g.coded j (ltb-true j n p.0)).classes in
          any_in (held_by s q j) 16 (row j).classes k (and_true p.1 (of j (row j).classes k ∙ and_true p.0 (eq-eqb (row j).classes (row j).classes refl)))

  pub says_plain : {x : Set} → ((j : ℕ) → in_set x j ≡ (in_set (nth s 0 0) j or in_set (nth s 0 1) j)) → Says row n plain x
  unfolding plain
  says_plain e =
      says_cong (λ r. eqb r.kind 0 or eqb r.kind 1) plain (λ j l. low (row j).kind)
      (says_or (λ r. eqb r.kind 0) (λ r. eqb r.kind 1) (says_kind g 0 (omega arith)) (says_kind g 1 (omega arith)) e)
    where
      low : (k : ℕ) → (eqb k 0 or eqb k 1) ≡ leb k 1
      low k = go (ℕ_discrete k 0) (ℕ_discrete k 1)
        where
          go : Dec (k ≡ 0) → Dec (k ≡ 1) → (eqb k 0 or eqb k 1) ≡ leb k 1
          go (yes e) d = subst (λ (m : ℕ). (eqb m 0 or eqb m 1) ≡ leb m 1) (sym e) zero_is
          go (no d) (yes e) = subst (λ (m : ℕ). (eqb m 0 or eqb m 1) ≡ leb m 1) (sym e) one_is
          go (no d) (no e) = or_none (ne_eqb k 0 d) (ne_eqb k 1 e) ∙ sym (lt-leb k 1 (omega arith))

-- ---- laws: one class, and all

module _ (q : ℕ) (l : q < 4) {s u v : List ℕ} (x y z b : Set) (held : HeldTo s q 16 x) (access_is : y ≡ set_at s ACCESS)
    (class_is : z ≡ nth s 0 (CLASS + q)) (both : (j : ℕ) → in_set b j ≡ (in_set y j and in_set z j)) (first : Stored (HOLDING + 2 * q) (in_set x) s u)
    (second : Stored (CLASSED + 2 * q) (in_set b) u v) where
  of_class_lem : (row : ℕ → Row) (n : ℕ) → Tested row n s → Says row n (of_class q) b
  unfolding of_class
  of_class_lem row n t =
      says_and access (λ r. eqb r.class q) t.accesses.access (says_class t.ground q (omega arith))
      (λ j. both j ∙ ap₂ (λ (c d : Set). in_set c j and in_set d j) access_is class_is)

  pub class_sorted : SortsClass q s v
  class_sorted =
      record {
        made = λ row n t h.
            record {
              plain = says_kept PLAIN plain (λ o. absurd (omega arith)) second.frame (says_kept PLAIN plain (λ o. absurd (omega arith)) first.frame h.plain);
              holding = λ k o. holding row n t h k o (ℕ_discrete k q);
              classed = λ k o. classed row n t h k o (ℕ_discrete k q);
            };
        frame =
            within_trans (within_widen HOLDING SORTED_END (omega arith) (omega arith) first.frame)
            (within_widen HOLDING SORTED_END (omega arith) (omega arith) second.frame);
      }
    where
      holding : (row : ℕ → Row) (n : ℕ) → Tested row n s → SortedTo row n q s → (k : ℕ) → k < q + 1 → Dec (k ≡ q) → Says row n (holds_class k) (nth v HOLDING k)
      holding row n t h k o (yes e) =
          subst (λ (m : ℕ). Says row n (holds_class m) (nth v HOLDING m)) (sym e)
          (says_kept (HOLDING + 2 * q) (holds_class q) (λ c. absurd (omega arith)) second.frame
          (says_put (holds_class q) first (says_holding t.ground q x held)))
      holding row n t h k o (no e) =
          says_kept (HOLDING + 2 * k) (holds_class k) (λ c. absurd (omega arith)) second.frame
          (says_kept (HOLDING + 2 * k) (holds_class k) (λ c. absurd (omega arith)) first.frame (h.holding k (omega arith)))

      classed : (row : ℕ → Row) (n : ℕ) → Tested row n s → SortedTo row n q s → (k : ℕ) → k < q + 1 → Dec (k ≡ q) → Says row n (of_class k) (nth v CLASSED k)
      classed row n t h k o (yes e) = subst (λ (m : ℕ). Says row n (of_class m) (nth v CLASSED m)) (sym e) (says_put (of_class q) second (of_class_lem row n t))
      classed row n t h k o (no e) =
          says_kept (CLASSED + 2 * k) (of_class k) (λ c. absurd (omega arith)) second.frame
          (says_kept (CLASSED + 2 * k) (of_class k) (λ c. omega arith) first.frame (h.classed k (omega arith)))

-- the loop's invariant: of the classes below q, where plain rows are sorted
pub record SortingTo (q : ℕ) (s u : List ℕ) : Type 0 where
  pub made : (row : ℕ → Row) (n : ℕ) → Tested row n s → SortedTo row n 0 s → SortedTo row n q u
  pub frame : Within HOLDING SORTED_END s u

pub sorting_none : (s : List ℕ) → SortingTo 0 s s
sorting_none s = record { made = λ row n t h. h; frame = within_refl HOLDING SORTED_END s }

pub sorting_more : {q : ℕ} {s u v : List ℕ} → SortingTo q s u → SortsClass q u v → SortingTo (q + 1) s v
sorting_more h f =
    record {
      made = λ row n t g. f.made row n (tested_kept (omega arith) h.frame t) (h.made row n t g);
      frame = within_trans h.frame f.frame;
    }

pub sorting_end : {s u v : List ℕ} (x : Set) → ((j : ℕ) → in_set x j ≡ (in_set (nth s 0 0) j or in_set (nth s 0 1) j)) → Stored PLAIN (in_set x) s u → SortingTo 4 u v → Sorts s v
sorting_end {s} {u} {v} x e f h =
    record {
      made = λ row n t. let m = all row n t in record { plain = m.plain; holding = m.holding; classed = m.classed };
      frame = within_trans (within_widen PLAIN SORTED_END (omega arith) (omega arith) f.frame) (within_widen PLAIN SORTED_END (omega arith) (omega arith) h.frame);
    }
  where
    all : (row : ℕ → Row) (n : ℕ) → Tested row n s → SortedTo row n 4 v
    all row n t =
        h.made row n (tested_kept (omega arith) f.frame t)
        (record { plain = says_put plain f (says_plain t.ground e); holding = λ k o. absurd (omega arith); classed = λ k o. absurd (omega arith) })

-- a change in later words
pub sorted_kept : {row : ℕ → Row} {n a b : ℕ} {s u : List ℕ} → SORTED_END ≤ a → Within a b s u → Sorted row n s → Sorted row n u
sorted_kept l f h =
    record {
      plain = says_kept PLAIN plain (λ o. absurd (omega arith)) f h.plain;
      holding = λ q o. says_kept (HOLDING + 2 * q) (holds_class q) (λ c. absurd (omega arith)) f (h.holding q o);
      classed = λ q o. says_kept (CLASSED + 2 * q) (of_class q) (λ c. absurd (omega arith)) f (h.classed q o);
    }
