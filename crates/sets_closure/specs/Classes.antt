-- What a class set concerns, from the sets by classes. Assumes nothing.
use Rattle.std.specs.Prelude.{◌≡◌, refl, Bool, cond, List, ◌⊎◌, ℕ, ◌+◌, ◌*◌, ◌<◌, eqb, ltb}
use Rattle.std.proofs.Math.Path.{sym, ap, ap₂}
use Rattle.std.proofs.Common.{◌∙◌, inl, inr, arith, add-one, eqb-true, eq-eqb, ne_eqb, ltb-true, lt-ltb, leb-true, le-leb}
use Rattle.std.proofs.Math.Bool.{true, false, not}
use Rattle.std.specs.Bool.{beq}
use Rattle.std.proofs.Math.Logic.{⊎_elim}
use Rattle.std.specs.Int.Bits.{bit_and}
use Rattle.std.proofs.lemmas.Nat.{and_le_l}
use Rattle.finite.specs.Logic.{◌and◌, ◌or◌, which, bool_ext, split, and_true, and_on, and_false_left, and_false_right, or_cases, or_left, or_right, or_off, or_none, or_assoc, not_both, not_so, not_out}
use Rattle.finite.specs.Below.{any_below, any_none, any_in, any_out, all_below, all_out}
use Rattle.model.specs.declared.Row.{Row}
use Rattle.model.specs.Row
use Rattle.model.specs.Row.{plain, access, releases, acquires, holds, meets, single, class_in}
use Rattle.model.specs.Moment.{classes_of}
use Rattle.model_laws.specs.HappensLaws.{holds_all}
use Rattle.model.specs.Table.{Table}
use Rattle.model_closing.specs.Nodes.{holder, releaser, acquirer, node}
use Rattle.model_closing.specs.Direct.{takes_part, available_for, visible_for, classes_plain, classes_wide, holder_is}
use Rattle.model_placing.specs.Elements.{available_is, visible_is}
use Rattle.sets_of_rows.specs.declared.Set.{Set}
use Rattle.sets_of_rows.specs.Member.{in_set}
use Rattle.sets_of_rows.specs.Kept.{set_at}
use Rattle.sets_of_rows.specs.Family.{nth}
use Rattle.sets_of_rows.specs.Rows.{Rows, rows_at, rows_cong, rows_and, rows_or, rows_none}
use Rattle.sets_of_table.specs.Filed.{CLASSES}
use Rattle.sets_of_table.specs.Says.{says_classes}
use Rattle.sets_of_table.specs.Tested.{RELEASES, ACQUIRES, AVAILABLE, VISIBLE}
use Rattle.sets_of_table.specs.Sorted.{PLAIN, HOLDING, holds_class}
use Rattle.sets_of_table.specs.Known.{Opened, classed_in, says_rows}
use Rattle.sets_of_table.specs.Ask.{there}
use Rattle.sets_grids.specs.Concerns.{NONE, Told, Concerns}

-- ---- definitions

-- c is a set of classes, and not the empty one
pub record ClassSet (c : ℕ) : Type 0 where
  pub some : 0 < c
  pub low : c < 16

-- row j has a class of c in its availability and visibility operations
unfoldable pub meets_some : Table → ℕ → ℕ → Bool
meets_some t c j = meets (classes_of (t.row j)) c

-- row j has the m-th set of classes, which holds all of c
unfoldable pub holds_by : List ℕ → ℕ → ℕ → ℕ → Bool
holds_by s c j m = holds m c and in_set (nth s 0 (CLASSES + m)) j

-- x has the rows that do, of the first m sets of classes
pub record HoldsTo (s : List ℕ) (c m : ℕ) (x : Set) : Type 0 where
  pub is : (j : ℕ) → in_set x j ≡ any_below m (holds_by s c j)

-- row j's semantics have class q, which is in c
unfoldable pub meets_by : List ℕ → ℕ → ℕ → ℕ → Bool
meets_by s c j q = meets c (single q) and in_set (nth s HOLDING q) j

-- x has the members of y and the rows that do, of the classes below q
pub record MeetsTo (s : List ℕ) (c : ℕ) (y : Set) (q : ℕ) (x : Set) : Type 0 where
  pub is : (j : ℕ) → in_set x j ≡ (in_set y j or any_below q (meets_by s c j))

-- two sets of classes have one in common
unfoldable pub common : ℕ → ℕ → ℕ → Bool
common a b q = meets a (single q) and meets b (single q)

-- ---- laws: sets of classes, counted out

beq_true : (a b : Bool) → beq a b ≡ true → a ≡ b
beq_true true true e = refl
beq_true true false e = sym e
beq_true false true e = e
beq_true false false e = refl

common_all : all_below 16 (λ a. all_below 16 (λ b. beq (meets a b) (any_below 4 (common a b)))) ≡ true
unfolding all_below ◌and◌ any_below ◌or◌ meets common single
common_all = refl

common_is : (a b : ℕ) → a < 16 → b < 16 → meets a b ≡ any_below 4 (common a b)
common_is a b l m =
    beq_true _ _
    (all_out (λ b. beq (meets a b) (any_below 4 (common a b))) 16
    (all_out (λ a. all_below 16 (λ b. beq (meets a b) (any_below 4 (common a b)))) 16 common_all a l) b m)

none_all : all_below 16 (λ a. not (meets a 16) and (not (meets 16 a) and not (holds a 16))) ≡ true
unfolding all_below ◌and◌ meets holds
none_all = refl

none_is : (a : ℕ) → a < 16 → (meets a 16 ≡ false) × (meets 16 a ≡ false) × (holds a 16 ≡ false)
none_is a l =
    let e = split (all_out (λ a. not (meets a 16) and (not (meets 16 a) and not (holds a 16))) 16 none_all a l) in
    let f = split e.1 in
    (not_out (meets a 16) e.0, not_out (meets 16 a) f.0, not_out (holds a 16) f.1)

single_low : (c : ℕ) → single c < 16
unfolding single
single_low c = go (eqb c 0) (eqb c 1) (eqb c 2)
  where
    go : (a b d : Bool) → cond a 1 (cond b 2 (cond d 4 8)) < 16
    go true b d = omega arith
    go false true d = omega arith
    go false false true = omega arith
    go false false false = omega arith

classes_low : (r : Row) → r.classes < 16 → classes_of r < 16
unfolding classes_of
classes_low r l = go (plain r)
  where
    go : (b : Bool) → cond b (single r.class) r.classes < 16
    go true = single_low r.class
    go false = l

-- what nothing concerns: no row holds it, none has a class of it
and_zero : (c : ℕ) → bit_and 0 c ≡ 0
and_zero c = let l = and_le_l 0 c in omega arith

none_holds : (c : ℕ) → 0 < c → holds 0 c ≡ false
unfolding holds
none_holds c l = let e : bit_and 0 c ≡ 0 = and_zero c in ap (λ (k : ℕ). eqb k c) e ∙ ne_eqb 0 c (λ q. omega arith)

-- ---- laws: rows that hold all of a class set

pub holds_none : (s : List ℕ) (c : ℕ) (x : Set) → ((j : ℕ) → in_set x j ≡ false) → HoldsTo s c 0 x
holds_none s c x e = record { is = λ j. e j ∙ sym (any_none (holds_by s c j)) }

pub holds_more : {s : List ℕ} {c m : ℕ} {x y : Set} (b : Bool) (v z : Set) → HoldsTo s c m x → b ≡ holds m c → v ≡ set_at s (136 + 2 * m)
    → ((j : ℕ) → in_set z j ≡ (b and in_set v j)) → ((j : ℕ) → in_set y j ≡ (in_set x j or in_set z j)) → HoldsTo s c (m + 1) y
unfolding holds_by any_below
holds_more {s} {c} {m} {x} {y} b v z h e f g o =
    let k : 136 + 2 * m ≡ 0 + 2 * (CLASSES + m) = omega arith in
    record {
      is = λ j. o j ∙ ap₂ ◌or◌ (h.is j) (g j ∙ ap₂ (λ (u : Bool) (d : Set). u and in_set d j) e (f ∙ ap (set_at s) k)) ∙ sym (ap (λ (i : ℕ). any_below i (holds_by s c j)) (add-one m));
    }

and_swap : (a b : Bool) → (a and b) ≡ (b and a)
unfolding ◌and◌
and_swap true true = refl
and_swap true false = refl
and_swap false true = refl
and_swap false false = refl

or_first : (a b : Bool) → a ≡ false → (a or b) ≡ b
unfolding ◌or◌
or_first a b e = rw e refl

meets_zero : (c : ℕ) → meets 0 c ≡ false
unfolding meets
meets_zero c = ap (λ (k : ℕ). not (eqb k 0)) (and_zero c)

plain_access : (r : Row) → plain r ≡ true → access r ≡ true
unfolding plain access
plain_access r e = let l = leb-true r.kind 1 e in le-leb r.kind 4 (omega arith)

told_rows : {t : Table} {n : ℕ} {ends : Set} → Told t n ends → Rows n (in_set ends) ends
told_rows {t} {n} {ends} told =
    record { is = λ j. sym (bool_ext (ltb j n and in_set ends j) (in_set ends j) (λ e. (split e).1) (λ e. and_true (lt-ltb j n (told.rows j e)) e)) }

module _ {t : Table} {n : ℕ} {s : List ℕ} (o : Opened t n s) where
  coded_classes : (j : ℕ) → j < n → (t.row j).classes < 16
  coded_classes j l = (o.fit.coded j (there o j l)).classes

  of_classes : (j m : ℕ) → m < 16 → in_set (nth s 0 (CLASSES + m)) j ≡ (ltb j n and eqb (t.row j).classes m)
  of_classes j m l = (says_classes o.known.tested.ground m l).is j

  pub holds_rows : (c : ℕ) (x : Set) → HoldsTo s c 16 x → Rows n (holds_all t c) x
  unfolding holds_by holds_all
  holds_rows c x e = record { is = λ j. e.is j ∙ bool_ext _ _ (out j) (back j) }
    where
      out : (j : ℕ) → any_below 16 (holds_by s c j) ≡ true → (ltb j n and holds (t.row j).classes c) ≡ true
      out j v =
          let r = any_out (holds_by s c j) 16 v in
          let p = split r.2 in
          let q = split (sym (of_classes j r.0 r.1) ∙ p.1) in
          and_true q.0 (ap (λ (m : ℕ). holds m c) (eqb-true (t.row j).classes r.0 q.1) ∙ p.0)

      back : (j : ℕ) → (ltb j n and holds (t.row j).classes c) ≡ true → any_below 16 (holds_by s c j) ≡ true
      back j v =
          let p = split v in
          let k = coded_classes j (ltb-true j n p.0) in
          any_in (holds_by s c j) 16 (t.row j).classes k (and_true p.1 (of_classes j (t.row j).classes k ∙ and_true p.0 (eq-eqb (t.row j).classes (t.row j).classes refl)))

  -- plain rows hold none
  holder_all : (c j : ℕ) → 0 < c → j < n → holds_all t c j ≡ holder t c j
  unfolding holds_all
  holder_all c j l m = sym (holder_is t c j ∙ go (which (plain (t.row j))))
    where
      go : (plain (t.row j) ≡ true) ⊎ (plain (t.row j) ≡ false) → (not (plain (t.row j)) and holds (t.row j).classes c) ≡ holds (t.row j).classes c
      go (inl p) =
          and_false_left (not (plain (t.row j))) _ (ap not p) ∙ sym (ap (λ (k : ℕ). holds k c) (o.fit.bare j (there o j m) p) ∙ none_holds c l)
      go (inr p) = and_on (not (plain (t.row j))) _ (ap not p)

  -- ---- laws: rows that have a class of it

  pub meets_begin : (c : ℕ) (y : Set) → MeetsTo s c y 0 y
  meets_begin c y = record { is = λ j. sym (or_off (in_set y j) _ (any_none (meets_by s c j))) }

  pub meets_more : {c q : ℕ} {y x z : Set} (b : Bool) (v u : Set) → MeetsTo s c y q x → b ≡ meets c (single q) → v ≡ set_at s (HOLDING + 2 * q)
      → ((j : ℕ) → in_set u j ≡ (b and in_set v j)) → ((j : ℕ) → in_set z j ≡ (in_set x j or in_set u j)) → MeetsTo s c y (q + 1) z
  unfolding meets_by any_below
  meets_more {c} {q} {y} {x} {z} b v u h e f g k =
      record {
        is = λ j.
            k j ∙ ap₂ ◌or◌ (h.is j) (g j ∙ ap₂ (λ (a : Bool) (d : Set). a and in_set d j) e f) ∙ or_assoc (in_set y j) (any_below q (meets_by s c j)) (meets_by s c j q)
            ∙ sym (ap (λ (i : ℕ). in_set y j or any_below i (meets_by s c j)) (add-one q));
      }

  pub meets_rows : (c : ℕ) (own p y x : Set) → c < 16 → Rows n (classed_in t c) own → p ≡ set_at s PLAIN → ((j : ℕ) → in_set y j ≡ (in_set own j and in_set p j)) → MeetsTo s c y 4 x
      → Rows n (meets_some t c) x
  unfolding classed_in meets_by meets_some common holds_class
  meets_rows c own p y x low h e f g = record { is = λ j. g.is j ∙ bool_ext _ _ (λ v. ⊎_elim (old j) (new j) (or_cases _ _ v)) (back j) }
    where
      plains : Rows n (λ j. plain (t.row j)) p
      plains = rows_at e (says_rows o.known.sorted.plain)

      ys : Rows n (λ j. (access (t.row j) and class_in (t.row j) c) and plain (t.row j)) y
      ys = rows_and h plains f

      held : (j q : ℕ) → q < 4 → in_set (nth s HOLDING q) j ≡ (ltb j n and meets (t.row j).classes (single q))
      held j q l = (o.known.sorted.holding q l).is j

      old : (j : ℕ) → in_set y j ≡ true → (ltb j n and meets (classes_of (t.row j)) c) ≡ true
      old j v =
          let a = split (sym (ys.is j) ∙ v) in
          let b = split a.1 in
          and_true a.0 (classes_plain (t.row j) c b.1 ∙ (split b.0).1)

      new : (j : ℕ) → any_below 4 (meets_by s c j) ≡ true → (ltb j n and meets (classes_of (t.row j)) c) ≡ true
      new j v =
          let r = any_out (meets_by s c j) 4 v in
          let a = split r.2 in
          let b = split (sym (held j r.0 r.1) ∙ a.1) in
          let l = ltb-true j n b.0 in
          let m : meets (t.row j).classes c ≡ true = common_is (t.row j).classes c (coded_classes j l) low ∙ any_in (common (t.row j).classes c) 4 r.0 r.1 (and_true b.1 a.0) in
          and_true b.0 (classes_wide (t.row j) c (not_plain j l m) ∙ m)
        where
          not_plain : (j : ℕ) → j < n → meets (t.row j).classes c ≡ true → plain (t.row j) ≡ false
          not_plain j l m = not_so (plain (t.row j)) (λ q. not_both m (ap (λ (k : ℕ). meets k c) (o.fit.bare j (there o j l) q) ∙ meets_zero c))

      back : (j : ℕ) → (ltb j n and meets (classes_of (t.row j)) c) ≡ true → (in_set y j or any_below 4 (meets_by s c j)) ≡ true
      back j v = let a = split v in go (ltb-true j n a.0) a.0 a.1 (which (plain (t.row j)))
        where
          go : j < n → ltb j n ≡ true → meets (classes_of (t.row j)) c ≡ true → (plain (t.row j) ≡ true) ⊎ (plain (t.row j) ≡ false)
              → (in_set y j or any_below 4 (meets_by s c j)) ≡ true
          go l a m (inl q) = or_left _ (ys.is j ∙ and_true a (and_true (and_true (plain_access (t.row j) q) (sym (classes_plain (t.row j) c q) ∙ m)) q))
          go l a m (inr q) =
              let k = coded_classes j l in
              let r = any_out (common (t.row j).classes c) 4 (sym (common_is (t.row j).classes c k low) ∙ sym (classes_wide (t.row j) c q) ∙ m) in
              let b = split r.2 in
              or_right _ (any_in (meets_by s c j) 4 r.0 r.1 (and_true b.1 (held j r.0 r.1 ∙ and_true a b.0)))

  -- ---- laws: what a class set concerns

  pub concerns_rows : (c : ℕ) (ends holds meets rel acq re ac ra nodes own at av vi available visible : Set) → 0 < c → Told t n ends → HoldsTo s c 16 holds → Rows n (meets_some t c) meets
      → rel ≡ set_at s RELEASES → ((j : ℕ) → in_set re j ≡ (in_set holds j and in_set rel j)) → acq ≡ set_at s ACQUIRES → ((j : ℕ) → in_set ac j ≡ (in_set holds j and in_set acq j))
      → ((j : ℕ) → in_set ra j ≡ (in_set re j or in_set ac j)) → ((j : ℕ) → in_set nodes j ≡ (in_set ra j or in_set ends j)) → Rows n (classed_in t c) own
      → ((j : ℕ) → in_set at j ≡ (in_set own j or in_set holds j)) → av ≡ set_at s AVAILABLE → ((j : ℕ) → in_set available j ≡ (in_set meets j and in_set av j))
      → vi ≡ set_at s VISIBLE → ((j : ℕ) → in_set visible j ≡ (in_set meets j and in_set vi j))
      → Concerns t n c ends (record { nodes = nodes; releases = re; acquires = ac; at = at; available = available; visible = visible })
  unfolding releaser acquirer node takes_part available_for visible_for classed_in meets_some
  concerns_rows c ends holds meets rel acq re ac ra nodes own at av vi available visible low told h m er e_re ea e_ac e_ra e_nodes mine e_at ev e_av ei e_vi =
      record {
        nodes = rows_or (rows_or releasing acquiring e_ra) (told_rows told) e_nodes;
        releases = releasing;
        acquires = acquiring;
        at = rows_or mine holders e_at;
        available = rows_cong (λ j l. and_swap _ _ ∙ ap (λ (b : Bool). b and Row.meets (classes_of (t.row j)) c) (sym (available_is t j))) (rows_and m (rows_at ev (says_rows o.known.tested.marked.available)) e_av);
        visible = rows_cong (λ j l. and_swap _ _ ∙ ap (λ (b : Bool). b and Row.meets (classes_of (t.row j)) c) (sym (visible_is t j))) (rows_and m (rows_at ei (says_rows o.known.tested.marked.visible)) e_vi);
      }
    where
      holders : Rows n (holder t c) holds
      holders = rows_cong (λ j l. holder_all c j low l) (holds_rows c holds h)

      releasing : Rows n (releaser t c) re
      releasing = rows_and holders (rows_at er (says_rows o.known.tested.orders.releases)) e_re

      acquiring : Rows n (acquirer t c) ac
      acquiring = rows_and holders (rows_at ea (says_rows o.known.tested.orders.acquires)) e_ac

  -- nothing but dependencies
  pub none_rows : (ends x : Set) → Told t n ends → ((j : ℕ) → in_set x j ≡ false)
      → Concerns t n NONE ends (record { nodes = ends; releases = x; acquires = x; at = x; available = x; visible = x })
  unfolding releaser acquirer node takes_part available_for visible_for class_in
  none_rows ends x told e =
      record {
        nodes = rows_cong (λ j l. sym (or_first _ _ (or_none (no_release j l) (no_acquire j l)))) (told_rows told);
        releases = nothing (λ j l. no_release j l);
        acquires = nothing (λ j l. no_acquire j l);
        at = nothing (λ j l. or_none (and_false_right (access (t.row j)) _ (none_is (single (t.row j).class) (single_low (t.row j).class)).1) (no_holder j l));
        available = nothing (λ j l. and_false_right _ _ (none_is (classes_of (t.row j)) (classes_low (t.row j) (coded_classes j l))).0);
        visible = nothing (λ j l. and_false_right _ _ (none_is (classes_of (t.row j)) (classes_low (t.row j) (coded_classes j l))).0);
      }
    where
      no_holder : (j : ℕ) → j < n → holder t 16 j ≡ false
      no_holder j l = holder_is t 16 j ∙ and_false_right _ _ (none_is (t.row j).classes (coded_classes j l)).2

      no_release : (j : ℕ) → j < n → (holder t 16 j and releases (t.row j)) ≡ false
      no_release j l = and_false_left (holder t 16 j) _ (no_holder j l)

      no_acquire : (j : ℕ) → j < n → (holder t 16 j and acquires (t.row j)) ≡ false
      no_acquire j l = and_false_left (holder t 16 j) _ (no_holder j l)

      nothing : {p : ℕ → Bool} → ((j : ℕ) → j < n → p j ≡ false) → Rows n p x
      nothing f = rows_cong (λ j l. sym (f j l)) (rows_none e)
