-- Which class sets are asked. Assumes nothing.
use Rattle.std.specs.Prelude.{◌≡◌, refl, Bool, false, cond, ◌&&◌, List, ◌⊎◌, eqb, ltb}
use Rattle.std.proofs.Common.{sym, ap, ap₂, ◌∙◌, inl, inr, add-one, eqb-true, eq-eqb, ltb-true, lt-ltb}
use Rattle.std.proofs.Math.Bool.{true}
use Rattle.std.specs.Bool.{beq}
use Prim.Native.Nat.{ℕ, zero, suc, ◌+◌, ◌*◌, ◌≤◌, ◌<◌}
use native.Mathlib.Omega.{arith}
use Rattle.std.specs.Int.Bits.{bit_and, and_self}
use Rattle.std.proofs.lemmas.Nat.{and_comm, and_le_l}
use Rattle.finite.specs.Logic.{◌and◌, bool_ext, split, and_true, and_both, and_false_left, not_both}
use Rattle.finite.specs.Below.{any_below, any_in, any_out, any_not, all_below, all_out, below_cases, least, least_is}
use Rattle.model.specs.Limits.{ROWS}
use Rattle.model.specs.Row.{holds}
use Rattle.model.specs.Synchronizes.{synchronizes}
use Rattle.model.specs.Table.{Table}
use Rattle.model_hubs.specs.Wider.{less_by, shared_by}
use Rattle.sets_of_rows.specs.declared.Set.{Set}
use Rattle.sets_of_rows.specs.Member.{in_set}
use Rattle.sets_of_rows.specs.Kept.{set_at}
use Rattle.sets_of_rows.specs.Family.{nth}
use Rattle.sets_of_rows.specs.Rows.{Rows}
use Rattle.sets_of_table.specs.Filed.{CLASSES}
use Rattle.sets_of_table.specs.Says.{says_classes}
use Rattle.sets_of_table.specs.Known.{Opened}
use Rattle.sets_of_table.specs.Ask.{few}
use Rattle.sets_grids.specs.declared.Concerned.{Concerned}

-- ---- definitions

-- the classes that all holders of c have are c's alone
unfoldable pub widest : Table → ℕ → Bool
widest t c = eqb (shared_by t c t.rows) c

-- some row has the m-th set of classes, which holds all of c
unfoldable pub has_set : List ℕ → ℕ → ℕ → Bool
has_set s c m = holds m c and any_below ROWS (in_set (nth s 0 (CLASSES + m)))

-- the classes that these have in common, of the first m sets of classes
unfoldable pub common_to : List ℕ → ℕ → ℕ → ℕ
common_to s c zero = 15
common_to s c (suc m) = cond (has_set s c m) (bit_and (common_to s c m) m) (common_to s c m)

-- a release row of the class set synchronizes-with an acquire row of it
unfoldable pub synced_to : Table → Set → ℕ → ℕ → Bool
synced_to t acquires a b = synchronizes t a b and in_set acquires b

unfoldable pub synced_from : Table → ℕ → Concerned → ℕ → Bool
synced_from t n k a = in_set k.releases a and any_below n (synced_to t k.acquires a)

unfoldable pub synced_by : Table → ℕ → Concerned → Bool
synced_by t n k = any_below n (synced_from t n k)

-- ---- laws: what holders have in common

pub common_none : (s : List ℕ) (c : ℕ) → 15 ≡ common_to s c 0
unfolding common_to
common_none s c = refl

pub common_more : (s : List ℕ) (c m x y : ℕ) (a b : Bool) (v : Set) → x ≡ common_to s c m → a ≡ holds m c → v ≡ set_at s (136 + 2 * m) → b ≡ any_below ROWS (in_set v)
    → y ≡ cond (a && b) (bit_and x m) x → y ≡ common_to s c (m + 1)
unfolding common_to has_set
common_more s c m x y a b v e f g h k =
    let i : 136 + 2 * m ≡ 0 + 2 * (CLASSES + m) = omega arith in
    let w : (a && b) ≡ (holds m c and any_below ROWS (in_set (nth s 0 (CLASSES + m)))) = and_both a b ∙ ap₂ ◌and◌ f (h ∙ ap (λ (z : Set). any_below ROWS (in_set z)) (g ∙ ap (set_at s) i)) in
    k ∙ ap₂ (λ (d : Bool) (z : ℕ). cond d (bit_and z m) z) w e ∙ sym (ap (common_to s c) (add-one m))

-- lower sets of classes, counted out
beq_true : (a b : Bool) → beq a b ≡ true → a ≡ b
beq_true true true e = refl
beq_true true false e = sym e
beq_true false true e = e
beq_true false false e = refl

both_all : all_below 16 (λ a. all_below 16 (λ b. all_below 16 (λ y. beq (holds (bit_and a b) y) (holds a y and holds b y)))) ≡ true
unfolding all_below ◌and◌ holds
both_all = refl

holds_both : (a b y : ℕ) → a < 16 → b < 16 → y < 16 → holds (bit_and a b) y ≡ (holds a y and holds b y)
holds_both a b y l m n =
    beq_true _ _
    (all_out (λ y. beq (holds (bit_and a b) y) (holds a y and holds b y)) 16
    (all_out (λ b. all_below 16 (λ y. beq (holds (bit_and a b) y) (holds a y and holds b y))) 16
    (all_out (λ a. all_below 16 (λ b. all_below 16 (λ y. beq (holds (bit_and a b) y) (holds a y and holds b y)))) 16 both_all a l) b m) y n)

top_all : all_below 16 (λ y. holds 15 y) ≡ true
unfolding all_below ◌and◌ holds
top_all = refl

holds_self : (y : ℕ) → holds y y ≡ true
unfolding holds
holds_self y = eq-eqb (bit_and y y) y (and_self y)

holds_eq : (a b : ℕ) → holds a b ≡ true → holds b a ≡ true → a ≡ b
unfolding holds
holds_eq a b e f = sym (eqb-true (bit_and b a) a f) ∙ and_comm b a ∙ eqb-true (bit_and a b) b e

-- one that is made smaller, where a test passes
less_low : (d : Bool) (x m : ℕ) → x < 16 → cond d (bit_and x m) x < 16
less_low true x m l = let e = and_le_l x m in omega arith
less_low false x m l = l

less_in : (d : Bool) (x m y : ℕ) → x < 16 → m < 16 → y < 16 → holds x y ≡ true → (d ≡ true → holds m y ≡ true) → holds (cond d (bit_and x m) x) y ≡ true
less_in true x m y l n o e f = holds_both x m y l n o ∙ and_true e (f refl)
less_in false x m y l n o e f = e

less_out : (d : Bool) (x m y : ℕ) → x < 16 → m < 16 → y < 16 → holds (cond d (bit_and x m) x) y ≡ true → (holds x y ≡ true) × (d ≡ true → holds m y ≡ true)
less_out true x m y l n o e = let k = split (sym (holds_both x m y l n o) ∙ e) in (k.0, λ g. k.1)
less_out false x m y l n o e = (e, λ g. not_both g refl)

module _ (s : List ℕ) (c : ℕ) where
  common_low : (m : ℕ) → common_to s c m < 16
  unfolding common_to
  common_low zero = omega arith
  common_low (suc m) = less_low (has_set s c m) (common_to s c m) m (common_low m)

  common_in : (m y : ℕ) → m ≤ 16 → y < 16 → ((k : ℕ) → k < m → has_set s c k ≡ true → holds k y ≡ true) → holds (common_to s c m) y ≡ true
  unfolding common_to
  common_in zero y l o f = all_out (λ y. holds 15 y) 16 top_all y o
  common_in (suc m) y l o f =
      less_in (has_set s c m) (common_to s c m) m y (common_low m) (omega arith) o (common_in m y (omega arith) o (λ k h g. f k (omega arith) g)) (λ g. f m (omega arith) g)

  common_out : (m y : ℕ) → m ≤ 16 → y < 16 → holds (common_to s c m) y ≡ true → (k : ℕ) → k < m → has_set s c k ≡ true → holds k y ≡ true
  unfolding common_to
  common_out zero y l o e k h g = absurd (omega arith)
  common_out (suc m) y l o e k h g = go (λ v. common_out m y (omega arith) o v k) (below_cases h)
    where
      r : (holds (common_to s c m) y ≡ true) × (has_set s c m ≡ true → holds m y ≡ true)
      r = less_out (has_set s c m) (common_to s c m) m y (common_low m) (omega arith) o e

      go : (holds (common_to s c m) y ≡ true → k < m → has_set s c k ≡ true → holds k y ≡ true) → (k ≡ m) ⊎ (k < m) → holds k y ≡ true
      go f (inl q) = ap (λ (i : ℕ). holds i y) q ∙ r.1 (sym (ap (has_set s c) q) ∙ g)
      go f (inr q) = f r.0 q g

module _ (t : Table) (c : ℕ) where
  shared_low : (m : ℕ) → shared_by t c m < 16
  unfolding shared_by less_by
  shared_low zero = omega arith
  shared_low (suc m) = less_low (holds (t.row m).classes c) (shared_by t c m) (t.row m).classes (shared_low m)

  module _ (coded : (i : ℕ) → i < t.rows → (t.row i).classes < 16) where
    shared_in : (m y : ℕ) → m ≤ t.rows → y < 16 → ((i : ℕ) → i < m → holds (t.row i).classes c ≡ true → holds (t.row i).classes y ≡ true) → holds (shared_by t c m) y ≡ true
    unfolding shared_by less_by
    shared_in zero y l o f = all_out (λ y. holds 15 y) 16 top_all y o
    shared_in (suc m) y l o f =
        less_in (holds (t.row m).classes c) (shared_by t c m) (t.row m).classes y (shared_low m) (coded m (omega arith)) o (shared_in m y (omega arith) o (λ k h g. f k (omega arith) g))
        (λ g. f m (omega arith) g)

    shared_out : (m y : ℕ) → m ≤ t.rows → y < 16 → holds (shared_by t c m) y ≡ true → (i : ℕ) → i < m → holds (t.row i).classes c ≡ true → holds (t.row i).classes y ≡ true
    unfolding shared_by less_by
    shared_out zero y l o e k h g = absurd (omega arith)
    shared_out (suc m) y l o e k h g = go (λ v. shared_out m y (omega arith) o v k) (below_cases h)
      where
        r : (holds (shared_by t c m) y ≡ true) × (holds (t.row m).classes c ≡ true → holds (t.row m).classes y ≡ true)
        r = less_out (holds (t.row m).classes c) (shared_by t c m) (t.row m).classes y (shared_low m) (coded m (omega arith)) o e

        go : (holds (shared_by t c m) y ≡ true → k < m → holds (t.row k).classes c ≡ true → holds (t.row k).classes y ≡ true) → (k ≡ m) ⊎ (k < m) → holds (t.row k).classes y ≡ true
        go f (inl q) = ap (λ (i : ℕ). holds (t.row i).classes y) q ∙ r.1 (sym (ap (λ (i : ℕ). holds (t.row i).classes c) q) ∙ g)
        go f (inr q) = f r.0 q g

pub widest_is : {t : Table} {n : ℕ} {s : List ℕ} → Opened t n s → (c x : ℕ) → x ≡ common_to s c 16 → eqb x c ≡ widest t c
unfolding widest has_set
widest_is {t} {n} {s} o c x e = ap (λ (k : ℕ). eqb k c) (e ∙ holds_eq (common_to s c 16) (shared_by t c t.rows) down up)
  where
    rows_are : t.rows ≡ n
    rows_are = o.rows

    low : n ≤ ROWS
    low = few o

    coded : (i : ℕ) → i < t.rows → (t.row i).classes < 16
    coded i l = (o.fit.coded i l).classes

    of : (j m : ℕ) → m < 16 → in_set (nth s 0 (CLASSES + m)) j ≡ (ltb j n and eqb (t.row j).classes m)
    of j m l = (says_classes o.known.tested.ground m l).is j

    down : holds (common_to s c 16) (shared_by t c t.rows) ≡ true
    down = common_in s c 16 (shared_by t c t.rows) (omega arith) (shared_low t c t.rows) each
      where
        each : (k : ℕ) → k < 16 → (holds k c and any_below ROWS (in_set (nth s 0 (CLASSES + k)))) ≡ true → holds k (shared_by t c t.rows) ≡ true
        each k l g =
            let a = split g in
            let r = any_out (in_set (nth s 0 (CLASSES + k))) ROWS a.1 in
            let b = split (sym (of r.0 k l) ∙ r.2) in
            let i = ltb-true r.0 n b.0 in
            let q = eqb-true (t.row r.0).classes k b.1 in
            sym (ap (λ (z : ℕ). holds z (shared_by t c t.rows)) q)
            ∙ shared_out t c coded t.rows (shared_by t c t.rows) (omega arith) (shared_low t c t.rows) (holds_self (shared_by t c t.rows)) r.0 (omega (arith, rows_are))
            (ap (λ (z : ℕ). holds z c) q ∙ a.0)

    up : holds (shared_by t c t.rows) (common_to s c 16) ≡ true
    up = shared_in t c coded t.rows (common_to s c 16) (omega arith) (common_low s c 16) each
      where
        each : (i : ℕ) → i < t.rows → holds (t.row i).classes c ≡ true → holds (t.row i).classes (common_to s c 16) ≡ true
        each i l g =
            common_out s c 16 (common_to s c 16) (omega arith) (common_low s c 16) (holds_self (common_to s c 16)) (t.row i).classes (coded i l)
            (and_true g (any_in (in_set (nth s 0 (CLASSES + (t.row i).classes))) ROWS i (omega (arith, rows_are, low))
            (of i (t.row i).classes (coded i l) ∙ and_true (lt-ltb i n (omega (arith, rows_are))) (eq-eqb (t.row i).classes (t.row i).classes refl))))

-- ---- laws: whether any row synchronizes-with another

pub synced_off : (t : Table) (n : ℕ) (k : Concerned) (i : ℕ) → in_set k.releases i ≡ false → synced_from t n k i ≡ false
unfolding synced_from
synced_off t n k i e = and_false_left (in_set k.releases i) _ e

pub synced_at : (t : Table) (n : ℕ) (k : Concerned) (a : ℕ) (g z : Set) (b : Bool) → n ≤ ROWS → in_set k.releases a ≡ true → Rows n (synchronizes t a) g
    → ((j : ℕ) → in_set z j ≡ (in_set g j and in_set k.acquires j)) → b ≡ any_below ROWS (in_set z) → b ≡ synced_from t n k a
unfolding synced_from synced_to
synced_at t n k a g z b low i h e f = f ∙ bool_ext _ _ out back
  where
    out : any_below ROWS (in_set z) ≡ true → (in_set k.releases a and any_below n (synced_to t k.acquires a)) ≡ true
    out v =
        let r = any_out (in_set z) ROWS v in
        let p = split (sym (e r.0) ∙ r.2) in
        let q = split (sym (h.is r.0) ∙ p.0) in
        and_true i (any_in (synced_to t k.acquires a) n r.0 (ltb-true r.0 n q.0) (and_true q.1 p.1))

    back : (in_set k.releases a and any_below n (synced_to t k.acquires a)) ≡ true → any_below ROWS (in_set z) ≡ true
    back v =
        let r = any_out (synced_to t k.acquires a) n (split v).1 in
        let p = split r.2 in
        let l = r.1 in
        any_in (in_set z) ROWS r.0 (omega arith) (e r.0 ∙ and_true (h.is r.0 ∙ and_true (lt-ltb r.0 n l) p.0) p.1)

pub synced_found : (t : Table) (n : ℕ) (k : Concerned) (a : ℕ) → a < n → synced_from t n k a ≡ true → true ≡ synced_by t n k
unfolding synced_by
synced_found t n k a l e = sym (any_in (synced_from t n k) n a l e)

pub synced_end : (t : Table) (n : ℕ) (k : Concerned) → n ≤ ROWS → ROWS ≡ least ROWS (synced_from t n k) → false ≡ synced_by t n k
unfolding synced_by
synced_end t n k low e = sym (any_not (synced_from t n k) n (λ i l. (least_is (synced_from t n k) ROWS).miss i (omega (arith, e))))

-- ---- laws: a set of classes that another is taken from, or not

pub taken_on : (b : Bool) (x y : ℕ) → b ≡ true → bit_and x y ≡ cond b (bit_and x y) x
taken_on b x y e = rw e refl

pub taken_off : (b : Bool) (x y : ℕ) → b ≡ false → x ≡ cond b (bit_and x y) x
taken_off b x y e = rw e refl
