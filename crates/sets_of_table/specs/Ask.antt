-- What sets that go by a row hold, from what every set holds. Assumes nothing.
use Rattle.std.specs.Prelude.{◌≡◌, refl, Bool, true, false, not, List, ℕ, ◌+◌, ◌*◌, ◌≤◌, ◌<◌, ltb, leb}
use Rattle.std.proofs.Common.{sym, ap₂, ◌∙◌, add-one, lt-ltb, le-ltb, le-leb, eqb-true, eq-eqb, ltb-true}
use Rattle.std.proofs.Math.Path.{ap}
use native.Mathlib.Omega.{arith}
use Rattle.std.proofs.Math.Decide.{dec_lt}
use Rattle.std.proofs.Math.Dec.{eqb}
use Rattle.std.proofs.lemmas.Bool.{lt-leb}
use Rattle.finite.specs.Logic.{◌and◌, ◌or◌, and_on_right, bool_ext, split, and_true}
use Rattle.finite.specs.Below.{any_below, any_none, any_in, any_out}
use Rattle.model.specs.Limits.{ROWS}
use Rattle.model.specs.Row.{access, meets, single, class_in}
use Rattle.model.specs.Scope.{together}
use Rattle.model.specs.Moment.{same_agent}
use Rattle.model.specs.Table.{Table}
use Rattle.model_laws.specs.PairLaws.{eqb_swap}
use Rattle.model_closing.specs.Order.{later_row, from_row}
use Rattle.model_placing.specs.Shares.{share, hears}
use Rattle.sets_of_rows.specs.declared.Set.{Set}
use Rattle.sets_of_rows.specs.Member.{in_set}
use Rattle.sets_of_rows.specs.Kept.{set_at}
use Rattle.sets_of_rows.specs.Family.{nth}
use Rattle.sets_of_rows.specs.Rows.{Rows, rows_at, rows_cong, rows_cut, rows_and}
use Rattle.sets_of_table.specs.Filed.{AGENT}
use Rattle.sets_of_table.specs.Says.{says_agent}
use Rattle.sets_of_table.specs.Share.{SCOPES, SHARE}
use Rattle.sets_of_table.specs.Sorted.{CLASSED, of_class}
use Rattle.sets_of_table.specs.Hears.{HEARS}
use Rattle.sets_of_table.specs.Known.{Opened, at_together, classed_in, says_rows}

-- ---- definitions

-- row j is in the set of accesses of class q, and q is in m
unfoldable pub classed_by : List ℕ → ℕ → ℕ → ℕ → Bool
classed_by s m j q = meets m (single q) and in_set (nth s CLASSED q) j

-- x has the rows that are, of the classes below k
pub record ClassedTo (s : List ℕ) (m k : ℕ) (x : Set) : Type 0 where
  pub is : (j : ℕ) → in_set x j ≡ any_below k (classed_by s m j)

-- ---- laws

and_swap : (a b : Bool) → (a and b) ≡ (b and a)
unfolding ◌and◌
and_swap true true = refl
and_swap true false = refl
and_swap false true = refl
and_swap false false = refl

not_before_lem : (i j : ℕ) → not (ltb j i) ≡ leb i j
not_before_lem i j = go (dec_lt j i)
  where
    go : Dec (j < i) → not (ltb j i) ≡ leb i j
    go (yes l) = ap not (lt-ltb j i l) ∙ sym (lt-leb i j l)
    go (no l) = ap not (le-ltb j i (omega arith)) ∙ sym (le-leb i j (omega arith))

-- the rows of a set behind row i, and those with row i
pub behind : {n : ℕ} {p : ℕ → Bool} (i : ℕ) {a : Set} (b z : Set) → n ≤ ROWS → Rows n p a → ((j : ℕ) → in_set b j ≡ (ltb i j and ltb j ROWS))
    → ((j : ℕ) → in_set z j ≡ (in_set a j and in_set b j)) → Rows n (λ j. ltb i j and p j) z
behind {n} {p} i {a} b z few h e f =
    rows_cong (λ j l. ap (λ (c : Bool). p j and c) (e j ∙ and_on_right (ltb i j) (ltb j ROWS) (lt-ltb j ROWS (omega arith))) ∙ and_swap (p j) (ltb i j))
    (rows_cut (in_set b) h f)

pub from : {n : ℕ} {p : ℕ → Bool} (i : ℕ) {a : Set} (b z : Set) → Rows n p a → ((j : ℕ) → in_set b j ≡ ltb j i)
    → ((j : ℕ) → in_set z j ≡ (in_set a j and not (in_set b j))) → Rows n (λ j. leb i j and p j) z
from {n} {p} i {a} b z h e f =
    rows_cong (λ j l. ap (λ (c : Bool). p j and c) (ap not (e j) ∙ not_before_lem i j) ∙ and_swap (p j) (leb i j)) (rows_cut (λ j. not (in_set b j)) h f)

module _ {t : Table} {n : ℕ} {s : List ℕ} (o : Opened t n s) where
  pub there : (i : ℕ) → i < n → i < t.rows
  there i l = let e = o.rows in omega arith

  pub few : n ≤ ROWS
  few = let e = o.rows in let f = o.fit.few in omega arith

  pub agent_low : (i : ℕ) → i < n → (t.row i).agent < 32
  agent_low i l = (o.fit.coded i (there i l)).agent

  pub scope_low : (i : ℕ) → i < n → (t.row i).scope < SCOPES
  scope_low i l = let f = o.fit.scoped i (there i l) in omega arith

  pub agent_rows : (i k : ℕ) (x : Set) → i < n → k ≡ (t.row i).agent → x ≡ set_at s (32 + 2 * k) → Rows n (same_agent t i) x
  unfolding same_agent
  agent_rows i k x l e f =
      rows_at (f ∙ ap (set_at s) (let q : 32 + 2 * k ≡ 0 + 2 * (AGENT + (t.row i).agent) = omega arith in q))
      (rows_cong (λ j m. eqb_swap (t.row j).agent (t.row i).agent) (says_rows (says_agent o.known.tested.ground (t.row i).agent (agent_low i l))))

  pub after_rows : (i : ℕ) (a b z : Set) → Rows n (same_agent t i) a → ((j : ℕ) → in_set b j ≡ (ltb i j and ltb j ROWS))
      → ((j : ℕ) → in_set z j ≡ (in_set a j and in_set b j)) → Rows n (later_row t i) z
  unfolding later_row
  after_rows i a b z h e f = behind i b z few h e f

  pub onward_rows : (i : ℕ) (a b z : Set) → Rows n (same_agent t i) a → ((j : ℕ) → in_set b j ≡ ltb j i)
      → ((j : ℕ) → in_set z j ≡ (in_set a j and not (in_set b j))) → Rows n (from_row t i) z
  unfolding from_row
  onward_rows i a b z h e f = from i b z h e f

  pub sharing_rows : (i q k : ℕ) (x : Set) → i < n → q < SCOPES → k ≡ (t.row i).agent → x ≡ set_at s (SHARE + 10 * k + 2 * q) → Rows n (share t (t.row i).agent q) x
  sharing_rows i q k x l m e f = rows_at (f ∙ ap (λ (z : ℕ). set_at s (SHARE + 10 * z + 2 * q)) e) (o.known.share i q l m)

  pub hears_rows : (i k : ℕ) (x : Set) → i < n → k ≡ (t.row i).agent → x ≡ set_at s (HEARS + 2 * k) → Rows n (hears t (t.row i).agent) x
  hears_rows i k x l e f = rows_at (f ∙ ap (λ (z : ℕ). set_at s (HEARS + 2 * z)) e) (o.known.hears i l)

  pub together_rows : (i : ℕ) (a b z : Set) → Rows n (share t (t.row i).agent (t.row i).scope) a → Rows n (hears t (t.row i).agent) b
      → ((j : ℕ) → in_set z j ≡ (in_set a j and in_set b j)) → Rows n (at_together t i) z
  unfolding at_together together share hears
  together_rows i a b z h g f = rows_and h g f

  pub classed_rows : (m : ℕ) (x : Set) → ClassedTo s m 4 x → Rows n (classed_in t m) x
  unfolding classed_in class_in classed_by of_class
  classed_rows m x h = record { is = λ j. h.is j ∙ bool_ext _ _ (out j) (back j) }
    where
      of : (j q : ℕ) → q < 4 → in_set (nth s CLASSED q) j ≡ (ltb j n and (access (t.row j) and eqb (t.row j).class q))
      of j q l = (o.known.sorted.classed q l).is j

      out : (j : ℕ) → any_below 4 (classed_by s m j) ≡ true → (ltb j n and (access (t.row j) and meets m (single (t.row j).class))) ≡ true
      out j e =
          let r = any_out (classed_by s m j) 4 e in
          let p = split r.2 in
          let a = split (sym (of j r.0 r.1) ∙ p.1) in
          let b = split a.1 in
          and_true a.0 (and_true b.0 (ap (λ (q : ℕ). meets m (single q)) (eqb-true (t.row j).class r.0 b.1) ∙ p.0))

      back : (j : ℕ) → (ltb j n and (access (t.row j) and meets m (single (t.row j).class))) ≡ true → any_below 4 (classed_by s m j) ≡ true
      back j e =
          let a = split e in
          let b = split a.1 in
          let k = o.fit.classed j (there j (ltb-true j n a.0)) b.0 in
          any_in (classed_by s m j) 4 (t.row j).class k
          (and_true b.1 (of j (t.row j).class k ∙ and_true a.0 (and_true b.0 (eq-eqb (t.row j).class (t.row j).class refl))))

pub classed_none : (s : List ℕ) (m : ℕ) (x : Set) → ((j : ℕ) → in_set x j ≡ false) → ClassedTo s m 0 x
classed_none s m x e = record { is = λ j. e j ∙ sym (any_none (classed_by s m j)) }

pub classed_more : {s : List ℕ} {m q : ℕ} {x y : Set} (b : Bool) (v z : Set) → ClassedTo s m q x → b ≡ meets m (single q) → v ≡ nth s CLASSED q
    → ((j : ℕ) → in_set z j ≡ (b and in_set v j)) → ((j : ℕ) → in_set y j ≡ (in_set x j or in_set z j)) → ClassedTo s m (q + 1) y
unfolding classed_by any_below
classed_more {s} {m} {q} {x} {y} b v z h e f g k =
    record {
      is = λ j. k j ∙ ap₂ ◌or◌ (h.is j) (g j ∙ ap₂ (λ (c : Bool) (d : Set). c and in_set d j) e f) ∙ sym (ap (λ (z : ℕ). any_below z (classed_by s m j)) (add-one q));
    }
