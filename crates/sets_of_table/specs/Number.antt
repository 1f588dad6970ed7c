-- Numbers for what rows have in common: members of a set have one number exactly where they have one key. Assumes nothing.
use Rattle.std.specs.Prelude.{◌≡◌, refl, Bool, true, false, cond, List, ℕ, ◌+◌, ◌*◌, ◌≤◌, ◌<◌, length, get_or, set, eqb}
use Rattle.std.proofs.Common.{sym, ap, subst, ◌∙◌, arith, length-set, get_or-set_same, get_or-set_other, eqb-true, eq-eqb}
use Rattle.std.proofs.Math.Decide.{dec_lt, ℕ_discrete}
use Rattle.std.proofs.lemmas.Bool.{eqb-false}
use Rattle.finite.specs.Logic.{not_both, and_true}
use Rattle.std.specs.Option.{unwrap_or}
use Rattle.std.specs.Prelude.{MatchOption, take, ◌≢◌}
use Rattle.std.specs.declared.option.Option.{Option}
use Rattle.std.specs.declared.option.Option.TheVariants.{Some, None}
use Rattle.std.specs.List.{AllWithin, HoldsAt}
use lib.Seq.{length-take-le, get_or-take}
use borrow.Author.Tests.{ne_eqb}
use Rattle.finite.specs.Below.{any_below, least, least_is, least_off, least_unique}
use Rattle.model.specs.declared.Row.{Row}
use Rattle.model.specs.Limits.{ROWS}
use Rattle.model.specs.Scope.{same_location}
use Rattle.model.specs.Table.{row_of}
use Rattle.sets_of_rows.specs.declared.Set.{Set}
use Rattle.sets_of_rows.specs.Member.{in_set}
use Rattle.sets_of_rows.specs.First.{First, first_next, Rest, next}
use Rattle.sets_of_rows.specs.Walk.{Walk, walk_begin, walk_turn, walk_end}

-- ---- definitions

-- start, size and reference as one number
unfoldable pub key_of : Row → ℕ
key_of r = r.reference * 16777216 + r.start * 256 + r.size

-- place i of the keys has key k
unfoldable pub key_at : List ℕ → ℕ → ℕ → Bool
key_at keys k i = eqb (get_or keys i 0) k

-- the members of x below m are numbered below l, by their keys
pub record Numbered (key : ℕ → ℕ) (x : Set) (m : ℕ) (keys loc : List ℕ) (l : ℕ) : Type 0 where
  pub few : l ≤ m
  pub low : (r : ℕ) → r < m → in_set x r ≡ true → get_or loc r 0 < l
  pub at : (r : ℕ) → r < m → in_set x r ≡ true → get_or keys (get_or loc r 0) 0 ≡ key r
  pub apart : (a b : ℕ) → a < b → b < l → get_or keys a 0 ≡ get_or keys b 0 → ⊥

-- row i has a place for its number, and number l for its key
pub record Free (i l : ℕ) (keys loc : List ℕ) : Type 0 where
  pub row : i < ROWS
  pub few : l ≤ i
  pub key : i < length keys
  pub number : i < length loc

-- one more number where the last was used
unfoldable pub Grown : ℕ → ℕ → ℕ → Type 0
Grown l f l' = (f < l → l' ≡ l) × (l ≤ f → l' ≡ l + 1)

-- of row i in the bytes b, its location or its reference alone
unfoldable pub key_in : Bool → List ℕ → ℕ → ℕ
key_in whole b i = cond whole (key_of (row_of b i)) (row_of b i).reference

-- row i got the number of key k
pub record Step (i l k : ℕ) (keys loc keys' loc' : List ℕ) (l' : ℕ) : Type 0 where
  pub keys_are : keys' ≡ set keys (least l (key_at keys k)) k
  pub loc_are : loc' ≡ set loc i (least l (key_at keys k))
  pub more : Grown l (least l (key_at keys k)) l'

-- ---- laws

pub numbered_none : (key : ℕ → ℕ) (x : Set) (keys loc : List ℕ) → Numbered key x 0 keys loc 0
numbered_none key x keys loc =
    record { few = omega arith; low = λ r h e. absurd (omega arith); at = λ r h e. absurd (omega arith); apart = λ a b h o e. absurd (omega arith) }

pub numbered_skip : (key : ℕ → ℕ) (x : Set) (keys loc : List ℕ) (l m : ℕ) → in_set x m ≡ false → Numbered key x m keys loc l → Numbered key x (m + 1) keys loc l
numbered_skip key x keys loc l m e n =
    record {
      few = let a = n.few in omega arith;
      low = λ r h t. n.low r (below r h t) t;
      at = λ r h t. n.at r (below r h t) t;
      apart = n.apart;
    }
  where
    below : (r : ℕ) → r < m + 1 → in_set x r ≡ true → r < m
    below r h t = go (ℕ_discrete r m)
      where
        go : Dec (r ≡ m) → r < m
        go (yes q) = not_both t (ap (in_set x) q ∙ e)
        go (no q) = omega arith

pub numbered_more : {key : ℕ → ℕ} {x : Set} {keys loc : List ℕ} {l i : ℕ} (k f l' : ℕ) → Numbered key x i keys loc l → i < length loc → i < length keys → k ≡ key i
    → f ≡ least l (key_at keys k) → Grown l f l' → Numbered key x (i + 1) (set keys f k) (set loc i f) l'
unfolding key_at Grown
numbered_more {key} {x} {keys} {loc} {l} {i} k f l' n a b e q g =
    record {
      few = few' (dec_lt f l);
      low = λ r h t. low' r h t (ℕ_discrete r i);
      at = λ r h t. at' r h t (ℕ_discrete r i);
      apart = λ u v h o t. apart' u v h o t (dec_lt f l);
    }
  where
    max : f ≤ l
    max = let z : least l (key_at keys k) ≤ l = (least_is (key_at keys k) l).bound in omega arith

    few : l ≤ i
    few = n.few

    hit : f < l → get_or keys f 0 ≡ k
    hit h = eqb-true (get_or keys f 0) k (ap (λ (z : ℕ). eqb (get_or keys z 0) k) q ∙ (least_is (key_at keys k) l).hit (let z = q in omega arith))

    miss : (u : ℕ) → u < f → get_or keys u 0 ≡ k → ⊥
    miss u h = eqb-false (get_or keys u 0) k ((least_is (key_at keys k) l).miss u (let z = q in omega arith))

    few' : Dec (f < l) → l' ≤ i + 1
    few' (yes h) = let z = g.0 h in omega (arith, few)
    few' (no h) = let z = g.1 (omega arith) in omega (arith, few)

    grow : Dec (f < l) → (l ≤ l') × (f < l')
    grow (yes h) = let z = g.0 h in (omega arith, omega arith)
    grow (no h) = let z = g.1 (omega arith) in (omega arith, omega (arith, max))

    other : (r : ℕ) → (r ≡ i → ⊥) → get_or (set loc i f) r 0 ≡ get_or loc r 0
    other r d = get_or-set_other loc i r f 0 d

    here : get_or (set loc i f) i 0 ≡ f
    here = get_or-set_same loc i f 0 a

    -- a place that has a key keeps it
    kept : (u : ℕ) → u < l → get_or (set keys f k) u 0 ≡ get_or keys u 0
    kept u h = go (ℕ_discrete u f)
      where
        go : Dec (u ≡ f) → get_or (set keys f k) u 0 ≡ get_or keys u 0
        go (yes z) =
            ap (λ (y : ℕ). get_or (set keys f k) y 0) z ∙ get_or-set_same keys f k 0 (omega (arith, max, few)) ∙ sym (hit (omega arith))
            ∙ ap (λ (y : ℕ). get_or keys y 0) (sym z)
        go (no z) = get_or-set_other keys f u k 0 z

    low' : (r : ℕ) → r < i + 1 → in_set x r ≡ true → Dec (r ≡ i) → get_or (set loc i f) r 0 < l'
    low' r h t (yes d) = let z = ap (λ (y : ℕ). get_or (set loc i f) y 0) d ∙ here in let w = (grow (dec_lt f l)).1 in omega arith
    low' r h t (no d) = let z = other r d in let v = n.low r (omega arith) t in let w = (grow (dec_lt f l)).0 in omega arith

    at' : (r : ℕ) → r < i + 1 → in_set x r ≡ true → Dec (r ≡ i) → get_or (set keys f k) (get_or (set loc i f) r 0) 0 ≡ key r
    at' r h t (yes d) =
        ap (λ (y : ℕ). get_or (set keys f k) y 0) (ap (λ (y : ℕ). get_or (set loc i f) y 0) d ∙ here)
        ∙ get_or-set_same keys f k 0 (omega (arith, max, few)) ∙ e ∙ ap key (sym d)
    at' r h t (no d) =
        ap (λ (y : ℕ). get_or (set keys f k) y 0) (other r d) ∙ kept (get_or loc r 0) (n.low r (omega arith) t) ∙ n.at r (omega arith) t

    apart' : (u v : ℕ) → u < v → v < l' → get_or (set keys f k) u 0 ≡ get_or (set keys f k) v 0 → Dec (f < l) → ⊥
    apart' u v h o t (yes d) = let z = g.0 d in n.apart u v h (omega arith) (sym (kept u (omega arith)) ∙ t ∙ kept v (omega arith))
    apart' u v h o t (no d) = let z = g.1 (omega arith) in go z (ℕ_discrete v f)
      where
        go : l' ≡ l + 1 → Dec (v ≡ f) → ⊥
        go z (yes c) =
            miss u (omega arith)
            (sym (kept u (omega (arith, max))) ∙ t ∙ ap (λ (y : ℕ). get_or (set keys f k) y 0) c ∙ get_or-set_same keys f k 0 (omega (arith, max, few)))
        go z (no c) = n.apart u v h (omega (arith, max)) (sym (kept u (omega (arith, max))) ∙ t ∙ kept v (omega (arith, max)))

-- ---- laws: what numbers say

module _ {key : ℕ → ℕ} {x : Set} {m l : ℕ} {keys loc : List ℕ} (n : Numbered key x m keys loc l) (r q : ℕ) (h : r < m) (o : q < m) (s : in_set x r ≡ true) (t : in_set x q ≡ true) where
  pub same_number : get_or loc r 0 ≡ get_or loc q 0 → key r ≡ key q
  same_number e = sym (n.at r h s) ∙ ap (λ (y : ℕ). get_or keys y 0) e ∙ n.at q o t

  pub same_key : key r ≡ key q → get_or loc r 0 ≡ get_or loc q 0
  same_key e = go (dec_lt (get_or loc r 0) (get_or loc q 0)) (dec_lt (get_or loc q 0) (get_or loc r 0))
    where
      keys_same : get_or keys (get_or loc r 0) 0 ≡ get_or keys (get_or loc q 0) 0
      keys_same = n.at r h s ∙ e ∙ sym (n.at q o t)

      go : Dec (get_or loc r 0 < get_or loc q 0) → Dec (get_or loc q 0 < get_or loc r 0) → get_or loc r 0 ≡ get_or loc q 0
      go (yes a) d = absurd (n.apart (get_or loc r 0) (get_or loc q 0) a (n.low q o t) keys_same)
      go (no a) (yes b) = absurd (n.apart (get_or loc q 0) (get_or loc r 0) b (n.low r h s) (sym keys_same))
      go (no a) (no b) = omega arith

-- rows of one key are of one place
pub key_location : (r q : Row) → r.size < 256 → q.size < 256 → r.start < 65536 → q.start < 65536 → key_of r ≡ key_of q → same_location r q ≡ true
unfolding key_of same_location
key_location r q a b c d e =
    let u : r.start ≡ q.start = omega arith in
    let v : r.size ≡ q.size = omega arith in
    let w : r.reference ≡ q.reference = omega arith in
    and_true (and_true (eq-eqb r.start q.start u) (eq-eqb r.size q.size v)) (eq-eqb r.reference q.reference w)

-- ---- laws: the loop

pub number_begin : (key : ℕ → ℕ) (x : Set) (keys loc : List ℕ) → Walk x x × Numbered key x (next x) keys loc 0
number_begin key x keys loc =
    walk_begin x (λ m. Numbered key x m keys loc 0) (λ k e n. numbered_skip key x keys loc 0 k e n) (numbered_none key x keys loc)

pub number_turn : (key : ℕ → ℕ) {x left rest : Set} {keys loc keys' loc' : List ℕ} {l l' i k : ℕ} → Walk x left × Numbered key x (next left) keys loc l
    → First left i → Rest left rest → ROWS ≤ length keys → ROWS ≤ length loc → k ≡ key i → Step i l k keys loc keys' loc' l'
    → Walk x rest × Numbered key x (next rest) keys' loc' l'
number_turn key {x} {left} {rest} {keys} {loc} {keys'} {loc'} {l} {l'} {i} {k} inv f h a c e s =
    walk_turn x (λ m. Numbered key x m keys' loc' l') (λ m z n. numbered_skip key x keys' loc' l' m z n) inv.0 f h done
  where
    before : Numbered key x i keys loc l
    before = subst (λ (m : ℕ). Numbered key x m keys loc l) (first_next f) inv.1

    done : Numbered key x (i + 1) keys' loc' l'
    done =
        let bound = f.bound in
        rw (s.keys_are, s.loc_are)
        (numbered_more k (least l (key_at keys k)) l' before (omega arith) (omega arith) e refl s.more)

pub number_end : (key : ℕ → ℕ) {x : Set} {keys loc : List ℕ} {l : ℕ} (left : Set) → any_below ROWS (in_set left) ≡ false → Numbered key x (next left) keys loc l
    → Numbered key x ROWS keys loc l
number_end key {x} {keys} {loc} {l} left e n =
    walk_end x (λ m. Numbered key x m keys loc l) (λ m z o. numbered_skip key x keys loc l m z o) left e n

-- a member's number is no higher than its row
pub number_few : {key : ℕ → ℕ} {x left : Set} {keys loc : List ℕ} {l i : ℕ} → Numbered key x (next left) keys loc l → First left i → l ≤ i
number_few n f = let a = n.few in let b = first_next f in omega arith

pub step_is : (i l k : ℕ) (keys loc : List ℕ) (f r : ℕ) → f ≡ least l (key_at keys k) → Grown l f r → Step i l k keys loc (set keys f k) (set loc i f) r
step_is i l k keys loc f r e g =
    record { keys_are = ap (λ (z : ℕ). set keys z k) e; loc_are = ap (λ (z : ℕ). set loc i z) e; more = subst (λ (z : ℕ). Grown l z r) e g }

pub step_keys : {i l k l' : ℕ} {keys loc keys' loc' : List ℕ} → Step i l k keys loc keys' loc' l' → length keys' ≡ length keys
step_keys {i} {l} {k} {l'} {keys} s = ap length s.keys_are ∙ length-set keys (least l (key_at keys k)) k

pub step_loc : {i l k l' : ℕ} {keys loc keys' loc' : List ℕ} → Step i l k keys loc keys' loc' l' → length loc' ≡ length loc
step_loc {i} {l} {k} {l'} {keys} {loc} s = ap length s.loc_are ∙ length-set loc i (least l (key_at keys k))

-- ---- laws: the first of l keys that is k, as `position` finds it

module _ (keys : List ℕ) (l k : ℕ) (room : l ≤ length keys) where
  long : length (take l keys) ≡ l
  long = length-take-le l keys room

  missed : (m : ℕ) → m ≤ l → AllWithin (λ x. x ≢ k) (take l keys) 0 m → (j : ℕ) → j < m → key_at keys k j ≡ false
  unfolding key_at
  missed m h none j b = ne_eqb _ _ (λ e. none j 0 (omega arith) b (get_or-take l keys j 0 (omega arith) ∙ e))

  pub first_key : (r : Option ℕ) → MatchOption r (AllWithin (λ x. x ≢ k) (take l keys) 0 (length (take l keys)))
      (λ i. (i < length (take l keys)) × HoldsAt (λ x. x ≡ k) (take l keys) i × AllWithin (λ x. x ≢ k) (take l keys) 0 i)
      → (unwrap_or r l ≡ least l (key_at keys k)) × (unwrap_or r l ≤ l)
  unfolding key_at
  first_key None none = (sym (least_off _ l (missed l (omega arith) (rw long at none))), omega arith)
  first_key (Some i) (b, hit, before) =
      let inside : i < l = rw long at b in
      let found : get_or keys i 0 ≡ k = sym (get_or-take l keys i 0 inside) ∙ hit 0 in
      (sym (least_unique _ l i inside (eq-eqb _ _ found) (missed i (omega arith) before)), omega arith)
