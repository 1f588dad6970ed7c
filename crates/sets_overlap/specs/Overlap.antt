-- Rows that share bytes, by their locations. Assumes nothing.
use Rattle.std.specs.Prelude.{◌≡◌, Bool, false, not, ◌&&◌, List, ◌⊎◌, ℕ, ◌+◌, ◌-◌, ◌*◌, ◌≤◌, ◌<◌, max, length, ltb}
use Rattle.std.proofs.Math.Path.{refl}
use Rattle.std.proofs.Common.{sym, ap, ap₂, subst, ◌∙◌, inl, inr, arith}
use Rattle.std.proofs.Math.Bool.{true}
use Rattle.std.proofs.Math.Logic.{⊎_elim}
use Rattle.std.proofs.Math.Decide.{dec_lt, ℕ_discrete}
use Rattle.std.proofs.Math.Dec.{eqb}
use borrow.Author.Tests.{lt-ltb, ltb-true, eq-eqb, eqb-true}
use Rattle.finite.specs.Logic.{◌and◌, ◌or◌, bool_ext, split, and_true, and_on, and_false_left, and_false_right, and_left, and_right, and_on_right, and_both, or_off, or_left, not_both, which}
use Rattle.finite.specs.Below.{any_below, any_in, least_is}
use Rattle.model.specs.declared.Row.{Row}
use Rattle.model.specs.Limits.{ROWS}
use Rattle.model.specs.Row.{access, touches, overlap}
use Rattle.model.specs.Scope.{same_location}
use Rattle.model.specs.Table.{Table}
use Rattle.model_laws.specs.PairLaws.{overlap_is, inside_in, inside_out}
use Rattle.work_area.specs.State.{overlaps}
use Rattle.sets_of_rows.specs.declared.Set.{Set}
use Rattle.sets_of_rows.specs.Member.{in_set}
use Rattle.sets_of_rows.specs.First.{First, next, first_next}
use Rattle.sets_of_rows.specs.Kept.{set_at}
use Rattle.sets_of_rows.specs.Family.{nth}
use Rattle.sets_of_rows.specs.Rows.{Rows, rows_at}
use Rattle.sets_of_table.specs.Known.{PLACE, Opened, same_place}
use Rattle.sets_of_table.specs.Ask.{few}

-- ---- definitions

-- the extents of two rows meet
unfoldable pub meet : Row → Row → Bool
meet r q = ltb r.start (q.start + q.size) and ltb q.start (r.start + r.size)

-- the invariant: `all` has the accesses that i meets but for those that are left
pub record Nearing (t : Table) (n i : ℕ) (left all : Set) : Type 0 where
  pub sub : (j : ℕ) → in_set left j ≡ true → (j < n) × (access (t.row j) ≡ true)
  pub is : (k : ℕ) → in_set all k ≡ (((ltb k n and access (t.row k)) and not (in_set left k)) and meet (t.row i) (t.row k))

-- the first access of its location
pub record Head (t : Table) (n h : ℕ) : Type 0 where
  pub low : h < n
  pub access : access (t.row h) ≡ true
  pub first : (k : ℕ) → k < h → same_place t h k ≡ false

-- accesses, by whole locations
pub record Whole (t : Table) (n : ℕ) (x : Set) : Type 0 where
  pub sub : (j : ℕ) → in_set x j ≡ true → (j < n) × (access (t.row j) ≡ true)
  pub all : (j k : ℕ) → in_set x j ≡ true → k < n → same_place t j k ≡ true → in_set x k ≡ true

-- row k is an access that row h meets
unfoldable pub met : Table → ℕ → ℕ → ℕ → Bool
met t n h k = (ltb k n and access (t.row k)) and meet (t.row h) (t.row k)

-- while the locations of x have not met: each location has at its first row the accesses that it meets, but of two in x neither has the other's
pub record Meeting (t : Table) (n : ℕ) (x : Set) (u : List ℕ) : Type 0 where
  pub whole : Whole t n x
  pub row : (h k : ℕ) → Head t n h → in_set (nth u 0 h) k ≡ (met t n h k and not (in_set x h and in_set x k))
  pub long : length u ≡ 2 * ROWS

-- some of them have
pub record Met (t : Table) (n : ℕ) (x rest : Set) (u : List ℕ) : Type 0 where
  pub meeting : Meeting t n rest u
  pub less : ROWS - next rest < ROWS - next x

-- all of them have
pub record Near (t : Table) (n : ℕ) (u : List ℕ) : Type 0 where
  pub row : (h : ℕ) → Head t n h → Rows n (overlaps t h) (nth u 0 h)
  pub long : length u ≡ 2 * ROWS

-- the table's sets, and what meets each location
pub record Told (t : Table) (n : ℕ) (s u : List ℕ) : Type 0 where
  pub opened : Opened t n s
  pub near : Near t n u

-- while the location `own` of row i meets those of `rest`: those that are left don't have it
pub record Turn (t : Table) (n i : ℕ) (own rest left all : Set) (u : List ℕ) : Type 0 where
  pub near : Nearing t n i left all
  pub whole : Whole t n left
  pub part : (j : ℕ) → in_set left j ≡ true → in_set rest j ≡ true
  pub row : (h k : ℕ) → Head t n h → (h ≡ i → ⊥)
      → in_set (nth u 0 h) k ≡ (met t n h k and not (in_set rest h and (in_set rest k or (in_set own k and in_set left h))))
  pub long : length u ≡ 2 * ROWS

-- ---- laws: two extents

pub meets : (r q : Row) → 1 ≤ r.size → 1 ≤ q.size → overlap r q ≡ meet r q
unfolding meet touches
meets r q a b = bool_ext _ _ there back
  where
    there : overlap r q ≡ true → (ltb r.start (q.start + q.size) and ltb q.start (r.start + r.size)) ≡ true
    there e =
        let h = (overlap_is r q).0 e in
        let x = inside_out r.start r.size h.0 h.1 in
        let y = inside_out q.start q.size h.0 h.2 in
        let x₀ = x.0 in
        let x₁ = x.1 in
        let y₀ = y.0 in
        let y₁ = y.1 in
        and_true (lt-ltb r.start (q.start + q.size) (omega arith)) (lt-ltb q.start (r.start + r.size) (omega arith))

    back : (ltb r.start (q.start + q.size) and ltb q.start (r.start + r.size)) ≡ true → overlap r q ≡ true
    back e =
        let x = ltb-true r.start (q.start + q.size) (split e).0 in
        let y = ltb-true q.start (r.start + r.size) (split e).1 in
        (overlap_is r q).1 (
          max r.start q.start,
          inside_in r.start r.size (max r.start q.start) (omega arith) (omega arith),
          inside_in q.start q.size (max r.start q.start) (omega arith) (omega arith),
        )

-- a row without bytes shares none
pub empty_apart : (r q : Row) → (r.size ≡ 0) ⊎ (q.size ≡ 0) → overlap r q ≡ false
unfolding touches
empty_apart r q z = ⊎_elim (λ e. absurd (none ((overlap_is r q).0 e) z)) (λ e. e) (which (overlap r q))
  where
    none : ((b : ℕ) × (touches r b ≡ true) × (touches q b ≡ true)) → (r.size ≡ 0) ⊎ (q.size ≡ 0) → ⊥
    none h (inl e) = let x = inside_out r.start r.size h.0 h.1 in let u = x.0 in let v = x.1 in omega arith
    none h (inr e) = let x = inside_out q.start q.size h.0 h.2 in let u = x.0 in let v = x.1 in omega arith

turned : (a b : Bool) → (a and b) ≡ (b and a)
turned a b = bool_ext _ _ (λ e. let d = split e in and_true d.1 d.0) (λ e. let d = split e in and_true d.1 d.0)

-- rows of one location share bytes with the same rows
pub same_meet : (r q p : Row) → same_location r q ≡ true → meet p r ≡ meet p q
unfolding same_location meet
same_meet r q p e =
    let h = split (split e).0 in
    let a : r.start ≡ q.start = eqb-true r.start q.start h.0 in
    let b : r.size ≡ q.size = eqb-true r.size q.size h.1 in
    ap₂ (λ (u v : ℕ). ltb p.start (u + v) and ltb u (p.start + p.size)) a b

pub swap : (r q : Row) → meet r q ≡ meet q r
unfolding meet
swap r q = turned (ltb r.start (q.start + q.size)) (ltb q.start (r.start + r.size))

pub same_met : (r q p : Row) → same_location r q ≡ true → meet r p ≡ meet q p
same_met r q p e = swap r p ∙ same_meet r q p e ∙ swap p q

module _ {t : Table} {n : ℕ} {s : List ℕ} (o : Opened t n s) where
  fits : (j : ℕ) → j < n → j < t.rows
  fits j l = subst (λ (m : ℕ). j < m) (sym o.rows) l

  -- row i is an access: those that share bytes with it are accesses that it meets
  pub over_is : (i j : ℕ) → i < n → j < n → access (t.row i) ≡ true → (access (t.row j) and meet (t.row i) (t.row j)) ≡ overlaps t i j
  unfolding overlaps ◌and◌
  over_is i j l m a = ⊎_elim yes no (which (access (t.row j)))
    where
      yes : access (t.row j) ≡ true → (access (t.row j) and meet (t.row i) (t.row j)) ≡ overlap (t.row i) (t.row j)
      yes b = rw b (sym (meets (t.row i) (t.row j) (o.fit.filled i (fits i l) a) (o.fit.filled j (fits j m) b)))

      no : access (t.row j) ≡ false → (access (t.row j) and meet (t.row i) (t.row j)) ≡ overlap (t.row i) (t.row j)
      no b = rw b (sym (empty_apart (t.row i) (t.row j) (inr (o.fit.empty j (fits j m) b))))

  -- ---- laws: one location

  -- row j's location
  pub here_is : (j : ℕ) (here : Set) → j < n → access (t.row j) ≡ true → here ≡ set_at s (PLACE + 2 * j)
      → (k : ℕ) → in_set here k ≡ (ltb k n and same_place t j k)
  here_is j here l a e k = (rows_at e (o.known.place j l a)).is k

  pub own_here : (j : ℕ) (here : Set) → j < n → access (t.row j) ≡ true → here ≡ set_at s (PLACE + 2 * j) → in_set here j ≡ true
  unfolding same_place same_location
  own_here j here l a e =
      here_is j here l a e j ∙ and_true (lt-ltb j n l)
      (and_true a (and_true (and_true (self (t.row j).start) (self (t.row j).size)) (self (t.row j).reference)))
    where
      self : (m : ℕ) → eqb m m ≡ true
      self m = eq-eqb m m refl

  -- without the location of its first row a set begins later
  pub less_next : {j : ℕ} {x here : Set} (rest : Set) → (j < n) × (access (t.row j) ≡ true) → First x j → here ≡ set_at s (PLACE + 2 * j)
      → ((k : ℕ) → in_set rest k ≡ (in_set x k and not (in_set here k))) → ROWS - next rest < ROWS - next x
  less_next {j} {x} {here} rest d low place less = let a = first_next low in let b = low.bound in let c = later (dec_lt j (next rest)) in omega arith
    where
      gone : (k : ℕ) → k ≤ j → in_set rest k ≡ false
      gone k l = go (ℕ_discrete k j)
        where
          go : Dec (k ≡ j) → in_set rest k ≡ false
          go (yes e) = less k ∙ and_false_right _ _ (ap (λ (m : ℕ). not (in_set here m)) e ∙ ap not (own_here j here d.0 d.1 place))
          go (no e) = less k ∙ and_false_left _ _ (low.miss k (omega arith))

      later : Dec (j < next rest) → j < next rest
      later (yes l) = l
      later (no l) = let b = low.bound in not_both ((least_is (in_set rest) ROWS).hit (omega arith)) (gone (next rest) (omega arith))

  module _ {i j : ℕ} {left all here : Set} (rest : Set) (inv : Nearing t n i left all) (low : First left j) (place : here ≡ set_at s (PLACE + 2 * j))
      (less : (k : ℕ) → in_set rest k ≡ (in_set left k and not (in_set here k))) where
    module _ (part more : Set) (b : Bool) (test : b ≡ meet (t.row i) (t.row j)) (only : (k : ℕ) → in_set part k ≡ (b and in_set here k))
        (both_are : (k : ℕ) → in_set more k ≡ (in_set all k or in_set part k)) where
      pub near_turn : Nearing t n i rest more
      unfolding same_place ◌or◌
      near_turn =
          record { sub = λ k h. inv.sub k (and_left (in_set left k) _ (sym (less k) ∙ h)); is = λ k. both_are k ∙ ⊎_elim (yes k) (no k) (which (in_set here k)) }
        where
          d : (j < n) × (access (t.row j) ≡ true)
          d = inv.sub j low.hit

          A : ℕ → Bool
          A k = ltb k n and access (t.row k)

          M : ℕ → Bool
          M k = meet (t.row i) (t.row k)

          no : (k : ℕ) → in_set here k ≡ false → (in_set all k or in_set part k) ≡ ((A k and not (in_set rest k)) and M k)
          no k h =
              or_off (in_set all k) (in_set part k) (only k ∙ and_false_right b (in_set here k) h) ∙ inv.is k
              ∙ ap (λ (x : Bool). (A k and not x) and M k) (sym (less k ∙ ap (λ (y : Bool). in_set left k and not y) h ∙ and_on_right (in_set left k) true refl))

          yes : (k : ℕ) → in_set here k ≡ true → (in_set all k or in_set part k) ≡ ((A k and not (in_set rest k)) and M k)
          yes k h =
              let p = split (sym (here_is j here d.0 d.1 place k) ∙ h) in
              let q = split (unplaced p.1) in
              let same : b ≡ M k = test ∙ same_meet (t.row j) (t.row k) (t.row i) q.1 in
              let mine : in_set part k ≡ M k = only k ∙ and_on_right b (in_set here k) h ∙ same in
              let out : in_set rest k ≡ false = less k ∙ and_false_right (in_set left k) _ (ap not h) in
              let on : (A k and not (in_set rest k)) ≡ true = and_true (and_true p.0 q.0) (ap not out) in
              ap (λ (x : Bool). in_set all k or x) mine ∙ both (in_set all k) (M k) (λ e. and_right _ (M k) (sym (inv.is k) ∙ e)) ∙ sym (and_on _ (M k) on)
            where
              unplaced : same_place t j k ≡ true → (access (t.row k) and same_location (t.row j) (t.row k)) ≡ true
              unplaced e = e

              both : (x y : Bool) → (x ≡ true → y ≡ true) → (x or y) ≡ y
              both true y f = or_left y refl ∙ sym (f refl)
              both false y f = refl

  -- ---- laws: a row by the first of its location

  -- the first of row i's location
  pub first_here : (i : ℕ) (here : Set) → i < n → access (t.row i) ≡ true → here ≡ set_at s (PLACE + 2 * i) → any_below ROWS (in_set here) ≡ true
  first_here i here l a e = let f = few o in any_in (in_set here) ROWS i (omega arith) (own_here i here l a e)

  -- nothing shares bytes with what is no access
  pub over_only : (i j : ℕ) → i < n → j < n → overlaps t i j ≡ true → access (t.row i) ≡ true
  unfolding overlaps
  over_only i j l m e = ⊎_elim (λ a. a) (λ a. not_both e (empty_apart (t.row i) (t.row j) (inl (o.fit.empty i (fits i l) a)))) (which (access (t.row i)))

-- the test as code says it
pub meet_said : (r q : Row) (start end last first : ℕ) → start ≡ r.start → end ≡ r.start + r.size → last ≡ q.start + q.size → first ≡ q.start
    → (ltb start last && ltb first end) ≡ meet r q
unfolding meet
meet_said r q start end last first a b c d =
    and_both (ltb start last) (ltb first end) ∙ ap₂ (λ (u v : ℕ). ltb u v and ltb first end) a c ∙ ap₂ (λ (u v : ℕ). ltb r.start (q.start + q.size) and ltb u v) d b
