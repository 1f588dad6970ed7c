-- Locations met one after the other: the invariants of both loops. Assumes nothing.
use Rattle.std.specs.Prelude.{◌≡◌, refl, List, get_or, replicate}
use Rattle.std.proofs.Math.Path.{sym, ap}
use Rattle.std.proofs.Common.{ap₂, subst, ◌∙◌, arith}
use Rattle.std.proofs.Math.Bool.{Bool, true, false, not}
use Rattle.std.proofs.Math.Logic.{⊎_elim}
use Prim.Native.Nat.{ℕ, ◌+◌, ◌*◌, ◌<◌}
use Rattle.std.proofs.Math.Decide.{dec_lt, ℕ_discrete}
use Rattle.std.proofs.Math.ListN.{length, length-replicate}
use Rattle.std.proofs.lemmas.List.{get_or-replicate}
use Rattle.std.proofs.Math.Dec.{ltb}
use borrow.Author.Tests.{lt-ltb, le-ltb, ltb-true}
use Rattle.finite.specs.Logic.{◌and◌, ◌or◌, split, and_true, and_on, and_false_left, and_false_right, and_left, and_on_right}
use Rattle.finite.specs.Logic.{or_off, or_right, not_both, not_so, which}
use Rattle.finite.specs.Below.{any_below, any_off}
use Rattle.model.specs.Limits.{ROWS}
use Rattle.model.specs.Row.{access}
use Rattle.model.specs.Scope.{same_location}
use Rattle.model.specs.Table.{Table}
use Rattle.model_laws.specs.WriterLaws.{same_sym, same_trans}
use Rattle.work_area.specs.State.{overlaps}
use Rattle.sets_of_rows.specs.declared.Set.{Set}
use Rattle.sets_of_rows.specs.Member.{in_set, of, none_is, in_none}
use Rattle.sets_of_rows.specs.First.{First, none_in}
use Rattle.sets_of_rows.specs.Kept.{set_at, set_kept, Stored, joined}
use Rattle.sets_of_rows.specs.Family.{nth}
use Rattle.sets_of_rows.specs.Rows.{Rows, rows_at, rows_cong}
use Rattle.sets_of_table.specs.Tested.{ACCESS}
use Rattle.sets_of_table.specs.Known.{PLACE, Opened, same_place, says_rows}
use Rattle.sets_of_table.specs.Ask.{few}
use Rattle.sets_overlap.specs.Overlap.{meet, met, Head, Whole, Meeting, Met, Near, Turn}
use Rattle.sets_overlap.specs.Overlap.{same_meet, same_met, swap, over_is, here_is, own_here, less_next, near_turn}

-- ---- laws: of truths

both_open : (a m x : Bool) → ((a and m) and not (true and x)) ≡ ((a and not x) and m)
unfolding ◌and◌
both_open true true true = refl
both_open true true false = refl
both_open true false true = refl
both_open true false false = refl
both_open false m x = refl

-- a location that leaves the others: of a row in it and of one in another
left_out : (x y own : Bool) → (own ≡ true → y ≡ true) → (x and y) ≡ (x and ((y and not own) or (own and x)))
unfolding ◌and◌ ◌or◌
left_out false y own f = refl
left_out true true true f = refl
left_out true true false f = refl
left_out true false true f = f refl
left_out true false false f = refl

-- two that meet, two that don't, and one that has met all
taken_in : (m y own : Bool) → (own ≡ true → m ≡ true) → (own ≡ true → y ≡ false)
    → ((m and not (true and (y or (own and true)))) or own) ≡ (m and not (true and (y or (own and false))))
unfolding ◌and◌ ◌or◌
taken_in true true true f g = g refl
taken_in true false true f g = refl
taken_in false y true f g = sym (f refl)
taken_in true true false f g = refl
taken_in true false false f g = refl
taken_in false y false f g = refl

not_taken : (m y own : Bool) → (own ≡ true → m ≡ false)
    → (m and not (true and (y or (own and true)))) ≡ (m and not (true and (y or (own and false))))
unfolding ◌and◌ ◌or◌
not_taken true y true f = ap (λ (b : Bool). b and not (true and (y or true))) (f refl) ∙ sym (ap (λ (b : Bool). b and not (true and (y or false))) (f refl))
not_taken false y true f = refl
not_taken m y false f = refl

all_taken : (x y own : Bool) → (x and (y or (own and false))) ≡ (x and y)
unfolding ◌and◌ ◌or◌
all_taken false y own = refl
all_taken true true own = refl
all_taken true false true = refl
all_taken true false false = refl

never : (x m : Bool) → ((x and m) and not (true and x)) ≡ false
unfolding ◌and◌
never true true = refl
never true false = refl
never false m = refl

-- ---- laws: one place

module _ (t : Table) where
  place_out : (j k : ℕ) → same_place t j k ≡ true → (access (t.row k) ≡ true) × (same_location (t.row j) (t.row k) ≡ true)
  unfolding same_place
  place_out j k e = split e

  place_in_lem : (j k : ℕ) → access (t.row k) ≡ true → same_location (t.row j) (t.row k) ≡ true → same_place t j k ≡ true
  unfolding same_place
  place_in_lem j k a e = and_true a e

  place_turn : (j k : ℕ) → access (t.row j) ≡ true → same_place t j k ≡ true → same_place t k j ≡ true
  place_turn j k a e = place_in_lem k j a (same_sym (t.row j) (t.row k) (place_out j k e).1)

  place_trans : (i j k : ℕ) → same_place t i j ≡ true → same_place t j k ≡ true → same_place t i k ≡ true
  place_trans i j k d e = place_in_lem i k (place_out j k e).0 (same_trans (t.row i) (t.row j) (t.row k) (place_out i j d).1 (place_out j k e).1)

-- two first rows are of two locations
heads_apart : {t : Table} {n h i : ℕ} → Head t n h → Head t n i → (h ≡ i → ⊥) → same_place t i h ≡ false
heads_apart {t} {n} {h} {i} a b ne = not_so _ go
  where
    go : same_place t i h ≡ true → ⊥
    go e = by (dec_lt h i)
      where
        by : Dec (h < i) → ⊥
        by (yes l) = not_both e (b.first h l)
        by (no l) = not_both (place_turn t i h b.access e) (a.first i (omega (arith, ne, l)))

pub head_of : {t : Table} {n j : ℕ} {x : Set} → Whole t n x → First x j → Head t n j
head_of {t} {n} {j} w low =
    let d = w.sub j low.hit in
    record {
      low = d.0;
      access = d.1;
      first = λ k l. not_so _ (λ e. not_both (w.all j k low.hit (let m = d.0 in omega (arith, m, l)) e) (low.miss k l));
    }

module _ {t : Table} {n : ℕ} {s : List ℕ} (o : Opened t n s) where
  -- ---- laws: whole locations

  pub whole_all : (x : Set) → x ≡ set_at s ACCESS → Whole t n x
  whole_all x e =
      record {
        sub = λ j h. let d = split (sym (rows.is j) ∙ h) in (ltb-true j n d.0, d.1);
        all = λ j k h l p. rows.is k ∙ and_true (lt-ltb k n l) (place_out t j k p).0;
      }
    where
      rows : Rows n (λ j. access (t.row j)) x
      rows = rows_at e (says_rows o.known.tested.accesses.access)

  pub whole_less : {j : ℕ} {x here : Set} (rest : Set) → Whole t n x → First x j → here ≡ set_at s (PLACE + 2 * j)
      → ((k : ℕ) → in_set rest k ≡ (in_set x k and not (in_set here k))) → Whole t n rest
  whole_less {j} {x} {here} rest w low place less =
      record {
        sub = λ k h. w.sub k (and_left (in_set x k) _ (sym (less k) ∙ h));
        all = λ a k h l p. less k ∙ and_true (w.all a k (and_left (in_set x a) _ (sym (less a) ∙ h)) l p) (ap not (not_so _ (λ e. back a k h l p e)));
      }
    where
      d : (j < n) × (access (t.row j) ≡ true)
      d = w.sub j low.hit

      back : (a k : ℕ) → in_set rest a ≡ true → k < n → same_place t a k ≡ true → in_set here k ≡ true → ⊥
      back a k h l p e =
          let q = split (sym (less a) ∙ h) in
          let b = w.sub a q.0 in
          let same = place_trans t j k a (split (sym (here_is o j here d.0 d.1 place k) ∙ e)).1 (place_turn t a k b.1 p) in
          not_both (here_is o j here d.0 d.1 place a ∙ and_true (lt-ltb a n b.0) same) (not_on (in_set here a) q.1)
        where
          not_on : (b : Bool) → not b ≡ true → b ≡ false
          not_on false e = refl
          not_on true e = sym e

  -- ---- laws: the loop over locations

  pub meeting_begin : {u : List ℕ} (x : Set) → x ≡ set_at s ACCESS → u ≡ replicate (2 * ROWS) 0 → Meeting t n x u
  unfolding met set_at
  meeting_begin {u} x e z =
      record { whole = whole_all x e; row = λ h k d. empty h k d.low ∙ sym (off h k d); long = ap length z ∙ length-replicate {A = ℕ} (2 * ROWS) 0 }
    where
      rows : Rows n (λ j. access (t.row j)) x
      rows = rows_at e (says_rows o.known.tested.accesses.access)

      word : (k : ℕ) → k < 2 * ROWS → get_or u k 0 ≡ 0
      word k l = ap (λ (b : List ℕ). get_or b k 0) z ∙ get_or-replicate (2 * ROWS) k 0 0 l

      empty : (h k : ℕ) → h < n → in_set (nth u 0 h) k ≡ false
      empty h k l = let f = few o in none_in (set_at u (0 + 2 * h)) (word (0 + 2 * h) (omega (arith, f, l))) (word (0 + 2 * h + 1) (omega (arith, f, l))) k

      off : (h k : ℕ) → Head t n h → (((ltb k n and access (t.row k)) and meet (t.row h) (t.row k)) and not (in_set x h and in_set x k)) ≡ false
      off h k d =
          let on : in_set x h ≡ true = rows.is h ∙ and_true (lt-ltb h n d.low) d.access in
          ap₂ (λ (a b : Bool). (a and meet (t.row h) (t.row k)) and not (b and in_set x k)) (sym (rows.is k)) on ∙ never (in_set x k) (meet (t.row h) (t.row k))

  pub meeting_end : {u : List ℕ} {x : Set} → any_below ROWS (in_set x) ≡ false → Meeting t n x u → Near t n u
  unfolding met
  meeting_end {u} {x} e inv = record { row = λ h d. record { is = λ k. inv.row h k d ∙ at h k d (dec_lt k n) }; long = inv.long }
    where
      at : (h k : ℕ) → Head t n h → Dec (k < n)
          → (((ltb k n and access (t.row k)) and meet (t.row h) (t.row k)) and not (in_set x h and in_set x k)) ≡ (ltb k n and overlaps t h k)
      at h k d (yes m) =
          let f = few o in
          let z : in_set x k ≡ false = any_off (in_set x) ROWS e k (omega (arith, f, m)) in
          let on = lt-ltb k n m in
          and_on_right _ (not (in_set x h and in_set x k)) (ap not (and_false_right (in_set x h) (in_set x k) z))
          ∙ ap (λ (b : Bool). b and meet (t.row h) (t.row k)) (and_on (ltb k n) (access (t.row k)) on)
          ∙ over_is o h k d.low m d.access ∙ sym (and_on (ltb k n) (overlaps t h k) on)
      at h k d (no m) =
          let off = le-ltb k n (omega (arith, m)) in
          and_false_left _ _ (and_false_left _ _ (and_false_left _ _ off)) ∙ sym (and_false_left (ltb k n) (overlaps t h k) off)

  -- ---- laws: one turn of it

  fits : (j : ℕ) → j < n → j < t.rows
  fits j l = subst (λ (m : ℕ). j < m) (sym o.rows) l

  self_meet : (i : ℕ) → i < n → access (t.row i) ≡ true → meet (t.row i) (t.row i) ≡ true
  unfolding meet
  self_meet i l a =
      let z = o.fit.filled i (fits i l) a in
      let e = lt-ltb (t.row i).start ((t.row i).start + (t.row i).size) (omega (arith, z)) in
      and_true e e

  module _ {i : ℕ} {x own : Set} {u : List ℕ} (rest : Set) (m : Meeting t n x u) (low : First x i) (mine : own ≡ set_at s (PLACE + 2 * i))
      (less : (k : ℕ) → in_set rest k ≡ (in_set x k and not (in_set own k))) where
    head : Head t n i
    head = head_of m.whole low

    own_is : (k : ℕ) → in_set own k ≡ (ltb k n and same_place t i k)
    own_is k = here_is o i own head.low head.access mine k

    own_not : (h : ℕ) → Head t n h → (h ≡ i → ⊥) → in_set own h ≡ false
    own_not h d ne = own_is h ∙ and_false_right _ _ (heads_apart d head ne)

    -- a row of the location is an access, and any row meets it as it meets row i
    own_met : (h k : ℕ) → in_set own k ≡ true → ((ltb k n and access (t.row k)) ≡ true) × (meet (t.row h) (t.row k) ≡ meet (t.row h) (t.row i))
    own_met h k e =
        let p = split (sym (own_is k) ∙ e) in
        let q = place_out t i k p.1 in
        (and_true p.0 q.0, sym (same_meet (t.row i) (t.row k) (t.row h) q.1))

    own_in : (k : ℕ) → in_set own k ≡ true → in_set x k ≡ true
    own_in k e = let p = split (sym (own_is k) ∙ e) in m.whole.all i k low.hit (ltb-true k n p.0) p.1

    rest_off : (k : ℕ) → in_set own k ≡ true → in_set rest k ≡ false
    rest_off k e = less k ∙ and_false_right _ _ (ap not e)

    rest_same : (k : ℕ) → in_set own k ≡ false → in_set rest k ≡ in_set x k
    rest_same k e = less k ∙ and_on_right (in_set x k) (not (in_set own k)) (ap not e)

    pub turn_begin : (got all : Set) → got ≡ set_at u (0 + 2 * i) → ((k : ℕ) → in_set all k ≡ (in_set got k or in_set own k)) → Turn t n i own rest rest all u
    unfolding met
    turn_begin got all e joins =
        record {
          near = record { sub = λ j h. m.whole.sub j (and_left (in_set x j) _ (sym (less j) ∙ h)); is = λ k. joins k ∙ ⊎_elim (yes k) (no k) (which (in_set own k)) };
          whole = whole_less rest m.whole low mine less;
          part = λ j h. h;
          row = λ h k d ne. m.row h k d ∙ ap (λ (b : Bool). ((ltb k n and access (t.row k)) and meet (t.row h) (t.row k)) and not b) (others h k d ne);
          long = m.long;
        }
      where
        A : ℕ → Bool
        A k = ltb k n and access (t.row k)

        yes : (k : ℕ) → in_set own k ≡ true → (in_set got k or in_set own k) ≡ ((A k and not (in_set rest k)) and meet (t.row i) (t.row k))
        yes k h =
            let q = own_met i k h in
            or_right (in_set got k) h ∙ sym (and_true (and_true q.0 (ap not (rest_off k h))) (q.1 ∙ self_meet i head.low head.access))

        no : (k : ℕ) → in_set own k ≡ false → (in_set got k or in_set own k) ≡ ((A k and not (in_set rest k)) and meet (t.row i) (t.row k))
        no k h =
            or_off (in_set got k) (in_set own k) h ∙ ap (λ (z : Set). in_set z k) e ∙ m.row i k head
            ∙ ap (λ (b : Bool). (A k and meet (t.row i) (t.row k)) and not (b and in_set x k)) low.hit
            ∙ both_open (A k) (meet (t.row i) (t.row k)) (in_set x k)
            ∙ ap (λ (b : Bool). (A k and not b) and meet (t.row i) (t.row k)) (sym (rest_same k h))

        others : (h k : ℕ) → Head t n h → (h ≡ i → ⊥) → (in_set x h and in_set x k) ≡ (in_set rest h and (in_set rest k or (in_set own k and in_set rest h)))
        others h k d ne =
            left_out (in_set x h) (in_set x k) (in_set own k) (own_in k)
            ∙ ap₂ (λ (b c : Bool). b and (c or (in_set own k and b))) (sym (rest_same h (own_not h d ne))) (sym (less k))

    module _ {j : ℕ} {left all here : Set} {v : List ℕ} (left' : Set) (inv : Turn t n i own rest left all v) (low' : First left j)
        (place : here ≡ set_at s (PLACE + 2 * j)) (less' : (k : ℕ) → in_set left' k ≡ (in_set left k and not (in_set here k))) where
      head' : Head t n j
      head' = head_of inv.whole low'

      apart : j ≡ i → ⊥
      apart e =
          not_both (inv.part j low'.hit)
          (ap (λ (z : ℕ). in_set rest z) e ∙ rest_off i (own_here o i own head.low head.access mine))

      here_off : in_set left' j ≡ false
      here_off = less' j ∙ and_false_right _ _ (ap not (own_here o j here head'.low head'.access place))

      left_same : (h : ℕ) → Head t n h → (h ≡ j → ⊥) → in_set left h ≡ in_set left' h
      left_same h d ne =
          sym (less' h ∙ and_on_right (in_set left h) (not (in_set here h))
          (ap not (here_is o j here head'.low head'.access place h ∙ and_false_right _ _ (heads_apart d head' ne))))

      -- what stands at another first row stays
      kept_row : (h k : ℕ) → Head t n h → (h ≡ i → ⊥) → (h ≡ j → ⊥)
          → in_set (nth v 0 h) k ≡ (met t n h k and not (in_set rest h and (in_set rest k or (in_set own k and in_set left' h))))
      kept_row h k d ne nj =
          inv.row h k d ne ∙ ap (λ (b : Bool). met t n h k and not (in_set rest h and (in_set rest k or (in_set own k and b)))) (left_same h d nj)

      -- what stood at row j, and what should
      row_was : (k : ℕ) → in_set (nth v 0 j) k ≡ (met t n j k and not (true and (in_set rest k or (in_set own k and true))))
      row_was k =
          inv.row j k head' apart
          ∙ ap₂ (λ (b c : Bool). met t n j k and not (b and (in_set rest k or (in_set own k and c)))) (inv.part j low'.hit) low'.hit

      row_will : (k : ℕ) → (met t n j k and not (true and (in_set rest k or (in_set own k and false))))
          ≡ (met t n j k and not (in_set rest j and (in_set rest k or (in_set own k and in_set left' j))))
      row_will k =
          ap₂ (λ (b c : Bool). met t n j k and not (b and (in_set rest k or (in_set own k and c)))) (sym (inv.part j low'.hit)) (sym here_off)

      met_own : {b : Bool} → b ≡ meet (t.row i) (t.row j) → (k : ℕ) → in_set own k ≡ true → met t n j k ≡ b
      unfolding met
      met_own e k h = let q = own_met j k h in and_on _ _ q.0 ∙ q.1 ∙ swap (t.row j) (t.row i) ∙ sym e

      at_row : (h k : ℕ) (w : List ℕ) → h ≡ j
          → in_set (nth w 0 j) k ≡ (met t n j k and not (in_set rest j and (in_set rest k or (in_set own k and in_set left' j))))
          → in_set (nth w 0 h) k ≡ (met t n h k and not (in_set rest h and (in_set rest k or (in_set own k and in_set left' h))))
      at_row h k w e p =
          subst (λ (z : ℕ). in_set (nth w 0 z) k ≡ (met t n z k and not (in_set rest z and (in_set rest k or (in_set own k and in_set left' z))))) (sym e) p

      pub turn_met : {b : Bool} {w : List ℕ} (more : Set) → b ≡ meet (t.row i) (t.row j) → b ≡ true
          → ((k : ℕ) → in_set more k ≡ (in_set all k or in_set here k)) → Stored (0 + 2 * j) (joined v (0 + 2 * j) own) v w → Turn t n i own rest left' more w
      unfolding joined
      turn_met {b} {w} more test on joins p =
          record {
            near = near_turn o left' inv.near low' place less' here more b test (λ k. sym (and_on b (in_set here k) on)) joins;
            whole = whole_less left' inv.whole low' place less';
            part = λ k h. inv.part k (and_left (in_set left k) _ (sym (less' k) ∙ h));
            row = λ h k d ne. by h k d ne (ℕ_discrete h j);
            long = p.frame.len ∙ inv.long;
          }
        where
          by : (h k : ℕ) → Head t n h → (h ≡ i → ⊥) → Dec (h ≡ j)
              → in_set (nth w 0 h) k ≡ (met t n h k and not (in_set rest h and (in_set rest k or (in_set own k and in_set left' h))))
          by h k d ne (yes e) =
              at_row h k w e (p.is k ∙ ap (λ (z : Bool). z or in_set own k) (row_was k)
              ∙ taken_in (met t n j k) (in_set rest k) (in_set own k) (λ q. met_own test k q ∙ on) (rest_off k) ∙ row_will k)
          by h k d ne (no e) =
              ap (λ (z : Set). in_set z k) (set_kept (0 + 2 * h) (λ q. omega (arith, e, q)) p.frame) ∙ kept_row h k d ne e

      pub turn_apart : {b : Bool} → b ≡ meet (t.row i) (t.row j) → b ≡ false → Turn t n i own rest left' all v
      turn_apart {b} test off =
          record {
            near = near_turn o left' inv.near low' place less' (of 0 0) all b test (λ k. none_is k ∙ sym (and_false_left b (in_set here k) off))
                (λ k. sym (or_off (in_set all k) _ (none_is k)));
            whole = whole_less left' inv.whole low' place less';
            part = λ k h. inv.part k (and_left (in_set left k) _ (sym (less' k) ∙ h));
            row = λ h k d ne. by h k d ne (ℕ_discrete h j);
            long = inv.long;
          }
        where
          by : (h k : ℕ) → Head t n h → (h ≡ i → ⊥) → Dec (h ≡ j)
              → in_set (nth v 0 h) k ≡ (met t n h k and not (in_set rest h and (in_set rest k or (in_set own k and in_set left' h))))
          by h k d ne (yes e) =
              at_row h k v e (row_was k ∙ not_taken (met t n j k) (in_set rest k) (in_set own k) (λ q. met_own test k q ∙ off) ∙ row_will k)
          by h k d ne (no e) = kept_row h k d ne e

    pub turn_end : {left all : Set} {v w : List ℕ} → Turn t n i own rest left all v → any_below ROWS (in_set left) ≡ false
        → Stored (0 + 2 * i) (in_set all) v w → Met t n x rest w
    unfolding met
    turn_end {left} {all} {v} {w} inv e p =
        record {
          meeting = record { whole = whole_less rest m.whole low mine less; row = λ h k d. by h k d (ℕ_discrete h i); long = p.frame.len ∙ inv.long };
          less = less_next o rest (head.low, head.access) low mine less;
        }
      where
        none : (k : ℕ) → in_set left k ≡ false
        none k = go (dec_lt k ROWS)
          where
            go : Dec (k < ROWS) → in_set left k ≡ false
            go (yes l) = any_off (in_set left) ROWS e k l
            go (no l) = in_none left k (omega (arith, l))

        A : ℕ → Bool
        A k = ltb k n and access (t.row k)

        by : (h k : ℕ) → Head t n h → Dec (h ≡ i)
            → in_set (nth w 0 h) k ≡ ((A k and meet (t.row h) (t.row k)) and not (in_set rest h and in_set rest k))
        by h k d (yes q) =
            subst (λ (z : ℕ). in_set (nth w 0 z) k ≡ ((A k and meet (t.row z) (t.row k)) and not (in_set rest z and in_set rest k))) (sym q)
            (p.is k ∙ inv.near.is k
            ∙ ap (λ (b : Bool). b and meet (t.row i) (t.row k)) (and_on_right (A k) (not (in_set left k)) (ap not (none k)))
            ∙ sym (and_on_right _ (not (in_set rest i and in_set rest k)) (ap not (and_false_left _ _ (rest_off i (own_here o i own head.low head.access mine))))))
        by h k d (no q) =
            ap (λ (z : Set). in_set z k) (set_kept (0 + 2 * h) (λ g. omega (arith, q, g)) p.frame) ∙ inv.row h k d q
            ∙ ap (λ (b : Bool). (A k and meet (t.row h) (t.row k)) and not b)
            (ap (λ (b : Bool). in_set rest h and (in_set rest k or (in_set own k and b))) (none h) ∙ all_taken (in_set rest h) (in_set rest k) (in_set own k))

  -- ---- laws: a row by the first of its location

  pub row_by_head : {i j : ℕ} {here y : Set} {u : List ℕ} → i < n → access (t.row i) ≡ true → here ≡ set_at s (PLACE + 2 * i) → First here j
      → Near t n u → y ≡ set_at u (0 + 2 * j) → Rows n (overlaps t i) y
  unfolding overlaps
  row_by_head {i} {j} {here} {y} {u} l a e f near q = rows_cong same (rows_at q (near.row j head))
    where
      member : (ltb j n and same_place t i j) ≡ true
      member = sym (here_is o i here l a e j) ∙ f.hit

      p : (access (t.row j) ≡ true) × (same_location (t.row i) (t.row j) ≡ true)
      p = place_out t i j (split member).1

      below : j < n
      below = ltb-true j n (split member).0

      head : Head t n j
      head =
          record {
            low = below;
            access = p.0;
            first = λ k m. not_so _ (λ z. not_both (here_is o i here l a e k ∙ and_true (lt-ltb k n (omega (arith, m, below)))
                (place_trans t i j k (split member).1 z)) (f.miss k m));
          }

      same : (k : ℕ) → k < n → overlaps t j k ≡ overlaps t i k
      same k m =
          sym (over_is o j k below m p.0) ∙ ap (λ (b : Bool). access (t.row k) and b) (sym (same_met (t.row i) (t.row j) (t.row k) p.1))
          ∙ over_is o i k l m a
