-- What is made available up the page: kept by agent and class, and gathered for one row from there and from plain rows. Assumes nothing.
use Rattle.std.specs.Prelude.{◌≡◌, refl, Bool, List, ltb, length}
use Rattle.std.proofs.Math.Path.{sym, ap, ap₂, subst}
use Rattle.std.proofs.Common.{◌∙◌, arith, ltb-true, lt-ltb, le-ltb, eqb-true, eq-eqb, ne_eqb}
use Rattle.std.proofs.Math.Bool.{true, false, not}
use Prim.Native.Nat.{ℕ, suc, ◌+◌, ◌*◌, ◌≤◌, ◌<◌}
use Rattle.std.proofs.Math.Numerals.{add-one}
use Rattle.std.proofs.Math.Decide.{dec_lt, ℕ_discrete}
use Rattle.std.proofs.Math.Dec.{eqb}
use Rattle.finite.specs.Logic.{◌and◌, ◌or◌, split, and_true, and_on, and_false_left, and_false_right, or_off, or_assoc, and_or, bool_ext}
use Rattle.finite.specs.Below.{any_below, any_none, any_in, any_out}
use Rattle.model.specs.Limits.{ROWS, AGENTS}
use Rattle.model.specs.Row.{access, plain, covers, meets, single}
use Rattle.model.specs.Table.{Table}
use Rattle.model_closing.specs.Tests.{or_off_left}
use Rattle.model_placing.specs.Leads
use Rattle.model_placing.specs.Elements.{avails, behind_is, kept, wide_of, kept_step}
use Rattle.model_placing.specs.Whole.{first_plain, whole_plain, narrow, strong_to}
use Rattle.model_placing.proofs.Whole.{strong_kept}
use Rattle.sets_of_rows.specs.declared.Set.{Set}
use Rattle.sets_of_rows.specs.Member.{in_set}
use Rattle.sets_of_rows.specs.First.{First, first_next, Rest, next}
use Rattle.sets_of_rows.specs.Kept.{set_at, set_kept, Stored, joined}
use Rattle.sets_of_rows.specs.Family.{nth}
use Rattle.sets_of_rows.specs.Rows.{Rows, rows_at, rows_or, rows_cong}
use Rattle.sets_of_rows.specs.Walk.{Walk, walk_begin, walk_turn, walk_end}
use Rattle.sets_of_table.specs.Ask.{few}
use Rattle.sets_of_table.specs.Known.{Opened}
use Rattle.sets_grids.specs.Regions.{AVAILABLE_TO, VISIBLE_BY}
use Rattle.sets_grids.specs.Grid.{GridOn}
use Rattle.sets_grids.specs.Filling.{member_in}
use Rattle.sets_grids.specs.Available.{makes, shown_to}
use Rattle.sets_grids.specs.Location.{Locating}
use Rattle.sets_location.specs.Elements.{any_skip, any_step}
use Rattle.sets_location.specs.Met.{Grasps}
use Rattle.sets_location.specs.Adds.{Widely, Carried}

-- ---- definitions: what is gathered for x from the rows z

-- row a of z has all bytes of x, and row j is in its set of those from word `base` on
unfoldable pub whole_by : Table → ℕ → Set → List ℕ → ℕ → ℕ → ℕ → Bool
whole_by t x z w base j a = (in_set z a and covers (t.row a) (t.row x)) and in_set (nth w base a) j

-- row a of z has not, and is row j
unfoldable pub narrow_by : Table → ℕ → Set → ℕ → ℕ → Bool
narrow_by t x z j a = (in_set z a and not (covers (t.row a) (t.row x))) and eqb j a

-- r has what `first` has, and what q gives from the numbers below m
pub record Gathering (q : ℕ → ℕ → Bool) (first r : Set) (m : ℕ) : Type 0 where
  pub is : (j : ℕ) → in_set r j ≡ (in_set first j or any_below m (q j))

pub record Grasping (t : Table) (x : ℕ) (w : List ℕ) (z to₀ by₀ parts₀ a b p : Set) (m : ℕ) : Type 0 where
  pub to : Gathering (whole_by t x z w AVAILABLE_TO) to₀ a m
  pub by : Gathering (whole_by t x z w VISIBLE_BY) by₀ b m
  pub parts : Gathering (narrow_by t x z) parts₀ p m

-- ---- definitions: what is kept up the page

-- `set` leads to row i from the atomics and barriers of agent g with class r after row x, and from x, if its class r is below q
unfoldable pub carried_up : Table → (ℕ → ℕ → Bool) → ℕ → ℕ → ℕ → ℕ → ℕ → Bool
carried_up t set x q g r i = kept t g r (x + 1) (λ a. set a i) or (ltb r q and (wide_of t g r x and set x i))

pub record Carrying (t : Table) (n x q : ℕ) (made : List ℕ) : Type 0 where
  pub to : (g r : ℕ) → g < AGENTS → r < 4 → Rows n (carried_up t (Leads.meets t) x q g r) (nth made 0 (g * 8 + r))
  pub by : (g r : ℕ) → g < AGENTS → r < 4 → Rows n (carried_up t (shown_to t) x q g r) (nth made 0 (g * 8 + 4 + r))

-- ---- laws: codes

pub agent_code : {t : Table} {n x a : ℕ} {s : List ℕ} → Opened t n s → x < n → a ≡ (t.row x).agent → a < AGENTS
agent_code {t} {n} {x} o l e =
    let r = o.rows in
    let h = (o.fit.coded x (omega arith)).agent in
    omega (arith, e, h)

pub class_code : {t : Table} {n x a : ℕ} {s : List ℕ} → Opened t n s → x < n → access (t.row x) ≡ true → a ≡ (t.row x).class → a < 4
class_code {t} {n} {x} o l is e =
    let r = o.rows in
    let h = o.fit.classed x (omega arith) is in
    omega (arith, e, h)

-- ---- laws: the loop that gathers

gather_skip : {q : ℕ → ℕ → Bool} {first r : Set} {k : ℕ} → ((j : ℕ) → q j k ≡ false) → Gathering q first r k → Gathering q first r (k + 1)
gather_skip {q} {first} {r} {k} off u = record { is = λ j. u.is j ∙ ap (λ (b : Bool). in_set first j or b) (sym (any_skip (q j) k (off j))) }

gather_more : {q : ℕ → ℕ → Bool} {first r s : Set} {k : ℕ} → ((j : ℕ) → in_set s j ≡ (in_set r j or q j k)) → Gathering q first r k → Gathering q first s (k + 1)
gather_more {q} {first} {r} {s} {k} e u =
    record {
      is = λ j.
          e j ∙ ap (λ (b : Bool). b or q j k) (u.is j) ∙ or_assoc (in_set first j) (any_below k (q j)) (q j k)
          ∙ ap (λ (b : Bool). in_set first j or b) (sym (any_step (q j) k));
    }

gather_first : {q : ℕ → ℕ → Bool} (first : Set) → Gathering q first first 0
gather_first {q} first = record { is = λ j. sym (or_off (in_set first j) _ (any_none (q j))) }

module _ (t : Table) (x : ℕ) (w : List ℕ) (z to₀ by₀ parts₀ : Set) where
  whole_off : (base a j : ℕ) → in_set z a ≡ false → whole_by t x z w base j a ≡ false
  unfolding whole_by
  whole_off base a j e = and_false_left _ _ (and_false_left _ _ e)

  narrow_off : (a j : ℕ) → in_set z a ≡ false → narrow_by t x z j a ≡ false
  unfolding narrow_by
  narrow_off a j e = and_false_left _ _ (and_false_left _ _ e)

  grasp_skip : (to by parts : Set) (k : ℕ) → in_set z k ≡ false → Grasping t x w z to₀ by₀ parts₀ to by parts k → Grasping t x w z to₀ by₀ parts₀ to by parts (k + 1)
  grasp_skip to by parts k e u =
      record {
        to = gather_skip (λ j. whole_off AVAILABLE_TO k j e) u.to;
        by = gather_skip (λ j. whole_off VISIBLE_BY k j e) u.by;
        parts = gather_skip (λ j. narrow_off k j e) u.parts;
      }

  pub grasp_begin : Walk z z × Grasping t x w z to₀ by₀ parts₀ to₀ by₀ parts₀ (next z)
  grasp_begin =
      walk_begin z (Grasping t x w z to₀ by₀ parts₀ to₀ by₀ parts₀) (grasp_skip to₀ by₀ parts₀)
      (record { to = gather_first to₀; by = gather_first by₀; parts = gather_first parts₀ })

  module _ {to by parts left rest : Set} {i : ℕ} (inv : Walk z left × Grasping t x w z to₀ by₀ parts₀ to by parts (next left)) (f : First left i) (h : Rest left rest) where
    here : Grasping t x w z to₀ by₀ parts₀ to by parts i
    here = subst (Grasping t x w z to₀ by₀ parts₀ to by parts) (first_next f) inv.1

    member : in_set z i ≡ true
    member = inv.0.sub i f.hit

    -- the row has all bytes of x
    pub grasp_whole : (a b more_to more_by : Set) → covers (t.row i) (t.row x) ≡ true → a ≡ set_at w (AVAILABLE_TO + 2 * i) → b ≡ set_at w (VISIBLE_BY + 2 * i)
        → ((j : ℕ) → in_set more_to j ≡ (in_set to j or in_set a j)) → ((j : ℕ) → in_set more_by j ≡ (in_set by j or in_set b j))
        → Walk z rest × Grasping t x w z to₀ by₀ parts₀ more_to more_by parts (next rest)
    unfolding whole_by narrow_by
    grasp_whole a b more_to more_by e ea eb et ey =
        walk_turn z (Grasping t x w z to₀ by₀ parts₀ more_to more_by parts) (grasp_skip more_to more_by parts) inv.0 f h
        (record {
          to = gather_more (λ j. et j ∙ ap (λ (c : Bool). in_set to j or c) (one AVAILABLE_TO j a ea)) here.to;
          by = gather_more (λ j. ey j ∙ ap (λ (c : Bool). in_set by j or c) (one VISIBLE_BY j b eb)) here.by;
          parts = gather_skip (λ j. and_false_left _ _ (and_false_right _ _ (ap not e))) here.parts;
        })
      where
        one : (base j : ℕ) (s : Set) → s ≡ set_at w (base + 2 * i) → in_set s j ≡ ((in_set z i and covers (t.row i) (t.row x)) and in_set (nth w base i) j)
        one base j s q = ap (λ (y : Set). in_set y j) q ∙ sym (and_on _ _ (and_true member e))

    -- the row lacks some
    pub grasp_part : (a more : Set) → covers (t.row i) (t.row x) ≡ false → ((j : ℕ) → in_set a j ≡ eqb j i)
        → ((j : ℕ) → in_set more j ≡ (in_set parts j or in_set a j)) → Walk z rest × Grasping t x w z to₀ by₀ parts₀ to by more (next rest)
    unfolding whole_by narrow_by
    grasp_part a more e ea em =
        walk_turn z (Grasping t x w z to₀ by₀ parts₀ to by more) (grasp_skip to by more) inv.0 f h
        (record {
          to = gather_skip (λ j. and_false_left _ _ (and_false_right _ _ e)) here.to;
          by = gather_skip (λ j. and_false_left _ _ (and_false_right _ _ e)) here.by;
          parts = gather_more (λ j. em j ∙ ap (λ (c : Bool). in_set parts j or c) (ea j ∙ sym (and_on _ _ (and_true member (ap not e))))) here.parts;
        })

  pub grasp_all : (to by parts left : Set) → any_below ROWS (in_set left) ≡ false → Grasping t x w z to₀ by₀ parts₀ to by parts (next left)
      → Grasping t x w z to₀ by₀ parts₀ to by parts ROWS
  grasp_all to by parts left e u = walk_end z (Grasping t x w z to₀ by₀ parts₀ to by parts) (grasp_skip to by parts) left e u

-- ---- laws: what was gathered

first_makes : (t : Table) (x a : ℕ) → x < t.rows → a < t.rows → first_plain t x a ≡ true → makes t a ≡ true
unfolding first_plain makes
first_makes t x a l m e = (split (split (sym (behind_is t x a l m) ∙ (split (split (split e).0).0).1)).0).0

module _ {t : Table} {n : ℕ} {s : List ℕ} (o : Opened t n s) (x : ℕ) (l : x < n) {z : Set} (hz : Rows n (first_plain t x) z) where
  first_in : (a : ℕ) → in_set z a ≡ true → (a < n) × (first_plain t x a ≡ true)
  first_in a e = member_in a hz e

  first_out : (a : ℕ) → a < n → first_plain t x a ≡ true → in_set z a ≡ true
  first_out a m e = hz.is a ∙ and_true (lt-ltb a n m) e

  made_by : (a : ℕ) → a < n → first_plain t x a ≡ true → makes t a ≡ true
  made_by a m e = let r = o.rows in first_makes t x a (omega arith) (omega arith) e

  whole_rows : (w : List ℕ) (base : ℕ) (set : ℕ → ℕ → Bool) → GridOn (makes t) base n set w → (j : ℕ)
      → any_below ROWS (whole_by t x z w base j) ≡ (ltb j n and any_below t.rows (λ a. whole_plain t x a and set a j))
  unfolding whole_by whole_plain
  whole_rows w base set g j = bool_ext _ _ forth back
    where
      forth : any_below ROWS (whole_by t x z w base j) ≡ true → (ltb j n and any_below t.rows (λ a. (first_plain t x a and covers (t.row a) (t.row x)) and set a j)) ≡ true
      forth e =
          let a = any_out (whole_by t x z w base j) ROWS e in
          let p = split a.2 in
          let q = split p.0 in
          let i = first_in a.0 q.0 in
          let m = i.0 in
          let r = o.rows in
          let d = split (sym ((g.row a.0 m (made_by a.0 m i.1)).is j) ∙ p.1) in
          and_true d.0 (any_in (λ a. (first_plain t x a and covers (t.row a) (t.row x)) and set a j) t.rows a.0 (omega arith) (and_true (and_true i.1 q.1) d.1))

      back : (ltb j n and any_below t.rows (λ a. (first_plain t x a and covers (t.row a) (t.row x)) and set a j)) ≡ true → any_below ROWS (whole_by t x z w base j) ≡ true
      back e =
          let d = split e in
          let a = any_out (λ a. (first_plain t x a and covers (t.row a) (t.row x)) and set a j) t.rows d.1 in
          let p = split a.2 in
          let q = split p.0 in
          let r = o.rows in
          let b = few o in
          let k = a.1 in
          let m : a.0 < n = omega arith in
          any_in (whole_by t x z w base j) ROWS a.0 (omega arith)
          (and_true (and_true (first_out a.0 m q.0) q.1) ((g.row a.0 m (made_by a.0 m q.0)).is j ∙ and_true d.0 p.1))

  strong_rows : (w : List ℕ) (base : ℕ) (set : ℕ → ℕ → Bool) {first r : Set} → GridOn (makes t) base n set w
      → Rows n (λ i. kept t (t.row x).agent (t.row x).class (x + 1) (λ a. set a i)) first → Gathering (whole_by t x z w base) first r ROWS
      → Rows n (strong_to t set x) r
  strong_rows w base set {first} {r} g h u =
      record {
        is = λ j.
            u.is j ∙ ap₂ ◌or◌ (h.is j) (whole_rows w base set g j)
            ∙ and_or (ltb j n) (kept t (t.row x).agent (t.row x).class (x + 1) (λ a. set a j)) (any_below t.rows (λ a. whole_plain t x a and set a j))
            ∙ ap (λ (c : Bool). ltb j n and c) (joined_is j);
      }
    where
      joined_is : (j : ℕ) → (kept t (t.row x).agent (t.row x).class (x + 1) (λ a. set a j) or any_below t.rows (λ a. whole_plain t x a and set a j)) ≡ strong_to t set x j
      joined_is j =
          let up : x + 1 ≡ suc x = add-one x in
          ap (λ (m : ℕ). kept t (t.row x).agent (t.row x).class m (λ a. set a j) or any_below t.rows (λ a. whole_plain t x a and set a j)) up
          ∙ sym (strong_kept t set x j (let r = o.rows in omega arith))

  narrow_rows : {first r : Set} → ((j : ℕ) → in_set first j ≡ false) → Gathering (narrow_by t x z) first r ROWS → Rows n (narrow t x) r
  unfolding narrow_by narrow
  narrow_rows {first} {r} none u = record { is = λ j. u.is j ∙ or_off_left _ _ (none j) ∙ bool_ext _ _ (forth j) (back j) }
    where
      forth : (j : ℕ) → any_below ROWS (narrow_by t x z j) ≡ true → (ltb j n and (first_plain t x j and not (covers (t.row j) (t.row x)))) ≡ true
      forth j e =
          let a = any_out (narrow_by t x z j) ROWS e in
          let p = split a.2 in
          let q = split p.0 in
          let i = first_in a.0 q.0 in
          subst (λ (k : ℕ). (ltb k n and (first_plain t x k and not (covers (t.row k) (t.row x)))) ≡ true) (sym (eqb-true j a.0 p.1))
          (and_true (lt-ltb a.0 n i.0) (and_true i.1 q.1))

      back : (j : ℕ) → (ltb j n and (first_plain t x j and not (covers (t.row j) (t.row x)))) ≡ true → any_below ROWS (narrow_by t x z j) ≡ true
      back j e =
          let d = split e in
          let p = split d.1 in
          let m = ltb-true j n d.0 in
          let b = few o in
          any_in (narrow_by t x z j) ROWS j (omega arith) (and_true (and_true (first_out j m p.0) p.1) (eq-eqb j j refl))

  pub grasp_end : {w made : List ℕ} {to₀ by₀ parts₀ to by parts : Set} (ag cl : ℕ) → Locating t n w → Carried t n (x + 1) made → access (t.row x) ≡ true
      → ag ≡ (t.row x).agent → cl ≡ (t.row x).class → to₀ ≡ set_at made (0 + 2 * (ag * 8 + cl)) → by₀ ≡ set_at made (0 + 2 * (ag * 8 + cl + 4))
      → ((j : ℕ) → in_set parts₀ j ≡ false) → Grasping t x w z to₀ by₀ parts₀ to by parts ROWS → Grasps t n x (record { to = to; by = by; parts = parts })
  grasp_end {w} {made} ag cl lc cr is ea ec et eb en u =
      record {
        to = strong_rows w AVAILABLE_TO (Leads.meets t) lc.available.to (rows_at (et ∙ ap₂ (λ (a c : ℕ). set_at made (0 + 2 * (a * 8 + c))) ea ec) (cr.to _ _ low small)) u.to;
        by = strong_rows w VISIBLE_BY (shown_to t) lc.available.by (rows_at (eb ∙ ap (set_at made) place) (cr.by _ _ low small)) u.by;
        parts = narrow_rows en u.parts;
      }
    where
      inside : x < t.rows
      inside = let r = o.rows in omega arith

      low : (t.row x).agent < AGENTS
      low = (o.fit.coded x inside).agent

      small : (t.row x).class < 4
      small = o.fit.classed x inside is

      place : 0 + 2 * (ag * 8 + cl + 4) ≡ 0 + 2 * ((t.row x).agent * 8 + 4 + (t.row x).class)
      place = omega (arith, ea, ec)

-- ---- laws: one row more is kept

module _ (t : Table) (n x : ℕ) where
  up_same : (set : ℕ → ℕ → Bool) (q g r i : ℕ) → (r ≡ q → wide_of t g r x ≡ false) → carried_up t set x q g r i ≡ carried_up t set x (q + 1) g r i
  unfolding carried_up
  up_same set q g r i off = ap (λ (b : Bool). kept t g r (x + 1) (λ a. set a i) or b) (go (ℕ_discrete r q) (dec_lt r q))
    where
      go : Dec (r ≡ q) → Dec (r < q) → (ltb r q and (wide_of t g r x and set x i)) ≡ (ltb r (q + 1) and (wide_of t g r x and set x i))
      go (yes e) d =
          let f : (wide_of t g r x and set x i) ≡ false = and_false_left _ _ (off e) in
          and_false_right (ltb r q) _ f ∙ sym (and_false_right (ltb r (q + 1)) _ f)
      go (no e) (yes l) = ap (λ (b : Bool). b and (wide_of t g r x and set x i)) (lt-ltb r q l ∙ sym (lt-ltb r (q + 1) (omega arith)))
      go (no e) (no l) = ap (λ (b : Bool). b and (wide_of t g r x and set x i)) (le-ltb r q (omega arith) ∙ sym (le-ltb r (q + 1) (omega (arith, e))))

  up_here : (set : ℕ → ℕ → Bool) (q g i : ℕ) → wide_of t g q x ≡ true → (carried_up t set x q g q i or set x i) ≡ carried_up t set x (q + 1) g q i
  unfolding carried_up
  up_here set q g i e =
      ap (λ (b : Bool). b or set x i) (or_off _ _ (and_false_left (ltb q q) _ (le-ltb q q (omega arith))))
      ∙ ap (λ (b : Bool). kept t g q (x + 1) (λ a. set a i) or b)
      (sym (and_on (ltb q (q + 1)) _ (lt-ltb q (q + 1) (omega arith)) ∙ and_on (wide_of t g q x) (set x i) e))

  pub carry_begin : {made : List ℕ} → Carried t n (x + 1) made → Carrying t n x 0 made
  unfolding carried_up
  carry_begin c =
      record {
        to = λ g r l m. rows_cong (λ i k. sym (or_off _ _ (and_false_left (ltb r 0) _ (le-ltb r 0 (omega arith))))) (c.to g r l m);
        by = λ g r l m. rows_cong (λ i k. sym (or_off _ _ (and_false_left (ltb r 0) _ (le-ltb r 0 (omega arith))))) (c.by g r l m);
      }

  -- x has not the class q
  pub carry_pass : {made : List ℕ} {q : ℕ} → meets (t.row x).classes (single q) ≡ false → Carrying t n x q made → Carrying t n x (q + 1) made
  unfolding wide_of
  carry_pass {made} {q} e c =
      record {
        to = λ g r l m. rows_cong (λ i k. up_same (Leads.meets t) q g r i (off g r)) (c.to g r l m);
        by = λ g r l m. rows_cong (λ i k. up_same (shown_to t) q g r i (off g r)) (c.by g r l m);
      }
    where
      off : (g r : ℕ) → r ≡ q → (not (plain (t.row x)) and avails (t.row x) and eqb (t.row x).agent g and meets (t.row x).classes (single r)) ≡ false
      off g r d = and_false_right _ _ (ap (λ (k : ℕ). meets (t.row x).classes (single k)) d ∙ e)

  -- x has it: two sets took in what x makes available
  pub carry_turn : {made u v : List ℕ} {q : ℕ} (ag : ℕ) {a b : Set} → Widely t x → ag < AGENTS → ag ≡ (t.row x).agent → q < 4 → meets (t.row x).classes (single q) ≡ true
      → Rows n (Leads.meets t x) a → Rows n (shown_to t x) b
      → Stored (0 + 2 * (ag * 8 + q)) (joined made (0 + 2 * (ag * 8 + q)) a) made u
      → Stored (0 + 2 * (ag * 8 + 4 + q)) (joined u (0 + 2 * (ag * 8 + 4 + q)) b) u v → Carrying t n x q made → Carrying t n x (q + 1) v
  unfolding wide_of joined makes
  carry_turn {made} {u} {v} {q} ag {a} {b} wide low ea lq e ra rb sa sb c =
      record { to = λ g r l m. to_is g r l m (ℕ_discrete g ag) (ℕ_discrete r q); by = λ g r l m. by_is g r l m (ℕ_discrete g ag) (ℕ_discrete r q) }
    where
      on : (not (plain (t.row x)) and avails (t.row x) and eqb (t.row x).agent ag and meets (t.row x).classes (single q)) ≡ true
      on = and_true (and_true (and_true (ap not wide.wide) wide.available) (eq-eqb _ _ (sym ea))) e

      off : (g r : ℕ) → (g ≡ ag → r ≡ q → ⊥) → r ≡ q
          → (not (plain (t.row x)) and avails (t.row x) and eqb (t.row x).agent g and meets (t.row x).classes (single r)) ≡ false
      off g r d f = and_false_left _ _ (and_false_right _ _ (ne_eqb _ _ (λ i. d (sym i ∙ sym ea) f)))

      to_other : (g r : ℕ) → g < AGENTS → r < 4 → (g ≡ ag → r ≡ q → ⊥) → Rows n (carried_up t (Leads.meets t) x (q + 1) g r) (nth v 0 (g * 8 + r))
      to_other g r l m d =
          rows_cong (λ i k. up_same (Leads.meets t) q g r i (off g r d))
          (rows_at (set_kept (0 + 2 * (g * 8 + r)) (λ h. omega arith) sb.frame ∙ set_kept (0 + 2 * (g * 8 + r)) (λ h. apart g r l m d h) sa.frame) (c.to g r l m))
        where
          apart : (g r : ℕ) → g < AGENTS → r < 4 → (g ≡ ag → r ≡ q → ⊥) → 0 + 2 * (ag * 8 + q) < 0 + 2 * (g * 8 + r) + 2 → 0 + 2 * (ag * 8 + q) + 2 ≤ 0 + 2 * (g * 8 + r)
          apart g r l m d h = go (ℕ_discrete g ag) (ℕ_discrete r q)
            where
              go : Dec (g ≡ ag) → Dec (r ≡ q) → 0 + 2 * (ag * 8 + q) + 2 ≤ 0 + 2 * (g * 8 + r)
              go (yes i) (yes k) = absurd (d i k)
              go (yes i) (no k) = omega (arith, i, k, h, l, m, lq)
              go (no i) k = omega (arith, i, h, l, m, lq)

      by_other : (g r : ℕ) → g < AGENTS → r < 4 → (g ≡ ag → r ≡ q → ⊥) → Rows n (carried_up t (shown_to t) x (q + 1) g r) (nth v 0 (g * 8 + 4 + r))
      by_other g r l m d =
          rows_cong (λ i k. up_same (shown_to t) q g r i (off g r d))
          (rows_at (set_kept (0 + 2 * (g * 8 + 4 + r)) (λ h. apart g r l m d h) sb.frame ∙ set_kept (0 + 2 * (g * 8 + 4 + r)) (λ h. omega arith) sa.frame) (c.by g r l m))
        where
          apart : (g r : ℕ) → g < AGENTS → r < 4 → (g ≡ ag → r ≡ q → ⊥) → 0 + 2 * (ag * 8 + 4 + q) < 0 + 2 * (g * 8 + 4 + r) + 2
              → 0 + 2 * (ag * 8 + 4 + q) + 2 ≤ 0 + 2 * (g * 8 + 4 + r)
          apart g r l m d h = go (ℕ_discrete g ag) (ℕ_discrete r q)
            where
              go : Dec (g ≡ ag) → Dec (r ≡ q) → 0 + 2 * (ag * 8 + 4 + q) + 2 ≤ 0 + 2 * (g * 8 + 4 + r)
              go (yes i) (yes k) = absurd (d i k)
              go (yes i) (no k) = omega (arith, i, k, h, l, m, lq)
              go (no i) k = omega (arith, i, h, l, m, lq)

      to_here : Rows n (carried_up t (Leads.meets t) x (q + 1) ag q) (nth v 0 (ag * 8 + q))
      to_here =
          rows_cong (λ i k. up_here (Leads.meets t) q ag i on)
          (rows_or (c.to ag q low lq) ra (λ j. ap (λ (y : Set). in_set y j) (set_kept (0 + 2 * (ag * 8 + q)) (λ h. omega arith) sb.frame) ∙ sa.is j))

      by_here : Rows n (carried_up t (shown_to t) x (q + 1) ag q) (nth v 0 (ag * 8 + 4 + q))
      by_here =
          rows_cong (λ i k. up_here (shown_to t) q ag i on)
          (rows_or (c.by ag q low lq) rb (λ j. sb.is j ∙ ap (λ (y : Set). in_set y j or in_set b j) (set_kept (0 + 2 * (ag * 8 + 4 + q)) (λ h. omega arith) sa.frame)))

      to_is : (g r : ℕ) → g < AGENTS → r < 4 → Dec (g ≡ ag) → Dec (r ≡ q) → Rows n (carried_up t (Leads.meets t) x (q + 1) g r) (nth v 0 (g * 8 + r))
      to_is g r l m (yes i) (yes k) =
          subst (λ (h : ℕ). Rows n (carried_up t (Leads.meets t) x (q + 1) h r) (nth v 0 (h * 8 + r))) (sym i)
          (subst (λ (h : ℕ). Rows n (carried_up t (Leads.meets t) x (q + 1) ag h) (nth v 0 (ag * 8 + h))) (sym k) to_here)
      to_is g r l m (yes i) (no k) = to_other g r l m (λ e f. k f)
      to_is g r l m (no i) k = to_other g r l m (λ e f. i e)

      by_is : (g r : ℕ) → g < AGENTS → r < 4 → Dec (g ≡ ag) → Dec (r ≡ q) → Rows n (carried_up t (shown_to t) x (q + 1) g r) (nth v 0 (g * 8 + 4 + r))
      by_is g r l m (yes i) (yes k) =
          subst (λ (h : ℕ). Rows n (carried_up t (shown_to t) x (q + 1) h r) (nth v 0 (h * 8 + 4 + r))) (sym i)
          (subst (λ (h : ℕ). Rows n (carried_up t (shown_to t) x (q + 1) ag h) (nth v 0 (ag * 8 + 4 + h))) (sym k) by_here)
      by_is g r l m (yes i) (no k) = by_other g r l m (λ e f. k f)
      by_is g r l m (no i) k = by_other g r l m (λ e f. i e)

  pub carry_end : {made : List ℕ} → x < t.rows → 512 ≤ length made → Carrying t n x 4 made → Carried t n x made
  unfolding carried_up
  carry_end {made} there room c =
      record {
        room = room;
        to = λ g r l m. rows_cong (λ i k. up (Leads.meets t) g r i m) (c.to g r l m);
        by = λ g r l m. rows_cong (λ i k. up (shown_to t) g r i m) (c.by g r l m);
      }
    where
      up : (set : ℕ → ℕ → Bool) (g r i : ℕ) → r < 4
          → (kept t g r (x + 1) (λ a. set a i) or (ltb r 4 and (wide_of t g r x and set x i))) ≡ kept t g r x (λ a. set a i)
      up set g r i m =
          let e : x + 1 ≡ suc x = add-one x in
          ap₂ (λ (k : ℕ) (b : Bool). kept t g r k (λ a. set a i) or b) e (and_on (ltb r 4) _ (lt-ltb r 4 m)) ∙ sym (kept_step t g r x (λ a. set a i) there)

  -- a turn of the loop: made was the list before it, r is the list after it
  pub carry_taken : {made u v r : List ℕ} {q m : ℕ} (ag : ℕ) {a b : Set} → r ≡ v → length made ≡ m → Widely t x → ag < AGENTS → ag ≡ (t.row x).agent → q < 4
      → meets (t.row x).classes (single q) ≡ true → Rows n (Leads.meets t x) a → Rows n (shown_to t x) b
      → Stored (0 + 2 * (ag * 8 + q)) (joined made (0 + 2 * (ag * 8 + q)) a) made u
      → Stored (0 + 2 * (ag * 8 + 4 + q)) (joined u (0 + 2 * (ag * 8 + 4 + q)) b) u v → Carrying t n x q made → (length r ≡ m) × Carrying t n x (q + 1) r
  carry_taken {q = q} {m = m} ag is len wide low ea lq e ra rb sa sb c =
      subst (λ (w : List ℕ). (length w ≡ m) × Carrying t n x (q + 1) w) (sym is)
      (sb.frame.len ∙ sa.frame.len ∙ len, carry_turn ag wide low ea lq e ra rb sa sb c)

  pub carry_left : {made r : List ℕ} {q m : ℕ} → r ≡ made → length made ≡ m → meets (t.row x).classes (single q) ≡ false → Carrying t n x q made
      → (length r ≡ m) × Carrying t n x (q + 1) r
  carry_left {q = q} {m = m} is len e c = subst (λ (w : List ℕ). (length w ≡ m) × Carrying t n x (q + 1) w) (sym is) (len, carry_pass e c)
