-- First and last elements as sets of rows: those behind a writer and those ahead of a reader, by their agent and their place on the
-- page; the wide ones behind it, kept by agent and class while walking up the page; and the readers that see one of a set. Assumes nothing.
use Rattle.std.specs.Prelude.{◌≡◌, refl, cond, ◌↔◌}
use Rattle.std.proofs.Math.Path.{sym, ap}
use Rattle.std.proofs.Common.{◌∙◌, subst, arith}
use Rattle.std.proofs.Math.Bool.{Bool, true, false, not}
use Rattle.std.proofs.Math.Logic.{⊎_elim}
use Prim.Native.Nat.{ℕ, suc, ◌+◌, ◌*◌, ◌%◌, ◌≤◌, ◌<◌}
use Rattle.std.proofs.Math.Decide.{dec_lt, ℕ_discrete}
use Rattle.std.proofs.Math.Dec.{ltb, leb, eqb}
use borrow.Author.Tests.{eqb-true, eq-eqb, ne_eqb, leb-true, le-leb, ltb-true, lt-ltb}
use Rattle.finite.specs.Logic.{◌and◌, ◌or◌, split, and_true, or_cases, or_left, or_right, which, not_both, not_in, not_out, bool_ext, and_on_right}
use Rattle.finite.specs.Logic.{and_false_left, or_off}
use Rattle.finite.specs.Below.{any_below, any_in, any_out, any_not, any_cong}
use Rattle.model.specs.declared.Row.{Row}
use Rattle.model.specs.Row.{plain, makes_available, makes_visible, meets, single, class_in}
use Rattle.model.specs.Table.{Table}
use Rattle.model.specs.Scope.{INVOCATION}
use Rattle.model.specs.Moment.{BEFORE, AT, AFTER, row_in, part, itself, availability_of, visibility_of, moment_of, moment_in, program_ordered, availability, visibility}
use Rattle.model.specs.Moment.{program_order}
use Rattle.model.specs.Availability.{same_reference, availability_moment, visibility_moment}
use Rattle.model_placing.specs.Leads.{available_row, visible_row, cond_on, cond_off}

-- ---- definitions

-- r has an availability operation; a visibility operation
unfoldable pub avails : Row → Bool
avails r = makes_available r and not (eqb r.scope INVOCATION)

unfoldable pub shews : Row → Bool
shews r = makes_visible r and not (eqb r.scope INVOCATION)

-- a is an availability operation of x's agent behind x; v is a visibility operation of y's agent ahead of y
unfoldable pub behind : Table → ℕ → ℕ → Bool
behind t x a = availability t (availability_moment t a) and program_order t (itself x) (availability_moment t a)

unfoldable pub ahead : Table → ℕ → ℕ → Bool
ahead t y v = visibility t (visibility_moment t v) and program_order t (visibility_moment t v) (itself y)

-- i comes before j on the page; where the row between is plain, it may be that row itself
unfoldable pub up_to : Bool → ℕ → ℕ → Bool
up_to itself_too i j = cond itself_too (leb i j) (ltb i j)

-- an atomic or barrier of the agent g that makes available and has the class q
unfoldable pub wide_of : Table → ℕ → ℕ → ℕ → Bool
wide_of t g q a = not (plain (t.row a)) and avails (t.row a) and eqb (t.row a).agent g and meets (t.row a).classes (single q)

-- KEPT[g][q], with the rows from m done: what such rows lead to, of a set z
unfoldable pub kept_by : Table → ℕ → ℕ → ℕ → (ℕ → Bool) → ℕ → Bool
kept_by t g q m z a = leb m a and wide_of t g q a and z a

unfoldable pub kept : Table → ℕ → ℕ → ℕ → (ℕ → Bool) → Bool
kept t g q m z = any_below t.rows (kept_by t g q m z)

-- a is a wide first element of x
unfoldable pub first_wide : Table → ℕ → ℕ → Bool
first_wide t x a = not (plain (t.row a)) and behind t x a and class_in (t.row x) (t.row a).classes

-- the atomics and barriers that make visible and have the class q; the plain reads of a row's reference that make visible
unfoldable pub vis_wide : Table → ℕ → ℕ → Bool
vis_wide t q v = not (plain (t.row v)) and shews (t.row v) and meets (t.row v).classes (single q)

unfoldable pub vis_plain : Table → ℕ → ℕ → Bool
vis_plain t y v = plain (t.row v) and shews (t.row v) and same_reference (t.row v) (t.row y)

-- y's wide last elements, and its plain ones whatever their bytes
unfoldable pub last_wide : Table → ℕ → ℕ → Bool
last_wide t y v = not (plain (t.row v)) and ahead t y v and class_in (t.row y) (t.row v).classes

unfoldable pub last_plain : Table → ℕ → ℕ → Bool
last_plain t y v = plain (t.row v) and ahead t y v and same_reference (t.row v) (t.row y)

-- y comes after (or is) a row of its agent in the set
unfoldable pub seen_from : Table → Bool → (ℕ → Bool) → ℕ → ℕ → Bool
seen_from t itself_too set y v = set v and eqb (t.row v).agent (t.row y).agent and up_to itself_too v y

unfoldable pub seen : Table → Bool → (ℕ → Bool) → ℕ → Bool
seen t itself_too set y = any_below t.rows (seen_from t itself_too set y)

-- the set without the rows of the agent g
unfoldable pub less_agent : Table → (ℕ → Bool) → ℕ → ℕ → Bool
less_agent t set g v = set v and not (eqb (t.row v).agent g)

-- ---- laws: moments

module _ (t : Table) where
  parts : (b : Bool) (i : ℕ) → ((3 * i + cond b AFTER BEFORE) % 3 ≡ cond b AFTER BEFORE) × ((3 * i + cond b BEFORE AFTER) % 3 ≡ cond b BEFORE AFTER)
  parts true i = (omega arith, omega arith)
  parts false i = (omega arith, omega arith)

  available_part_lem : (i : ℕ) → part (availability_moment t i) ≡ cond (plain (t.row i)) AFTER BEFORE
  unfolding availability_moment
  available_part_lem i = (parts (plain (t.row i)) i).0

  visible_part_lem : (i : ℕ) → part (visibility_moment t i) ≡ cond (plain (t.row i)) BEFORE AFTER
  unfolding visibility_moment
  visible_part_lem i = (parts (plain (t.row i)) i).1

  pub available_is : (a : ℕ) → availability t (availability_moment t a) ≡ avails (t.row a)
  unfolding availability availability_of avails
  available_is a = rw (available_row t a, available_part_lem a) (and_on_right _ _ (eq-eqb (cond (plain (t.row a)) AFTER BEFORE) _ refl))

  pub visible_is : (v : ℕ) → visibility t (visibility_moment t v) ≡ shews (t.row v)
  unfolding visibility visibility_of shews
  visible_is v = rw (visible_row t v, visible_part_lem v) (and_on_right _ _ (eq-eqb (cond (plain (t.row v)) BEFORE AFTER) _ refl))

  pub itself_moment : (x : ℕ) → x < t.rows → moment_in t.rows (t.row (row_in (itself x))) (itself x) ≡ true
  unfolding moment_in moment_of
  itself_moment x l = and_true (lt-ltb (row_in (itself x)) t.rows (omega arith)) (or_left _ (or_left _ (eq-eqb (part (itself x)) AT (omega arith))))

  pub available_moment : (a : ℕ) → a < t.rows → availability t (availability_moment t a) ≡ true
      → moment_in t.rows (t.row (row_in (availability_moment t a))) (availability_moment t a) ≡ true
  unfolding moment_in moment_of availability
  available_moment a l e =
      let q = available_row t a in
      and_true (lt-ltb (row_in (availability_moment t a)) t.rows (omega arith)) (or_left _ (or_right _ e))

  pub visible_moment : (v : ℕ) → v < t.rows → visibility t (visibility_moment t v) ≡ true → moment_in t.rows (t.row (row_in (visibility_moment t v))) (visibility_moment t v) ≡ true
  unfolding moment_in moment_of visibility
  visible_moment v l e =
      let q = visible_row t v in
      and_true (lt-ltb (row_in (visibility_moment t v)) t.rows (omega arith)) (or_right _ e)

  -- program order of two moments that there are
  pub order_in : (m k : ℕ) → m < k → (t.row (row_in m)).agent ≡ (t.row (row_in k)).agent → moment_in t.rows (t.row (row_in m)) m ≡ true
      → moment_in t.rows (t.row (row_in k)) k ≡ true → program_order t m k ≡ true
  unfolding program_order program_ordered
  order_in m k l e f g = and_true (and_true (and_true (lt-ltb m k l) (eq-eqb _ _ e)) f) g

  pub order_out : (m k : ℕ) → program_order t m k ≡ true → (m < k) × ((t.row (row_in m)).agent ≡ (t.row (row_in k)).agent)
  unfolding program_order program_ordered
  order_out m k e = let h = split (split e).0 in (ltb-true m k (split h.0).0, eqb-true _ _ (split h.0).1)

  behind_place : (p : Bool) (x a : ℕ) → (3 * x + AT < 3 * a + cond p AFTER BEFORE) ↔ (up_to p x a ≡ true)
  unfolding up_to
  behind_place true x a = (λ l. le-leb x a (omega arith), λ e. let l = leb-true x a e in omega arith)
  behind_place false x a = (λ l. lt-ltb x a (omega arith), λ e. let l = ltb-true x a e in omega arith)

  ahead_place : (p : Bool) (v y : ℕ) → (3 * v + cond p BEFORE AFTER < 3 * y + AT) ↔ (up_to p v y ≡ true)
  unfolding up_to
  ahead_place true v y = (λ l. le-leb v y (omega arith), λ e. let l = leb-true v y e in omega arith)
  ahead_place false v y = (λ l. lt-ltb v y (omega arith), λ e. let l = ltb-true v y e in omega arith)

  behind_page : (x a : ℕ) → (itself x < availability_moment t a) ↔ (up_to (plain (t.row a)) x a ≡ true)
  unfolding availability_moment
  behind_page x a = behind_place (plain (t.row a)) x a

  ahead_page : (v y : ℕ) → (visibility_moment t v < itself y) ↔ (up_to (plain (t.row v)) v y ≡ true)
  unfolding visibility_moment
  ahead_page v y = ahead_place (plain (t.row v)) v y

  pub itself_agent : (x : ℕ) → (t.row (row_in (itself x))).agent ≡ (t.row x).agent
  itself_agent x = let e : row_in (itself x) ≡ x = omega arith in ap (λ (i : ℕ). (t.row i).agent) e

  pub available_agent : (a : ℕ) → (t.row (row_in (availability_moment t a))).agent ≡ (t.row a).agent
  available_agent a = ap (λ (i : ℕ). (t.row i).agent) (available_row t a)

  pub visible_agent : (v : ℕ) → (t.row (row_in (visibility_moment t v))).agent ≡ (t.row v).agent
  visible_agent v = ap (λ (i : ℕ). (t.row i).agent) (visible_row t v)

  -- ---- laws: elements by agent and page

  pub behind_is : (x a : ℕ) → x < t.rows → a < t.rows
      → behind t x a ≡ (avails (t.row a) and eqb (t.row a).agent (t.row x).agent and up_to (plain (t.row a)) x a)
  unfolding behind
  behind_is x a l m = bool_ext _ _ forth back
    where
      forth : (availability t (availability_moment t a) and program_order t (itself x) (availability_moment t a)) ≡ true
          → (avails (t.row a) and eqb (t.row a).agent (t.row x).agent and up_to (plain (t.row a)) x a) ≡ true
      forth e =
          let o = order_out (itself x) (availability_moment t a) (split e).1 in
          and_true (and_true (sym (available_is a) ∙ (split e).0) (eq-eqb _ _ (sym (available_agent a) ∙ sym o.1 ∙ itself_agent x)))
          ((behind_page x a).0 o.0)

      back : (avails (t.row a) and eqb (t.row a).agent (t.row x).agent and up_to (plain (t.row a)) x a) ≡ true
          → (availability t (availability_moment t a) and program_order t (itself x) (availability_moment t a)) ≡ true
      back e =
          let h = split (split e).0 in
          let av : availability t (availability_moment t a) ≡ true = available_is a ∙ h.0 in
          and_true av
          (order_in (itself x) (availability_moment t a) ((behind_page x a).1 (split e).1)
          (itself_agent x ∙ sym (eqb-true _ _ h.1) ∙ sym (available_agent a)) (itself_moment x l) (available_moment a m av))

  pub ahead_is : (y v : ℕ) → y < t.rows → v < t.rows
      → ahead t y v ≡ (shews (t.row v) and eqb (t.row v).agent (t.row y).agent and up_to (plain (t.row v)) v y)
  unfolding ahead
  ahead_is y v l m = bool_ext _ _ forth back
    where
      forth : (visibility t (visibility_moment t v) and program_order t (visibility_moment t v) (itself y)) ≡ true
          → (shews (t.row v) and eqb (t.row v).agent (t.row y).agent and up_to (plain (t.row v)) v y) ≡ true
      forth e =
          let o = order_out (visibility_moment t v) (itself y) (split e).1 in
          and_true (and_true (sym (visible_is v) ∙ (split e).0) (eq-eqb _ _ (sym (visible_agent v) ∙ o.1 ∙ itself_agent y)))
          ((ahead_page v y).0 o.0)

      back : (shews (t.row v) and eqb (t.row v).agent (t.row y).agent and up_to (plain (t.row v)) v y) ≡ true
          → (visibility t (visibility_moment t v) and program_order t (visibility_moment t v) (itself y)) ≡ true
      back e =
          let h = split (split e).0 in
          let vi : visibility t (visibility_moment t v) ≡ true = visible_is v ∙ h.0 in
          and_true vi
          (order_in (visibility_moment t v) (itself y) ((ahead_page v y).1 (split e).1)
          (visible_agent v ∙ eqb-true _ _ h.1 ∙ sym (itself_agent y)) (visible_moment v m vi) (itself_moment y l))

  -- ---- laws: kept up the page

  -- nothing is kept at the end of the page
  pub kept_none : (g q m : ℕ) (z : ℕ → Bool) → t.rows ≤ m → kept t g q m z ≡ false
  unfolding kept kept_by
  kept_none g q m z l =
      any_not (kept_by t g q m z) t.rows
      (λ a h. ⊎_elim (λ e. let o = leb-true m a (split (split e).0).0 in absurd (omega arith)) (λ f. f) (which (kept_by t g q m z a)))

  -- one row up
  pub kept_step : (g q m : ℕ) (z : ℕ → Bool) → m < t.rows → kept t g q m z ≡ (kept t g q (suc m) z or (wide_of t g q m and z m))
  unfolding kept kept_by
  kept_step g q m z l = bool_ext _ _ forth back
    where
      one : (a : ℕ) → a < t.rows → kept_by t g q m z a ≡ true → Dec (a ≡ m) → (kept t g q (suc m) z or (wide_of t g q m and z m)) ≡ true
      one a h e (yes i) =
          let u = split e in
          or_right (kept t g q (suc m) z)
          (and_true (subst (λ (j : ℕ). wide_of t g q j ≡ true) i (split u.0).1) (subst (λ (j : ℕ). z j ≡ true) i u.1))
      one a h e (no i) =
          let u = split e in
          let o = leb-true m a (split u.0).0 in
          or_left _ (any_in (kept_by t g q (suc m) z) t.rows a h (and_true (and_true (le-leb (suc m) a (omega arith)) (split u.0).1) u.1))

      forth : any_below t.rows (kept_by t g q m z) ≡ true → (kept t g q (suc m) z or (wide_of t g q m and z m)) ≡ true
      forth e = let a = any_out (kept_by t g q m z) t.rows e in one a.0 a.1 a.2 (ℕ_discrete a.0 m)

      back : (kept t g q (suc m) z or (wide_of t g q m and z m)) ≡ true → any_below t.rows (kept_by t g q m z) ≡ true
      back e =
          ⊎_elim
          (λ h.
          let a = any_out (kept_by t g q (suc m) z) t.rows h in
          let u = split a.2 in
          let o = leb-true (suc m) a.0 (split u.0).0 in
          any_in (kept_by t g q m z) t.rows a.0 a.1 (and_true (and_true (le-leb m a.0 (omega arith)) (split u.0).1) u.1))
          (λ h. any_in (kept_by t g q m z) t.rows m l (and_true (and_true (le-leb m m (omega arith)) (split h).0) (split h).1))
          (or_cases (kept t g q (suc m) z) _ e)

  -- a row that is no atomic or barrier that makes available adds nothing
  pub kept_skip : (g q m : ℕ) (z : ℕ → Bool) → m < t.rows → (not (plain (t.row m)) and avails (t.row m)) ≡ false → kept t g q m z ≡ kept t g q (suc m) z
  unfolding wide_of
  kept_skip g q m z l e =
      kept_step g q m z l ∙ or_off _ _ (and_false_left _ _ (and_false_left _ _ (and_false_left _ _ e)))

  first_wide_is : (x a : ℕ) → x < t.rows → a < t.rows → first_wide t x a ≡ (leb (suc x) a and wide_of t (t.row x).agent (t.row x).class a)
  unfolding first_wide wide_of class_in up_to
  first_wide_is x a l m = bool_ext _ _ forth back
    where
      forth : (not (plain (t.row a)) and behind t x a and meets (t.row a).classes (single (t.row x).class)) ≡ true
          → (leb (suc x) a and (not (plain (t.row a)) and avails (t.row a) and eqb (t.row a).agent (t.row x).agent
          and meets (t.row a).classes (single (t.row x).class))) ≡ true
      forth e =
          let u = split (split e).0 in
          let b = split (sym (behind_is x a l m) ∙ u.1) in
          let c = split b.0 in
          let p = not_out (plain (t.row a)) u.0 in
          let f : ltb x a ≡ true = sym (cond_off _ _ _ p) ∙ b.1 in
          let o = ltb-true x a f in
          and_true (le-leb (suc x) a (omega arith)) (and_true (and_true (and_true u.0 c.0) c.1) (split e).1)

      back : (leb (suc x) a and (not (plain (t.row a)) and avails (t.row a) and eqb (t.row a).agent (t.row x).agent
          and meets (t.row a).classes (single (t.row x).class))) ≡ true
          → (not (plain (t.row a)) and behind t x a and meets (t.row a).classes (single (t.row x).class)) ≡ true
      back e =
          let o = leb-true (suc x) a (split e).0 in
          let u = split (split e).1 in
          let v = split u.0 in
          let w = split v.0 in
          let p = not_out (plain (t.row a)) w.0 in
          and_true (and_true w.0 (behind_is x a l m ∙ and_true (and_true w.1 v.1) (cond_off _ _ _ p ∙ lt-ltb x a (omega arith)))) u.1

  -- what is kept when x is reached is what all its wide first elements lead to
  pub kept_is : (x : ℕ) (z : ℕ → Bool) → x < t.rows
      → any_below t.rows (λ a. first_wide t x a and z a) ≡ kept t (t.row x).agent (t.row x).class (suc x) z
  unfolding kept kept_by
  kept_is x z l =
      any_cong _ _ t.rows (λ a m. ap (λ (c : Bool). c and z a) (first_wide_is x a l m))

  -- ---- laws: what is seen

  pub seen_none : (s : Bool) (set : ℕ → Bool) (y : ℕ) → ((v : ℕ) → v < t.rows → set v ≡ false) → seen t s set y ≡ false
  unfolding seen seen_from
  seen_none s set y h =
      any_not (seen_from t s set y) t.rows (λ v l. ⊎_elim (λ e. not_both (split (split e).0).0 (h v l)) (λ f. f) (which (seen_from t s set y v)))

  up_to_low : (s : Bool) (i j y : ℕ) → i ≤ j → up_to s j y ≡ true → up_to s i y ≡ true
  unfolding up_to
  up_to_low true i j y l e = let h = leb-true j y e in le-leb i y (omega arith)
  up_to_low false i j y l e = let h = ltb-true j y e in lt-ltb i y (omega arith)

  -- the first of an agent's stands for all of them
  pub seen_step : (s : Bool) (set : ℕ → Bool) (y f : ℕ) → f < t.rows → set f ≡ true → ((v : ℕ) → v < f → set v ≡ false)
      → seen t s set y ≡ ((eqb (t.row f).agent (t.row y).agent and up_to s f y) or seen t s (less_agent t set (t.row f).agent) y)
  unfolding seen seen_from less_agent
  seen_step s set y f l e low = bool_ext _ _ forth back
    where
      less : ℕ → Bool
      less v = set v and not (eqb (t.row v).agent (t.row f).agent) and eqb (t.row v).agent (t.row y).agent and up_to s v y

      one : (v : ℕ) → v < t.rows → seen_from t s set y v ≡ true → Dec ((t.row v).agent ≡ (t.row f).agent)
          → ((eqb (t.row f).agent (t.row y).agent and up_to s f y) or any_below t.rows (seen_from t s (less_agent t set (t.row f).agent) y)) ≡ true
      one v h o (yes q) = go (dec_lt v f)
        where
          go : Dec (v < f)
              → ((eqb (t.row f).agent (t.row y).agent and up_to s f y) or any_below t.rows (seen_from t s (less_agent t set (t.row f).agent) y)) ≡ true
          go (yes p) = not_both (split (split o).0).0 (low v p)
          go (no p) =
              or_left _ (and_true (eq-eqb _ _ (sym q ∙ eqb-true _ _ (split (split o).0).1)) (up_to_low s f v y (omega arith) (split o).1))
      one v h o (no q) =
          or_right _ (any_in (seen_from t s (less_agent t set (t.row f).agent) y) t.rows v h
          (and_true (and_true (and_true (split (split o).0).0 (not_in (ne_eqb _ _ q))) (split (split o).0).1) (split o).1))

      forth : any_below t.rows (seen_from t s set y) ≡ true
          → ((eqb (t.row f).agent (t.row y).agent and up_to s f y) or any_below t.rows (seen_from t s (less_agent t set (t.row f).agent) y)) ≡ true
      forth o = let v = any_out (seen_from t s set y) t.rows o in one v.0 v.1 v.2 (ℕ_discrete (t.row v.0).agent (t.row f).agent)

      back : ((eqb (t.row f).agent (t.row y).agent and up_to s f y) or any_below t.rows (seen_from t s (less_agent t set (t.row f).agent) y)) ≡ true
          → any_below t.rows (seen_from t s set y) ≡ true
      back o =
          ⊎_elim (λ h. any_in (seen_from t s set y) t.rows f l (and_true (and_true e (split h).0) (split h).1))
          (λ h.
          let v = any_out (seen_from t s (less_agent t set (t.row f).agent) y) t.rows h in
          let u = split v.2 in
          let k = split u.0 in
          any_in (seen_from t s set y) t.rows v.0 v.1 (and_true (and_true (split k.0).0 k.1) u.1))
          (or_cases (eqb (t.row f).agent (t.row y).agent and up_to s f y) _ o)

  pub last_wide_is : (y v : ℕ) (z : ℕ → Bool) → y < t.rows → v < t.rows
      → (last_wide t y v and z v) ≡ seen_from t false (λ u. vis_wide t (t.row y).class u and z u) y v
  unfolding last_wide vis_wide seen_from class_in up_to
  last_wide_is y v z l m = bool_ext _ _ forth back
    where
      forth : (not (plain (t.row v)) and ahead t y v and meets (t.row v).classes (single (t.row y).class) and z v) ≡ true
          → (not (plain (t.row v)) and shews (t.row v) and meets (t.row v).classes (single (t.row y).class) and z v
          and eqb (t.row v).agent (t.row y).agent and ltb v y) ≡ true
      forth e =
          let u = split (split e).0 in
          let w = split u.0 in
          let a = split (sym (ahead_is y v l m) ∙ w.1) in
          let b = split a.0 in
          let p = not_out (plain (t.row v)) w.0 in
          let f : ltb v y ≡ true = sym (cond_off _ _ _ p) ∙ a.1 in
          and_true (and_true (and_true (and_true (and_true w.0 b.0) u.1) (split e).1) b.1) f

      back : (not (plain (t.row v)) and shews (t.row v) and meets (t.row v).classes (single (t.row y).class) and z v
          and eqb (t.row v).agent (t.row y).agent and ltb v y) ≡ true
          → (not (plain (t.row v)) and ahead t y v and meets (t.row v).classes (single (t.row y).class) and z v) ≡ true
      back e =
          let h = split e in
          let i = split h.0 in
          let j = split i.0 in
          let k = split j.0 in
          let n = split k.0 in
          let p = not_out (plain (t.row v)) n.0 in
          and_true (and_true (and_true n.0 (ahead_is y v l m ∙ and_true (and_true n.1 i.1) (cond_off _ _ _ p ∙ h.1))) k.1) j.1

  pub last_plain_is : (y v : ℕ) (z : ℕ → Bool) → y < t.rows → v < t.rows
      → (last_plain t y v and z v) ≡ seen_from t true (λ u. vis_plain t y u and z u) y v
  unfolding last_plain vis_plain seen_from up_to
  last_plain_is y v z l m = bool_ext _ _ forth back
    where
      forth : (plain (t.row v) and ahead t y v and same_reference (t.row v) (t.row y) and z v) ≡ true
          → (plain (t.row v) and shews (t.row v) and same_reference (t.row v) (t.row y) and z v
          and eqb (t.row v).agent (t.row y).agent and leb v y) ≡ true
      forth e =
          let u = split (split e).0 in
          let w = split u.0 in
          let a = split (sym (ahead_is y v l m) ∙ w.1) in
          let b = split a.0 in
          let f : leb v y ≡ true = sym (cond_on (plain (t.row v)) _ _ w.0) ∙ a.1 in
          and_true (and_true (and_true (and_true (and_true w.0 b.0) u.1) (split e).1) b.1) f

      back : (plain (t.row v) and shews (t.row v) and same_reference (t.row v) (t.row y) and z v
          and eqb (t.row v).agent (t.row y).agent and leb v y) ≡ true
          → (plain (t.row v) and ahead t y v and same_reference (t.row v) (t.row y) and z v) ≡ true
      back e =
          let h = split e in
          let i = split h.0 in
          let j = split i.0 in
          let k = split j.0 in
          let n = split k.0 in
          and_true (and_true (and_true n.0 (ahead_is y v l m ∙ and_true (and_true n.1 i.1) (cond_on (plain (t.row v)) _ _ n.0 ∙ h.1))) k.1)
          j.1

  -- the readers that have a wide last element in z are those behind the first such row of their agent; so with plain ones
  pub lasts_wide : (y : ℕ) (z : ℕ → Bool) → y < t.rows
      → any_below t.rows (λ v. last_wide t y v and z v) ≡ seen t false (λ v. vis_wide t (t.row y).class v and z v) y
  unfolding seen
  lasts_wide y z l = any_cong _ _ t.rows (λ v m. last_wide_is y v z l m)

  pub lasts_plain : (y : ℕ) (z : ℕ → Bool) → y < t.rows
      → any_below t.rows (λ v. last_plain t y v and z v) ≡ seen t true (λ v. vis_plain t y v and z v) y
  unfolding seen
  lasts_plain y z l = any_cong _ _ t.rows (λ v m. last_plain_is y v z l m)
