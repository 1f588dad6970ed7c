-- What the search for the lowest row on a cycle does, on plain sets and lists. Assumes nothing.
use mathlib.Core.Path.{◌≡◌, refl, sym, ap, subst, ◌∙◌}
use mathlib.Core.Bool.{Bool, true, false, not}
use mathlib.Core.Logic.{⊎_elim}
use mathlib.Core.List.{List}
use Prim.Native.Nat.{ℕ, ◌+◌, ◌-◌, ◌*◌, ◌≤◌, ◌<◌}
use native.Mathlib.Omega.{arith}
use native.Mathlib.Decide.{dec_lt, ℕ_discrete}
use lib.Dec.{ltb, eqb}
use borrow.Author.Tests.{lt-ltb, ltb-true, eq-eqb, ne_eqb}
use Rattle.finite.specs.Logic.{◌and◌, ◌or◌, which, split, and_true, and_false_right, and_on_right, or_cases, or_left, or_right, not_in, not_so, not_both}
use Rattle.std.specs.Prelude.{Option}
use Rattle.finite.specs.Below.{Finds, any_below, any_off, least, least_is, least_unique, least_off}
use Rattle.finite.specs.Count.{count_below}
use Rattle.finite.specs.Closure.{Reach, one, more, reach_trans, reach_cong}
use Rattle.finite.specs.Walk.{on_cycle, cycle_start}
use Rattle.finite.specs.Cycle.{on_cycle_is, cycle_start_cong}
use Rattle.bits.specs.Bit.{bit, zeros}
use Rattle.bits.specs.Within.{Within, within_trans, within_widen, within_bit, within_cleared}
use Rattle.bits.specs.Matrix.{rel}
use Rattle.model.specs.Limits.{ROWS}
use Rattle.work_area.specs.Regions.{EDGE, LAYERS, LAYERS_END, GRID}
use Rattle.sets_of_rows.specs.declared.Set.{Set}
use Rattle.sets_of_rows.specs.Member.{in_set}
use Rattle.sets_of_rows.specs.Kept.{set_at, set_bit_lem}
use Rattle.sets_of_rows.specs.First.{First, first_next, next}
use Rattle.sets_of_rows.specs.Rows.{Rows, rows_in_lem, rows_cong}
use Rattle.sets_of_rows.specs.Walk.{Walk}
use Rattle.find_cycle.specs.Marks.{MARKS, marked, Marked, Looping, Among}
use Rattle.find_cycle.proofs.Counting.{count_less}

-- ---- definitions

-- the way on from x: `ahead` has the rows that nothing was asked of yet, `left` those of them that were reached
pub record Going (n : ℕ) (e : ℕ → ℕ → Bool) (x : ℕ) (among ahead left : Set) : Type 0 where
  pub here : in_set ahead x ≡ true
  pub sub : (j : ℕ) → in_set ahead j ≡ true → in_set among j ≡ true
  pub reached : (j : ℕ) → in_set left j ≡ true → (in_set ahead j ≡ true) × Reach e n x j
  pub own : (k : ℕ) → in_set ahead k ≡ true → e x k ≡ true → in_set left k ≡ true
  pub gone : (j k : ℕ) → in_set among j ≡ true → in_set ahead j ≡ false → in_set ahead k ≡ true → e j k ≡ true → in_set left k ≡ true

-- what the search looks for, of n rows
unfoldable pub loop_in : ℕ → (ℕ → ℕ → Bool) → ℕ → Bool
loop_in n e x = ltb x n and on_cycle n e x

-- ---- what is read

pub edges_of_lem : (w : List ℕ) (i : ℕ) {a : Set} → a ≡ set_at w (EDGE + 2 * i) → (k : ℕ) → k < ROWS → in_set a k ≡ rel w EDGE GRID i k
unfolding rel
edges_of_lem w i e k l = ap (λ (z : Set). in_set z k) e ∙ set_bit_lem w (EDGE + 2 * i) ((EDGE + i * GRID) * 64 + k) k l (omega arith)

pub marks_of : (n : ℕ) (w : List ℕ) (b m : Set) {z : Set} → n ≤ ROWS → ((j : ℕ) → in_set b j ≡ ltb j n) → m ≡ set_at w MARKS
    → ((j : ℕ) → in_set z j ≡ (in_set b j and in_set m j)) → Rows n (marked w) z
unfolding marked
marks_of n w b m {z} few below e both = rows_cong read within
  where
    within : Rows n (in_set m) z
    within = record { is = λ j. both j ∙ ap (λ (c : Bool). c and in_set m j) (below j) }

    read : (j : ℕ) → j < n → in_set m j ≡ bit w (MARKS * 64 + j)
    read j l = ap (λ (y : Set). in_set y j) e ∙ set_bit_lem w MARKS (MARKS * 64 + j) j (omega arith) refl

-- ---- back to x

module _ {n x : ℕ} {e : ℕ → ℕ → Bool} {among : Set} (few : n ≤ ROWS) (below : x < n) (h : Among n e x among) where
  pub go_begin : (a left : Set) → ((k : ℕ) → k < ROWS → in_set a k ≡ e x k) → ((k : ℕ) → in_set left k ≡ (in_set among k and in_set a k)) → Going n e x among among left
  go_begin a left a_is left_is =
      record {
        here = h.own;
        sub = λ j t. t;
        reached = λ j t.
            let u = split (sym (left_is j) ∙ t) in
            let l = h.few j u.0 in
            (u.0, one (sym (a_is j (omega arith)) ∙ u.1));
        own = λ k t s. let l = h.few k t in left_is k ∙ and_true t (a_is k (omega arith) ∙ s);
        gone = λ j k t f. not_both t f;
      }

  module _ {ahead left : Set} (g : Going n e x among ahead left) where
    -- a turn: row i is gone on from
    module _ {i : ℕ} (low : First left i) (rest : Set) (rest_is : (k : ℕ) → in_set rest k ≡ (in_set ahead k and not (eqb k i))) where
      was : (k : ℕ) → in_set rest k ≡ true → in_set ahead k ≡ true
      was k t = (split (sym (rest_is k) ∙ t)).0

      other : (k : ℕ) → (k ≡ i → ⊥) → in_set ahead k ≡ true → in_set rest k ≡ true
      other k d t = rest_is k ∙ and_true t (not_in (ne_eqb k i d))

      member : i < n
      member = h.few i (g.sub i (g.reached i low.hit).0)

      pub go_less : count_below ROWS (in_set rest) < count_below ROWS (in_set ahead)
      go_less =
          count_less (in_set ahead) (in_set rest) ROWS i low.bound (g.reached i low.hit).0
          (rest_is i ∙ and_false_right _ _ (ap not (eq-eqb i i refl))) (λ k d. rest_is k ∙ and_on_right _ _ (not_in (ne_eqb k i d)))

      pub go_turn : (a b after : Set) → in_set left x ≡ false → ((k : ℕ) → k < ROWS → in_set a k ≡ e i k) → ((k : ℕ) → in_set b k ≡ (in_set left k or in_set a k))
          → ((k : ℕ) → in_set after k ≡ (in_set rest k and in_set b k)) → Going n e x among rest after
      go_turn a b after not_yet a_is b_is after_is =
          record {
            here = other x (λ q. not_both (subst (λ (z : ℕ). in_set left z ≡ true) (sym q) low.hit) not_yet) g.here;
            sub = λ j t. g.sub j (was j t);
            reached = λ j t. let u = split (sym (after_is j) ∙ t) in (u.0, way j u.0 u.1);
            own = λ k t s. still k t (g.own k (was k t) s);
            gone = λ j k m f t s. on j k m f t s (ℕ_discrete j i);
          }
        where
          low_n : (k : ℕ) → in_set rest k ≡ true → k < ROWS
          low_n k t = let l = h.few k (g.sub k (was k t)) in omega arith

          still : (k : ℕ) → in_set rest k ≡ true → in_set left k ≡ true → in_set after k ≡ true
          still k t s = after_is k ∙ and_true t (b_is k ∙ or_left _ s)

          way : (j : ℕ) → in_set rest j ≡ true → in_set b j ≡ true → Reach e n x j
          way j t s =
              ⊎_elim (λ q. (g.reached j q).1) (λ q. reach_trans e n x i j member (g.reached i low.hit).1 (one (sym (a_is j (low_n j t)) ∙ q)))
              (or_cases (in_set left j) (in_set a j) (sym (b_is j) ∙ s))

          on : (j k : ℕ) → in_set among j ≡ true → in_set rest j ≡ false → in_set rest k ≡ true → e j k ≡ true → Dec (j ≡ i) → in_set after k ≡ true
          on j k m f t s (yes q) = after_is k ∙ and_true t (b_is k ∙ or_right _ (a_is k (low_n k t) ∙ subst (λ (z : ℕ). e z k ≡ true) q s))
          on j k m f t s (no q) = still k t (g.gone j k m (not_so _ (λ o. not_both (other j q o) f)) (was k t) s)

    pub go_back : in_set left x ≡ true → true ≡ on_cycle n e x
    go_back t = sym ((on_cycle_is n e x below).1 (g.reached x t).1)

    -- nothing is left: what x reaches, and reaches x, was gone on from, and x wasn't
    module _ (none : any_below ROWS (in_set left) ≡ false) where
      off : (k : ℕ) → k < n → in_set left k ≡ true → ⊥
      off k l t = not_both t (any_off (in_set left) ROWS none k (omega arith))

      never : (y : ℕ) → ((k : ℕ) → in_set ahead k ≡ true → e y k ≡ true → in_set left k ≡ true) → ((k : ℕ) → e y k ≡ true → Reach e n x k) → Reach e n y x → ⊥
      never y from to (one s) = off x below (from x g.here s)
      never y from to (more {m = m} s l rest) =
          ⊎_elim (λ t. off m l (from m t s))
          (λ f. never m (λ k t d. g.gone m k (h.all m l (to m s) rest) f t d) (λ k d. reach_trans e n x m k l (to m s) (one d)) rest)
          (which (in_set ahead m))

      pub go_none : false ≡ on_cycle n e x
      go_none = sym (not_so _ (λ t. never x g.own (λ k d. one d) ((on_cycle_is n e x below).0 t)))

-- ---- the lowest

module _ {n : ℕ} {w : List ℕ} (looping : Looping n w) {all : Set} (rows : Rows n (marked w) all) where
  is_in : (x : ℕ) → x < n → Reach (rel w EDGE GRID) n x x → in_set all x ≡ true
  is_in x l p = rows_in_lem rows x l ∙ looping.all x l p

  pub loop_off : (x : ℕ) → in_set all x ≡ false → loop_in n (rel w EDGE GRID) x ≡ false
  unfolding loop_in
  loop_off x f =
      not_so _ (λ t.
      let a = split t in
      let l = ltb-true x n a.0 in
      not_both (is_in x l ((on_cycle_is n (rel w EDGE GRID) x l).0 a.1)) f)

  module _ {left : Set} {x : ℕ} (inv : Walk all left × (least (next left) (loop_in n (rel w EDGE GRID)) ≡ next left)) (low : First left x) where
    -- no row before x lies on a cycle
    before : (j : ℕ) → j < n → j < x → on_cycle n (rel w EDGE GRID) j ≡ false
    unfolding loop_in
    before j l o =
        let q : j < least (next left) (loop_in n (rel w EDGE GRID)) = subst (λ (z : ℕ). j < z) (sym (inv.1 ∙ first_next low)) o in
        not_so _ (λ t. not_both (and_true (lt-ltb j n l) t) ((least_is (loop_in n (rel w EDGE GRID)) (next left)).miss j q))

    pub loop_below : x < n
    loop_below = ltb-true x n (split (sym (rows.is x) ∙ inv.0.sub x low.hit)).0

    pub loop_among : Among n (rel w EDGE GRID) x left
    loop_among =
        record {
          own = low.hit;
          few = λ j t. ltb-true j n (split (sym (rows.is j) ∙ inv.0.sub j t)).0;
          all = λ y l to back. there y l (reach_trans (rel w EDGE GRID) n y x y loop_below back to) (dec_lt y x);
        }
      where
        there : (y : ℕ) → y < n → Reach (rel w EDGE GRID) n y y → Dec (y < x) → in_set left y ≡ true
        there y l p (yes o) = not_both ((on_cycle_is n (rel w EDGE GRID) y l).1 p) (before y l o)
        there y l p (no o) = let q = first_next low in inv.0.all y (omega arith) (is_in y l p)

    pub loop_found : (b : Bool) → b ≡ on_cycle n (rel w EDGE GRID) x → b ≡ true → x ≡ cycle_start n (rel w EDGE GRID)
    unfolding cycle_start
    loop_found b e t =
        sym (least_unique (on_cycle n (rel w EDGE GRID)) n x loop_below (sym e ∙ t) (λ j o. let l = loop_below in before j (omega arith) o))

  pub loop_not : (x : ℕ) (b : Bool) → b ≡ on_cycle n (rel w EDGE GRID) x → b ≡ false → loop_in n (rel w EDGE GRID) x ≡ false
  unfolding loop_in
  loop_not x b e f = and_false_right _ _ (sym e ∙ f)

  pub loop_none : n ≤ ROWS → ROWS ≡ least ROWS (loop_in n (rel w EDGE GRID)) → n ≡ cycle_start n (rel w EDGE GRID)
  unfolding cycle_start loop_in
  loop_none few e =
      sym (least_off (on_cycle n (rel w EDGE GRID)) n (λ j l. not_so _ (λ t. not_both (and_true (lt-ltb j n l) t)
      ((least_is (λ z. ltb z n and on_cycle n (rel w EDGE GRID) z) ROWS).miss j (subst (λ (z : ℕ). j < z) e (omega arith))))))

-- ---- cleared, marked, searched

module _ (n : ℕ) (w v m : List ℕ) (few : n ≤ ROWS) (cleared : v ≡ zeros w LAYERS (LAYERS_END - LAYERS)) (marks : Marked n v m) where
  second : Within LAYERS LAYERS_END w m
  second =
      within_trans (within_cleared LAYERS LAYERS_END (omega arith) cleared) (within_widen LAYERS LAYERS_END (omega arith) (omega arith) marks.frame)

  pub start_looping : Looping n m
  unfolding rel marked
  start_looping =
      record {
        all = λ x l p.
            marks.looping x l
            (reach_cong (rel m EDGE GRID) (rel v EDGE GRID) n (λ i j a b. within_bit marks.frame ((EDGE + i * GRID) * 64 + j) (λ o. absurd (omega arith))) l l p);
      }

  start_same : cycle_start n (rel m EDGE GRID) ≡ cycle_start n (rel w EDGE GRID)
  unfolding rel
  start_same =
      cycle_start_cong n (rel m EDGE GRID) (rel w EDGE GRID) (λ i j a b. within_bit second ((EDGE + i * GRID) * 64 + j) (λ o. absurd (omega arith)))

  pub start_law : (r : Option ℕ) → Finds n (cycle_start n (rel m EDGE GRID)) r → Finds n (cycle_start n (rel w EDGE GRID)) r × Within LAYERS LAYERS_END w m
  start_law r h = (subst (λ (v : ℕ). Finds n v r) start_same h, second)
