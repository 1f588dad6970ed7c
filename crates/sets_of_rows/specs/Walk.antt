-- A walk over the members of a set, first to last: what is left, and what was done for the members before. Assumes nothing.
use Rattle.std.specs.Prelude.{◌≡◌, refl, Bool, true, false, not, ℕ, zero, suc, ◌+◌, ◌-◌, ◌≤◌, ◌<◌, eqb}
use Rattle.std.proofs.Common.{sym, ap, subst, ◌∙◌, arith, add-one, eq-eqb, ne_eqb}
use Rattle.std.proofs.Math.Decide.{dec_lt, ℕ_discrete}
use Rattle.finite.specs.Logic.{◌or◌, not_both, not_in, not_out, not_so, and_true, and_left, and_right, or_off}
use Rattle.finite.specs.Below.{any_below, any_none, any_off, least, least_is, least_off, least_none, least_more, least_found}
use Rattle.model.specs.Limits.{ROWS}
use Rattle.sets_of_rows.specs.declared.Set.{Set}
use Rattle.sets_of_rows.specs.Member.{in_set}
use Rattle.sets_of_rows.specs.First.{First, first_next, Rest, next}

-- ---- definitions

-- of x is left what lies from the first on that is left
pub record Walk (x left : Set) : Type 0 where
  pub sub : (j : ℕ) → in_set left j ≡ true → in_set x j ≡ true
  pub all : (j : ℕ) → next left ≤ j → in_set x j ≡ true → in_set left j ≡ true

-- ---- laws: one turn

pub rest_in : {x r : Set} → Rest x r → (j : ℕ) → in_set r j ≡ true → in_set x j ≡ true
rest_in {x} {r} h j e = and_left (in_set x j) (not (eqb j (next x))) (sym (h.is j) ∙ e)

pub rest_more : {x r : Set} → Rest x r → (j : ℕ) → in_set x j ≡ true → (j ≡ next x → ⊥) → in_set r j ≡ true
rest_more {x} {r} h j e d = h.is j ∙ and_true e (not_in (ne_eqb j (next x) d))

pub rest_gone : {x r : Set} {i : ℕ} → First x i → Rest x r → in_set r i ≡ false
rest_gone {x} {r} {i} f h =
    not_so (in_set r i) (λ e. not_both (eq-eqb i (next x) (sym (first_next f))) (not_out (eqb i (next x)) (and_right (in_set x i) (not (eqb i (next x))) (sym (h.is i) ∙ e))))

-- the first of the rest comes later
pub rest_later : {x r : Set} {i : ℕ} → First x i → Rest x r → i < next r
rest_later {x} {r} {i} f h = go (dec_lt i (next r))
  where
    here : next r ≤ i → Dec (next r ≡ i) → in_set r (next r) ≡ true → i < next r
    here l (yes e) t = not_both t (ap (in_set r) e ∙ rest_gone f h)
    here l (no e) t = not_both (rest_in h (next r) t) (f.miss (next r) (omega arith))

    go : Dec (i < next r) → i < next r
    go (yes l) = l
    go (no l) =
        let b = f.bound in
        here (omega arith) (ℕ_discrete (next r) i) ((least_is (in_set r) ROWS).hit (omega arith))

-- the measure of a walk falls
pub walk_less : {x r : Set} {i : ℕ} → First x i → Rest x r → ROWS - next r < ROWS - next x
walk_less {x} {r} {i} f h =
    let a = rest_later f h in
    let b = first_next f in
    let d = f.bound in
    omega arith

pub walk_in : {x left : Set} {i : ℕ} → Walk x left → First left i → in_set x i ≡ true
walk_in {x} {left} {i} w f = w.sub i f.hit

-- ---- laws: what is done, number by number, where nothing is to do for a number that is no member

module _ (x : Set) (P : ℕ → Type 0) (skip : (k : ℕ) → in_set x k ≡ false → P k → P (k + 1)) where
  pass : (m d : ℕ) → ((k : ℕ) → m ≤ k → k < m + d → in_set x k ≡ false) → P m → P (m + d)
  pass m zero h p = subst P (let e : m ≡ m + 0 = omega arith in e) p
  pass m (suc d) h p =
      subst P (let e : m + d + 1 ≡ m + suc d = omega arith in e)
      (skip (m + d) (h (m + d) (omega arith) (omega arith)) (pass m d (λ k a b. h k a (omega arith)) p))

  -- it begins with all of x
  pub walk_begin : P 0 → Walk x x × P (next x)
  walk_begin p = (
    record { sub = λ j e. e; all = λ j l e. e },
    subst P (let e : 0 + next x ≡ next x = omega arith in e) (pass 0 (next x) (λ k a b. (least_is (in_set x) ROWS).miss k (omega arith)) p),
  )

  -- a turn: what was done below i, and then for i
  pub walk_turn : {left r : Set} {i : ℕ} → Walk x left → First left i → Rest left r → P (i + 1) → Walk x r × P (next r)
  walk_turn {left} {r} {i} w f h p =
      (record { sub = λ j e. w.sub j (rest_in h j e); all = later }, subst P over (pass (i + 1) (next r - (i + 1)) between p))
    where
      at : next left ≡ i
      at = first_next f

      up : i < next r
      up = rest_later f h

      over : i + 1 + (next r - (i + 1)) ≡ next r
      over = omega (arith, up)

      kept : (j : ℕ) → i < j → in_set x j ≡ true → in_set r j ≡ true
      kept j l e = rest_more h j (w.all j (omega (arith, at, l)) e) (λ q. absurd (omega (arith, at, l, q)))

      later : (j : ℕ) → next r ≤ j → in_set x j ≡ true → in_set r j ≡ true
      later j l e = kept j (omega (arith, up, l)) e

      between : (k : ℕ) → i + 1 ≤ k → k < i + 1 + (next r - (i + 1)) → in_set x k ≡ false
      between k a b =
          not_so (in_set x k) (λ e. not_both (kept k (omega arith) e) ((least_is (in_set r) ROWS).miss k (omega (arith, up))))

  -- it ends with all done
  pub walk_end : (left : Set) → any_below ROWS (in_set left) ≡ false → P (next left) → P ROWS
  walk_end left e p = subst P (least_off (in_set left) ROWS (λ k h. any_off (in_set left) ROWS e k h)) p

-- ---- laws: a union over members: r has what the members below m give, by a test q of a row and a member

any_skip : (p : ℕ → Bool) (k : ℕ) → p k ≡ false → any_below (k + 1) p ≡ any_below k p
unfolding any_below
any_skip p k e = rw add-one (or_off (any_below k p) (p k) e)

any_step : (p : ℕ → Bool) (k : ℕ) → any_below (k + 1) p ≡ (any_below k p or p k)
unfolding any_below
any_step p k = rw add-one refl

pub record Gathered (q : ℕ → ℕ → Bool) (r : Set) (m : ℕ) : Type 0 where
  pub is : (j : ℕ) → in_set r j ≡ any_below m (q j)

module _ (x : Set) (q : ℕ → ℕ → Bool) (off : (i j : ℕ) → in_set x i ≡ false → q j i ≡ false) where
  gather_skip : (r : Set) (k : ℕ) → in_set x k ≡ false → Gathered q r k → Gathered q r (k + 1)
  gather_skip r k e u = record { is = λ j. u.is j ∙ sym (any_skip (q j) k (off k j e)) }

  pub gather_begin : (r : Set) → ((j : ℕ) → in_set r j ≡ false) → Walk x x × Gathered q r (next x)
  gather_begin r e = walk_begin x (Gathered q r) (gather_skip r) (record { is = λ j. e j ∙ sym (any_none (q j)) })

  pub gather_turn : {r s left rest : Set} {i : ℕ} → Walk x left × Gathered q r (next left) → First left i → Rest left rest
      → (in_set x i ≡ true → (j : ℕ) → in_set s j ≡ (in_set r j or q j i)) → Walk x rest × Gathered q s (next rest)
  gather_turn {r} {s} {left} {rest} {i} inv f h o = walk_turn x (Gathered q s) (gather_skip s) inv.0 f h (record { is = here })
    where
      here : (j : ℕ) → in_set s j ≡ any_below (i + 1) (q j)
      here j =
          o (walk_in inv.0 f) j ∙ ap (λ (b : Bool). b or q j i) (subst (λ (m : ℕ). in_set r j ≡ any_below m (q j)) (first_next f) (inv.1.is j))
          ∙ sym (any_step (q j) i)

  pub gather_end : (r left : Set) → any_below ROWS (in_set left) ≡ false → Gathered q r (next left) → (j : ℕ) → in_set r j ≡ any_below ROWS (q j)
  gather_end r left e u = (walk_end x (Gathered q r) (gather_skip r) left e u).is

-- ---- laws: a search for the least member that passes

module _ (x : Set) (p : ℕ → Bool) (off : (k : ℕ) → in_set x k ≡ false → p k ≡ false) where
  search_skip : (k : ℕ) → in_set x k ≡ false → least k p ≡ k → least (k + 1) p ≡ k + 1
  search_skip k e h = least_more p k h (off k e)

  pub search_begin : Walk x x × (least (next x) p ≡ next x)
  search_begin = walk_begin x (λ m. least m p ≡ m) search_skip (least_none p)

  search_here : {left : Set} {i : ℕ} → least (next left) p ≡ next left → First left i → least i p ≡ i
  search_here {left} {i} e f = subst (λ (m : ℕ). least m p ≡ m) (first_next f) e

  pub search_turn : {left rest : Set} {i : ℕ} → Walk x left × (least (next left) p ≡ next left) → First left i → Rest left rest → p i ≡ false
      → Walk x rest × (least (next rest) p ≡ next rest)
  search_turn {left} {rest} {i} inv f h e = walk_turn x (λ m. least m p ≡ m) search_skip inv.0 f h (least_more p i (search_here inv.1 f) e)

  pub search_found : {left : Set} {i : ℕ} → Walk x left × (least (next left) p ≡ next left) → First left i → p i ≡ true → i ≡ least ROWS p
  search_found {left} {i} inv f e = sym (least_found p i ROWS (search_here inv.1 f) e f.bound)

  pub search_end : (left : Set) → any_below ROWS (in_set left) ≡ false → least (next left) p ≡ next left → ROWS ≡ least ROWS p
  search_end left e h = sym (walk_end x (λ m. least m p ≡ m) search_skip left e h)
