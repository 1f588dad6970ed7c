-- Chains, scope by scope: a loop that turns the sets of a set's members, and what a turn makes of an operation's set. Assumes nothing.
use Rattle.std.specs.Prelude.{◌≡◌, refl, Bool, true, false, List, ℕ, ◌+◌, ◌*◌, ◌≤◌, ◌<◌}
use Rattle.std.proofs.Math.Path.{sym, ap}
use Rattle.std.proofs.Common.{subst, ◌∙◌, arith}
use Rattle.std.proofs.Math.Bool.{not}
use Rattle.std.proofs.Math.Decide.{ℕ_discrete}
use Rattle.std.proofs.Math.Dec.{eqb, ltb}
use borrow.Author.Tests.{eqb-true, eqb-false, eq-eqb, ne_eqb, ltb-true, lt-ltb, le-ltb, ltb-false}
use Rattle.finite.specs.Logic.{◌and◌, ◌or◌, bool_ext, split, and_true, or_none, or_false, not_both, not_in, not_out, not_so}
use Rattle.finite.specs.Below.{any_below}
use Rattle.finite.specs.Closure.{through}
use Rattle.model.specs.Limits.{ROWS}
use Rattle.model.specs.Happens.{happens}
use Rattle.model.specs.Availability.{availability_moment, visibility_moment, broadens}
use Rattle.model.specs.Table.{Table}
use Rattle.bits.specs.Within.{Within, within_refl, within_trans, within_widen}
use Rattle.model_placing.specs.Shares.{share, hears}
use Rattle.model_placing.specs.Elements.{avails, shews, available_is, visible_is}
use Rattle.model_placing.specs.Chains.{narrows_in, broadens_is, narrows_is, available_turn, visible_turn}
use Rattle.sets_of_rows.specs.declared.Set.{Set}
use Rattle.sets_of_rows.specs.Member.{in_set}
use Rattle.sets_of_rows.specs.First.{First, first_next, Rest, next}
use Rattle.sets_of_rows.specs.Kept.{set_at, set_kept, Stored}
use Rattle.sets_of_rows.specs.Family.{nth}
use Rattle.sets_of_rows.specs.Rows.{Rows, rows_at, rows_in_lem, rows_cong, rows_and, rows_or, rows_less}
use Rattle.sets_of_rows.specs.Walk.{Walk, walk_begin, walk_turn, walk_end, walk_in}
use Rattle.sets_of_rows.specs.Tasks
use Rattle.sets_of_table.specs.Known.{Opened, says_rows}
use Rattle.sets_of_table.specs.Ask.{few}
use Rattle.sets_grids.specs.Regions.{AVAILABLE_AVAILABLE, VISIBLE_VISIBLE, HAPPENS_END}
use Rattle.sets_grids.specs.Union.{led_by, union_rows}
use Rattle.sets_grids.specs.Happens.{availables, visibles}
use Rattle.sets_grids.specs.Available.{makes}
use Rattle.sets_chains.specs.Alone.{wider, available_to_available, scope_rows}

-- ---- definitions

-- G of the members of x below m, F of others
pub record TurnedTo (n : ℕ) (x : Set) (F G : ℕ → List ℕ → Type 0) (m : ℕ) (u : List ℕ) : Type 0 where
  pub done : (k : ℕ) → k < n → in_set x k ≡ true → k < m → G k u
  pub left : (k : ℕ) → k < n → (in_set x k ≡ true → m ≤ k) → F k u

-- row v performs a visibility operation
unfoldable pub sees : Table → ℕ → Bool
sees t v = shews (t.row v)

-- the rows that a's chains end with
unfoldable pub outs : Table → ℕ → ℕ → Bool
outs t a c = through (broadens t) t.rows a c

unfoldable pub ins : Table → ℕ → ℕ → Bool
ins t w v = through (narrows_in t) t.rows w v

-- availability chains of operations of scope p or broader are known; of others, what comes after
pub record Outs (t : Table) (n p : ℕ) (w : List ℕ) : Type 0 where
  pub done : (k : ℕ) → k < n → makes t k ≡ true → p ≤ (t.row k).scope → Rows n (outs t k) (nth w AVAILABLE_AVAILABLE k)
  pub left : (k : ℕ) → k < n → makes t k ≡ true → (t.row k).scope < p → Rows n (availables t k) (nth w AVAILABLE_AVAILABLE k)

-- visibility chains of operations of scopes narrower than p are known
pub record Ins (t : Table) (n p : ℕ) (w : List ℕ) : Type 0 where
  pub done : (k : ℕ) → k < n → sees t k ≡ true → (t.row k).scope < p → Rows n (ins t k) (nth w VISIBLE_VISIBLE k)
  pub left : (k : ℕ) → k < n → sees t k ≡ true → p ≤ (t.row k).scope → Rows n (visibles t k) (nth w VISIBLE_VISIBLE k)

pub record MadeOuts (t : Table) (n p : ℕ) (w u : List ℕ) : Type 0 where
  pub outs : Outs t n p u
  pub frame : Within AVAILABLE_AVAILABLE VISIBLE_VISIBLE w u

pub record MadeIns (t : Table) (n p : ℕ) (w u : List ℕ) : Type 0 where
  pub ins : Ins t n p u
  pub frame : Within VISIBLE_VISIBLE HAPPENS_END w u

-- of one operation, before its turn and after it
pub record OutLeft (t : Table) (n q k : ℕ) (w : List ℕ) : Type 0 where
  pub done : makes t k ≡ true → q + 1 ≤ (t.row k).scope → Rows n (outs t k) (nth w AVAILABLE_AVAILABLE k)
  pub left : makes t k ≡ true → (t.row k).scope < q + 1 → Rows n (availables t k) (nth w AVAILABLE_AVAILABLE k)

pub record OutDone (t : Table) (n k : ℕ) (w : List ℕ) : Type 0 where
  pub done : Rows n (outs t k) (nth w AVAILABLE_AVAILABLE k)

pub record InLeft (t : Table) (n q k : ℕ) (w : List ℕ) : Type 0 where
  pub done : sees t k ≡ true → (t.row k).scope < q → Rows n (ins t k) (nth w VISIBLE_VISIBLE k)
  pub left : sees t k ≡ true → q ≤ (t.row k).scope → Rows n (visibles t k) (nth w VISIBLE_VISIBLE k)

pub record InDone (t : Table) (n k : ℕ) (w : List ℕ) : Type 0 where
  pub done : Rows n (ins t k) (nth w VISIBLE_VISIBLE k)

-- the loops' invariants
pub record OutTurning (t : Table) (n q : ℕ) (x : Set) (w : List ℕ) (left : Set) (u : List ℕ) : Type 0 where
  pub walk : Walk x left
  pub to : TurnedTo n x (OutLeft t n q) (OutDone t n) (next left) u
  pub frame : Within AVAILABLE_AVAILABLE VISIBLE_VISIBLE w u

pub record InTurning (t : Table) (n q : ℕ) (x : Set) (w : List ℕ) (left : Set) (u : List ℕ) : Type 0 where
  pub walk : Walk x left
  pub to : TurnedTo n x (InLeft t n q) (InDone t n) (next left) u
  pub frame : Within VISIBLE_VISIBLE HAPPENS_END w u

-- ---- laws: turning

module _ (n : ℕ) (x : Set) (F G : ℕ → List ℕ → Type 0) where
  turned_skip : (u : List ℕ) (m : ℕ) → in_set x m ≡ false → TurnedTo n x F G m u → TurnedTo n x F G (m + 1) u
  turned_skip u m e h = record { done = λ k l i o. go k l i o (ℕ_discrete k m); left = λ k l o. h.left k l (λ i. let z = o i in omega arith) }
    where
      go : (k : ℕ) → k < n → in_set x k ≡ true → k < m + 1 → Dec (k ≡ m) → G k u
      go k l i o (yes q) = not_both i (ap (in_set x) q ∙ e)
      go k l i o (no q) = h.done k l i (omega arith)

  pub turned_begin : (w : List ℕ) → ((k : ℕ) → k < n → F k w) → Walk x x × TurnedTo n x F G (next x) w
  turned_begin w f =
      walk_begin x (λ m. TurnedTo n x F G m w) (turned_skip w) (record { done = λ k l i o. absurd (omega arith); left = λ k l o. f k l })

  pub turned_turn : {left rest : Set} {i : ℕ} (u v : List ℕ) → Walk x left → TurnedTo n x F G (next left) u → First left i → Rest left rest
      → ((k : ℕ) → k < n → (k ≡ i → ⊥) → F k u → F k v) → ((k : ℕ) → k < n → (k ≡ i → ⊥) → G k u → G k v) → (i < n → G i v)
      → Walk x rest × TurnedTo n x F G (next rest) v
  turned_turn {left} {rest} {i} u v walk to low h f g d =
      walk_turn x (λ m. TurnedTo n x F G m v) (turned_skip v) walk low h
      (record { done = λ k l e o. go k l e o (ℕ_discrete k i); left = λ k l o. f k l (λ q. other k o q) (to.left k l (λ e. let z = o e in let y = first_next low in omega arith)) })
    where
      other : (k : ℕ) → (in_set x k ≡ true → i + 1 ≤ k) → k ≡ i → ⊥
      other k o q = let z : i + 1 ≤ k = o (ap (in_set x) q ∙ walk_in walk low) in absurd (omega arith)

      go : (k : ℕ) → k < n → in_set x k ≡ true → k < i + 1 → Dec (k ≡ i) → G k v
      go k l e o (yes q) = subst (λ (c : ℕ). G c v) (sym q) (d (omega arith))
      go k l e o (no q) = g k l q (to.done k l e (let y = first_next low in omega arith))

  pub turned_end : (left : Set) (u : List ℕ) → n ≤ ROWS → any_below ROWS (in_set left) ≡ false → TurnedTo n x F G (next left) u
      → ((k : ℕ) → k < n → in_set x k ≡ true → G k u) × ((k : ℕ) → k < n → in_set x k ≡ false → F k u)
  turned_end left u low e to = (λ k l i. all.done k l i (omega arith), λ k l i. all.left k l (λ j. not_both j i))
    where
      all : TurnedTo n x F G ROWS u
      all = walk_end x (λ m. TurnedTo n x F G m u) (turned_skip u) left e to

-- ---- laws: availability chains

module _ {t : Table} {n : ℕ} {s : List ℕ} (o : Opened t n s) (q : ℕ) where
  there : (k : ℕ) → k < n → k < t.rows
  there k l = let r = o.rows in omega arith

  -- the operations of scope q
  pub out_rows : {a b x : Set} → q < 8 → a ≡ set_at s 202 → b ≡ set_at s (104 + 2 * q) → ((j : ℕ) → in_set x j ≡ (in_set a j and in_set b j))
      → Rows n (λ j. makes t j and eqb (t.row j).scope q) x
  unfolding makes
  out_rows l ea eb ex = rows_and (rows_at ea (says_rows o.known.tested.marked.available)) (scope_rows q o l eb) ex

  -- what comes right after a, and what comes after that
  pub out_turn : (u : List ℕ) (a : ℕ) (x b r y z c d : Set) → a < n → makes t a ≡ true → (t.row a).scope ≡ q
      → ((k : ℕ) → k < n → makes t k ≡ true → q + 1 ≤ (t.row k).scope → Rows n (outs t k) (nth u AVAILABLE_AVAILABLE k))
      → Rows n (availables t a) x → Rows n (wider t q) b → Rows n (share t (t.row a).agent (t.row a).scope) r
      → ((j : ℕ) → in_set y j ≡ (in_set x j and in_set b j)) → ((j : ℕ) → in_set z j ≡ (in_set y j and in_set r j))
      → ((j : ℕ) → in_set c j ≡ any_below ROWS (Tasks.leads u AVAILABLE_AVAILABLE z j)) → ((j : ℕ) → in_set d j ≡ (in_set z j or in_set c j))
      → Rows n (outs t a) d
  unfolding outs availables wider makes led_by
  out_turn u a x b r y z c d l m e g hx hb hr ey ez ec ed =
      rows_cong (λ j k. ap (λ (i : ℕ). broadens t a j or any_below i (led_by (broadens t a) (outs t) j)) (sym o.rows)
      ∙ sym (available_turn t (through (broadens t) t.rows) a j (λ i h v. refl)))
      (rows_or next (union_rows {on = λ k. makes t k and wider t q k} (few o) (record { row = λ k v w. g k v (split w).0 (let p = ltb-true q (t.row k).scope (split w).1 in omega arith) }) next
      (λ i v w. and_true (made i v w) (broad i w)) ec) ed)
    where
      same : (j : ℕ) → j < n
          → ((happens t (availability_moment t a) (availability_moment t j) and ltb q (t.row j).scope) and share t (t.row a).agent (t.row a).scope j) ≡ broadens t a j
      same j k = bool_ext _ _
          (λ h. let p = split h in let i = split p.0 in
          broadens_is t a j ∙ and_true (and_true (available_is t j ∙ available_to_available t a j (there a l) (there j k) i.0)
          (and_true (ap (λ (v : ℕ). ltb v (t.row j).scope) e ∙ i.1) p.1)) i.0)
          (λ h. let p = split (sym (broadens_is t a j) ∙ h) in let i = split p.0 in let v = split i.1 in
          and_true (and_true p.1 (ap (λ (v : ℕ). ltb v (t.row j).scope) (sym e) ∙ v.0)) v.1)

      next : Rows n (broadens t a) z
      next = rows_cong same (rows_and (rows_and hx hb ey) hr ez)

      made : (i : ℕ) → i < n → broadens t a i ≡ true → avails (t.row i) ≡ true
      made i v h = sym (available_is t i) ∙ (split (split (sym (broadens_is t a i) ∙ h)).0).0

      broad : (i : ℕ) → broadens t a i ≡ true → ltb q (t.row i).scope ≡ true
      broad i h = ap (λ (v : ℕ). ltb v (t.row i).scope) (sym e) ∙ (split (split (split (sym (broadens_is t a i) ∙ h)).0).1).0

  pub out_begin : (x : Set) {w : List ℕ} → Outs t n (q + 1) w → OutTurning t n q x w x w
  out_begin x {w} h =
      let b = turned_begin n x (OutLeft t n q) (OutDone t n) w (λ k l. record { done = λ m p. h.done k l m p; left = λ m p. h.left k l m p }) in
      record { walk = b.0; to = b.1; frame = within_refl AVAILABLE_AVAILABLE VISIBLE_VISIBLE w }

  -- what is known of broader operations, and of the one whose turn it is
  pub out_wide : {x left : Set} {w u : List ℕ} → Rows n (λ j. makes t j and eqb (t.row j).scope q) x → OutTurning t n q x w left u
      → (k : ℕ) → k < n → makes t k ≡ true → q + 1 ≤ (t.row k).scope → Rows n (outs t k) (nth u AVAILABLE_AVAILABLE k)
  out_wide r inv k l m p =
      (inv.to.left k l (λ i. let e = eqb-true (t.row k).scope q (split (sym (rows_in_lem r k l) ∙ i)).1 in absurd (omega arith))).done m p

  pub out_own : {x left : Set} {w u : List ℕ} {a : ℕ} → Rows n (λ j. makes t j and eqb (t.row j).scope q) x → OutTurning t n q x w left u → First left a → a < n
      → makes t a ≡ true → (t.row a).scope ≡ q → Rows n (availables t a) (nth u AVAILABLE_AVAILABLE a)
  out_own r inv low l m e = (inv.to.left _ l (λ i. let f = first_next low in omega arith)).left m (omega arith)

  pub out_next : {x left rest : Set} {w u v : List ℕ} {a : ℕ} (d : Set) → OutTurning t n q x w left u → First left a → Rest left rest → Rows n (outs t a) d
      → Stored (AVAILABLE_AVAILABLE + 2 * a) (in_set d) u v → OutTurning t n q x w rest v
  out_next {x} {left} {rest} {w} {u} {v} {a} d inv low h r p =
      record { walk = b.0; to = b.1; frame = within_trans inv.frame (let z = low.bound in within_widen AVAILABLE_AVAILABLE VISIBLE_VISIBLE (omega arith) (omega arith) p.frame) }
    where
      kept : (k : ℕ) → (k ≡ a → ⊥) → nth v AVAILABLE_AVAILABLE k ≡ nth u AVAILABLE_AVAILABLE k
      kept k e = set_kept (AVAILABLE_AVAILABLE + 2 * k) (λ g. omega (arith, e)) p.frame

      b : Walk x rest × TurnedTo n x (OutLeft t n q) (OutDone t n) (next rest) v
      b =
          turned_turn n x (OutLeft t n q) (OutDone t n) u v inv.walk inv.to low h
          (λ k l e f. record { done = λ m g. rows_at (kept k e) (f.done m g); left = λ m g. rows_at (kept k e) (f.left m g) })
          (λ k l e f. record { done = rows_at (kept k e) f.done })
          (λ l. record { done = record { is = λ j. p.is j ∙ r.is j } })

  pub out_end : {x left : Set} {w u : List ℕ} → Rows n (λ j. makes t j and eqb (t.row j).scope q) x → any_below ROWS (in_set left) ≡ false
      → OutTurning t n q x w left u → MadeOuts t n q w u
  out_end {x} {left} {w} {u} r e inv = record { outs = record { done = λ k l m p. go k l m p (ℕ_discrete (t.row k).scope q); left = λ k l m p. (other k l (λ f. omega arith)).left m (omega arith) }; frame = inv.frame }
    where
      all : ((k : ℕ) → k < n → in_set x k ≡ true → OutDone t n k u) × ((k : ℕ) → k < n → in_set x k ≡ false → OutLeft t n q k u)
      all = turned_end n x (OutLeft t n q) (OutDone t n) left u (few o) e inv.to

      other : (k : ℕ) → k < n → ((t.row k).scope ≡ q → ⊥) → OutLeft t n q k u
      other k l f = all.1 k l (not_so (in_set x k) (λ i. f (eqb-true (t.row k).scope q (split (sym (rows_in_lem r k l) ∙ i)).1)))

      go : (k : ℕ) → k < n → makes t k ≡ true → q ≤ (t.row k).scope → Dec ((t.row k).scope ≡ q) → Rows n (outs t k) (nth u AVAILABLE_AVAILABLE k)
      go k l m p (yes f) = (all.0 k l (rows_in_lem r k l ∙ and_true m (eq-eqb _ _ f))).done
      go k l m p (no f) = (other k l f).done m (omega arith)

-- ---- laws: visibility chains

module _ {t : Table} {n : ℕ} {s : List ℕ} (o : Opened t n s) (q : ℕ) where
  pub in_rows : {a b x : Set} → q < 8 → a ≡ set_at s 204 → b ≡ set_at s (104 + 2 * q) → ((j : ℕ) → in_set x j ≡ (in_set a j and in_set b j))
      → Rows n (λ j. sees t j and eqb (t.row j).scope q) x
  unfolding sees
  in_rows l ea eb ex = rows_and (rows_at ea (says_rows o.known.tested.marked.visible)) (scope_rows q o l eb) ex

  -- those of narrower scopes
  pub narrow_rows : (b c : Set) {a d x : Set} → q < 8 → a ≡ set_at s 204 → d ≡ set_at s (104 + 2 * q) → Rows n (wider t q) b
      → ((j : ℕ) → in_set c j ≡ (in_set b j or in_set d j)) → ((j : ℕ) → in_set x j ≡ (in_set a j and not (in_set c j)))
      → Rows n (λ j. sees t j and not (wider t q j or eqb (t.row j).scope q)) x
  unfolding sees
  narrow_rows b c l ea ed hb ec ex = rows_less (rows_at ea (says_rows o.known.tested.marked.visible)) (rows_or hb (scope_rows q o l ed) ec) ex

  pub in_turn : (u : List ℕ) (a : ℕ) (x b r y z c d : Set) → a < n → sees t a ≡ true → (t.row a).scope ≡ q
      → ((k : ℕ) → k < n → sees t k ≡ true → (t.row k).scope < q → Rows n (ins t k) (nth u VISIBLE_VISIBLE k))
      → Rows n (visibles t a) x → Rows n (λ j. sees t j and not (wider t q j or eqb (t.row j).scope q)) b → Rows n (hears t (t.row a).agent) r
      → ((j : ℕ) → in_set y j ≡ (in_set x j and in_set b j)) → ((j : ℕ) → in_set z j ≡ (in_set y j and in_set r j))
      → ((j : ℕ) → in_set c j ≡ any_below ROWS (Tasks.leads u VISIBLE_VISIBLE z j)) → ((j : ℕ) → in_set d j ≡ (in_set z j or in_set c j))
      → Rows n (ins t a) d
  unfolding ins visibles wider sees led_by narrows_in
  in_turn u a x b r y z c d l m e g hx hb hr ey ez ec ed =
      rows_cong (λ j k. ap (λ (i : ℕ). narrows_in t a j or any_below i (led_by (narrows_in t a) (ins t) j)) (sym o.rows)
      ∙ sym (visible_turn t (through (narrows_in t) t.rows) a j (λ i h v. refl)))
      (rows_or next (union_rows {on = λ k. sees t k and ltb (t.row k).scope q} (few o)
      (record { row = λ k v w. g k v (split w).0 (ltb-true (t.row k).scope q (split w).1) }) next
      (λ i v w. and_true (made i w) (narrow i w)) ec) ed)
    where
      same : (j : ℕ) → j < n
          → ((happens t (visibility_moment t a) (visibility_moment t j) and (shews (t.row j) and not (ltb q (t.row j).scope or eqb (t.row j).scope q))) and hears t (t.row a).agent j)
          ≡ narrows_in t a j
      same j k = bool_ext _ _
          (λ h. let p = split h in let i = split p.0 in let v = split i.1 in let f = or_false _ _ (not_out _ v.1) in
          let low : (t.row j).scope ≤ q = ltb-false q (t.row j).scope f.0 in
          let off : (t.row j).scope ≡ q → ⊥ = eqb-false (t.row j).scope q f.1 in
          and_true (narrows_is t a j ∙ and_true (and_true (visible_is t a ∙ m) (and_true (lt-ltb (t.row j).scope (t.row a).scope (omega (arith, off))) p.1)) i.0) (visible_is t j ∙ v.0))
          (λ h. let k = split h in let p = split (sym (narrows_is t a j) ∙ k.0) in let i = split p.0 in let v = split i.1 in
          let low : (t.row j).scope < (t.row a).scope = ltb-true (t.row j).scope (t.row a).scope v.0 in
          and_true (and_true p.1 (and_true (sym (visible_is t j) ∙ k.1)
          (not_in (or_none (le-ltb q (t.row j).scope (omega arith)) (ne_eqb (t.row j).scope q (λ z. absurd (omega arith))))))) v.1)

      next : Rows n (narrows_in t a) z
      next = rows_cong same (rows_and (rows_and hx hb ey) hr ez)

      made : (i : ℕ) → narrows_in t a i ≡ true → shews (t.row i) ≡ true
      made i h = sym (visible_is t i) ∙ (split h).1

      narrow : (i : ℕ) → narrows_in t a i ≡ true → ltb (t.row i).scope q ≡ true
      narrow i h = ap (λ (v : ℕ). ltb (t.row i).scope v) (sym e) ∙ (split (split (split (sym (narrows_is t a i) ∙ (split h).0)).0).1).0

  pub in_begin : (x : Set) {w : List ℕ} → Ins t n q w → InTurning t n q x w x w
  in_begin x {w} h =
      let b = turned_begin n x (InLeft t n q) (InDone t n) w (λ k l. record { done = λ m p. h.done k l m p; left = λ m p. h.left k l m p }) in
      record { walk = b.0; to = b.1; frame = within_refl VISIBLE_VISIBLE HAPPENS_END w }

  -- what is known of narrower operations, and of the one whose turn it is
  pub in_wide : {x left : Set} {w u : List ℕ} → Rows n (λ j. sees t j and eqb (t.row j).scope q) x → InTurning t n q x w left u
      → (k : ℕ) → k < n → sees t k ≡ true → (t.row k).scope < q → Rows n (ins t k) (nth u VISIBLE_VISIBLE k)
  in_wide r inv k l m p =
      (inv.to.left k l (λ i. let e = eqb-true (t.row k).scope q (split (sym (rows_in_lem r k l) ∙ i)).1 in absurd (omega arith))).done m p

  pub in_own : {x left : Set} {w u : List ℕ} {a : ℕ} → Rows n (λ j. sees t j and eqb (t.row j).scope q) x → InTurning t n q x w left u → First left a → a < n
      → sees t a ≡ true → (t.row a).scope ≡ q → Rows n (visibles t a) (nth u VISIBLE_VISIBLE a)
  in_own r inv low l m e = (inv.to.left _ l (λ i. let f = first_next low in omega arith)).left m (omega arith)

  pub in_next : {x left rest : Set} {w u v : List ℕ} {a : ℕ} (d : Set) → InTurning t n q x w left u → First left a → Rest left rest → Rows n (ins t a) d
      → Stored (VISIBLE_VISIBLE + 2 * a) (in_set d) u v → InTurning t n q x w rest v
  in_next {x} {left} {rest} {w} {u} {v} {a} d inv low h r p =
      record { walk = b.0; to = b.1; frame = within_trans inv.frame (let z = low.bound in within_widen VISIBLE_VISIBLE HAPPENS_END (omega arith) (omega arith) p.frame) }
    where
      kept : (k : ℕ) → (k ≡ a → ⊥) → nth v VISIBLE_VISIBLE k ≡ nth u VISIBLE_VISIBLE k
      kept k e = set_kept (VISIBLE_VISIBLE + 2 * k) (λ g. omega (arith, e)) p.frame

      b : Walk x rest × TurnedTo n x (InLeft t n q) (InDone t n) (next rest) v
      b =
          turned_turn n x (InLeft t n q) (InDone t n) u v inv.walk inv.to low h
          (λ k l e f. record { done = λ m g. rows_at (kept k e) (f.done m g); left = λ m g. rows_at (kept k e) (f.left m g) })
          (λ k l e f. record { done = rows_at (kept k e) f.done })
          (λ l. record { done = record { is = λ j. p.is j ∙ r.is j } })

  pub in_end : {x left : Set} {w u : List ℕ} → Rows n (λ j. sees t j and eqb (t.row j).scope q) x → any_below ROWS (in_set left) ≡ false
      → InTurning t n q x w left u → MadeIns t n (q + 1) w u
  in_end {x} {left} {w} {u} r e inv = record { ins = record { done = λ k l m p. go k l m p (ℕ_discrete (t.row k).scope q); left = λ k l m p. (other k l (λ f. omega arith)).left m (omega arith) }; frame = inv.frame }
    where
      all : ((k : ℕ) → k < n → in_set x k ≡ true → InDone t n k u) × ((k : ℕ) → k < n → in_set x k ≡ false → InLeft t n q k u)
      all = turned_end n x (InLeft t n q) (InDone t n) left u (few o) e inv.to

      other : (k : ℕ) → k < n → ((t.row k).scope ≡ q → ⊥) → InLeft t n q k u
      other k l f = all.1 k l (not_so (in_set x k) (λ i. f (eqb-true (t.row k).scope q (split (sym (rows_in_lem r k l) ∙ i)).1)))

      go : (k : ℕ) → k < n → sees t k ≡ true → (t.row k).scope < q + 1 → Dec ((t.row k).scope ≡ q) → Rows n (ins t k) (nth u VISIBLE_VISIBLE k)
      go k l m p (yes f) = (all.0 k l (rows_in_lem r k l ∙ and_true m (eq-eqb _ _ f))).done
      go k l m p (no f) = (other k l f).done m (omega arith)
