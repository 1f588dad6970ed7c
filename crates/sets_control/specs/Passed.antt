-- What control barriers pass to, as sets of rows. Assumes nothing.
use Rattle.std.specs.Prelude.{◌≡◌, refl, Bool, true, false, not, List, ℕ, zero, suc, ◌+◌, ◌-◌, ◌*◌, ◌≤◌, ◌<◌, length, get_or, replicate, eqb, leb, ltb}
use Rattle.std.proofs.Common.{sym, ap, ap₂, subst, ◌∙◌, ⊎_elim, arith, eq-eqb, ne_eqb, lt-ltb, leb-true, le-leb}
use Rattle.std.proofs.Math.Decide.{ℕ_discrete}
use Rattle.finite.specs.Logic.{◌and◌, ◌or◌, bool_ext, split, and_true, and_on, and_false_left, and_false_right, or_cases, or_left, or_right, or_off, not_both, not_so}
use Rattle.finite.specs.Below.{any_below, any_in, any_out, any_not, any_off}
use Rattle.model.specs.Limits.{ROWS}
use Rattle.model.specs.Row.{barrier, control, same_instance}
use Rattle.model.specs.Scope.{shares}
use Rattle.model.specs.Moment.{same_agent}
use Rattle.model.specs.Synchronizes.{up_to, joins, arrives, passes}
use Rattle.model.specs.Table.{Table}
use Rattle.model_laws.specs.PairLaws.{eqb_swap}
use Rattle.model_closing.specs.Order.{from_row}
use Rattle.model_placing.specs.Shares.{share}
use Rattle.bits.specs.Bit.{zeros, zeros_in}
use Rattle.bits.specs.Within.{Within, within_widen, within_cleared}
use Rattle.sets_of_rows.specs.declared.Set.{Set}
use Rattle.sets_of_rows.specs.Member.{in_set}
use Rattle.sets_of_rows.specs.First.{none_in}
use Rattle.sets_of_rows.specs.Kept.{set_at, set_kept, Stored, joined}
use Rattle.sets_of_rows.specs.Family.{nth}
use Rattle.sets_of_rows.specs.Rows.{Rows, rows_at, rows_in_lem, rows_cong, rows_and, rows_or, rows_cut, rows_if}
use Rattle.sets_of_table.specs.Says.{says_kind}
use Rattle.sets_of_table.specs.Tested.{BARRIER}
use Rattle.sets_of_table.specs.Known.{Opened, says_rows}
use Rattle.sets_of_table.specs.Ask.{few, agent_low}
use Rattle.sets_grids.specs.Regions.{PASSED, PASSED_END}
use Rattle.sets_grids.specs.Grid.{MadeGrid}
use Rattle.sets_grids.specs.Given.{Given}
use Rattle.sets_grids.specs.Filling.{member_in}
use Rattle.sets_grids.specs.Synced.{passed_by}

-- ---- definitions

-- d is a control barrier with c's instance
unfoldable pub of_instance : Table → ℕ → ℕ → Bool
of_instance t c d = control (t.row d) and eqb (t.row d).start (t.row c).start

-- row d's instance number is c's
unfoldable pub same_start : Table → ℕ → ℕ → Bool
same_start t c d = eqb (t.row d).start (t.row c).start

-- row b, of n, is one that the member k of d is, or comes before
unfoldable pub arrives_by : Table → ℕ → Set → ℕ → ℕ → Bool
arrives_by t n d b k = in_set d k and (ltb b n and from_row t k b)

-- the same without a bound
unfoldable pub up_from : Table → Set → ℕ → ℕ → Bool
up_from t d b k = in_set d k and up_to t k b

-- b is a barrier that a member of d is, or comes before
unfoldable pub arrived : Table → Set → ℕ → Bool
arrived t d b = any_below ROWS (up_from t d b) and barrier (t.row b)

-- c is a control barrier, and b a barrier that arrives where c is joined
unfoldable pub passes_to : Table → ℕ → ℕ → Bool
passes_to t c b = control (t.row c) and (barrier (t.row b) and any_below t.rows (arrives t b c))

-- c, of agent g and from row m on, passes to b
unfoldable pub passing_by : Table → ℕ → ℕ → ℕ → ℕ → Bool
passing_by t m g b c = leb m c and eqb (t.row c).agent g and passes_to t c b

-- some row does
unfoldable pub passing : Table → ℕ → ℕ → ℕ → Bool
passing t m g b = any_below t.rows (passing_by t m g b)

-- up the page, with the rows from m on done: by agent, what its control barriers pass to; and the rows of the grid
pub record Passing (t : Table) (n m : ℕ) (by w : List ℕ) : Type 0 where
  pub room : 64 ≤ length by
  pub agents : (g : ℕ) → g < 32 → Rows n (passing t m g) (nth by 0 g)
  pub done : (a : ℕ) → m ≤ a → a < n → Rows n (passed_by t a) (nth w PASSED a)

-- one row more; nothing else changed
pub record Passes (t : Table) (n a : ℕ) (by by' w w' : List ℕ) : Type 0 where
  pub to : Passing t n a by' w'
  pub frame : Within PASSED PASSED_END w w'
  pub agents : Within 0 64 by by'

-- ---- laws: control barriers

pub control_rows : {t : Table} {n : ℕ} {s : List ℕ} → Opened t n s → {x : Set} → x ≡ set_at s 12 → Rows n (λ j. control (t.row j)) x
unfolding control
control_rows o e = rows_at e (says_rows (says_kind o.known.tested.ground 6 (omega arith)))

pub start_is : (t : Table) (c d u v : ℕ) → u ≡ (t.row d).start → v ≡ (t.row c).start → eqb u v ≡ same_start t c d
unfolding same_start
start_is t c d u v e f = ap₂ (λ (x y : ℕ). eqb x y) e f

pub instance_rows : {t : Table} {n : ℕ} {s : List ℕ} → Opened t n s → (c : ℕ) (x z : Set) → x ≡ set_at s 12 → ((j : ℕ) → in_set z j ≡ (in_set x j and same_start t c j)) → Rows n (of_instance t c) z
unfolding same_start of_instance
instance_rows {t} o c x z e f = rows_cut (same_start t c) (control_rows o e) f

pub joining_rows : (t : Table) {n : ℕ} (c q : ℕ) (a b d z : Set) → control (t.row c) ≡ true → q ≡ (t.row c).class → Rows n (share t (t.row c).agent q) a → Rows n (of_instance t c) b
    → ((j : ℕ) → in_set d j ≡ (in_set b j and in_set a j)) → ((j : ℕ) → in_set z j ≡ (in_set d j and not (eqb j c))) → Rows n (joins t c) z
unfolding share of_instance joins same_instance
joining_rows t c v a b d z h x p q e f =
    rows_cong
    (λ j l.
    bool_ext _ _
    (λ v.
    let k = split v in
    let m = split k.0 in
    let o = split m.0 in
    and_true (and_true (ap not (eqb_swap c j) ∙ k.1) (and_true (and_true h o.0) (eqb_swap (t.row c).start (t.row j).start ∙ o.1))) m.1)
    (λ v.
    let k = split v in
    let m = split k.0 in
    let o = split m.1 in
    and_true (and_true (and_true (split o.0).1 (eqb_swap (t.row j).start (t.row c).start ∙ o.1)) k.1) (ap not (eqb_swap j c) ∙ m.0)))
    (rows_cut (λ j. not (eqb j c)) (rows_and q (rows_cong (λ j l. ap (λ (y : ℕ). shares t.places y (t.row c).agent (t.row j).agent) x) p) e) f)

-- ---- laws: what arrives

pub arrives_off : (t : Table) (n : ℕ) (d : Set) (i j : ℕ) → in_set d i ≡ false → arrives_by t n d j i ≡ false
unfolding arrives_by
arrives_off t n d i j e = and_false_left (in_set d i) _ e

pub arrives_on : (t : Table) (n : ℕ) (d r o z : Set) (i : ℕ) → Rows n (from_row t i) o → ((j : ℕ) → in_set z j ≡ (in_set r j or in_set o j)) → in_set d i ≡ true
    → (j : ℕ) → in_set z j ≡ (in_set r j or arrives_by t n d j i)
unfolding arrives_by
arrives_on t n d r o z i h e m j = e j ∙ ap (λ (v : Bool). in_set r j or v) (h.is j ∙ sym (and_on (in_set d i) _ m))

pub arrived_rows : {t : Table} {n : ℕ} {s : List ℕ} → Opened t n s → (d a b z : Set) → ((j : ℕ) → in_set a j ≡ any_below ROWS (arrives_by t n d j)) → b ≡ set_at s BARRIER
    → ((j : ℕ) → in_set z j ≡ (in_set a j and in_set b j)) → Rows n (arrived t d) z
unfolding arrived arrives_by up_from up_to from_row
arrived_rows {t} {n} o d a b z e f g = record { is = λ j. g j ∙ bool_ext _ _ (out j) (back j) }
  where
    barriers : Rows n (λ j. barrier (t.row j)) b
    barriers = rows_at f (says_rows o.known.tested.kinds.barrier)

    out : (j : ℕ) → (in_set a j and in_set b j) ≡ true → (ltb j n and (any_below ROWS (up_from t d j) and barrier (t.row j))) ≡ true
    out j h =
        let k = split h in
        let q = split (sym (barriers.is j) ∙ k.1) in
        let r = any_out (arrives_by t n d j) ROWS (sym (e j) ∙ k.0) in
        let m = split r.2 in
        and_true q.0 (and_true (any_in (up_from t d j) ROWS r.0 r.1 (and_true m.0 (split m.1).1)) q.1)

    back : (j : ℕ) → (ltb j n and (any_below ROWS (up_from t d j) and barrier (t.row j))) ≡ true → (in_set a j and in_set b j) ≡ true
    back j h =
        let k = split h in
        let q = split k.1 in
        let r = any_out (up_from t d j) ROWS q.0 in
        let m = split r.2 in
        and_true (e j ∙ any_in (arrives_by t n d j) ROWS r.0 r.1 (and_true m.0 (and_true k.0 m.1))) (barriers.is j ∙ and_true k.0 q.1)

pub member_low : {n : ℕ} {p : ℕ → Bool} {x : Set} → Rows n p x → (k : ℕ) → in_set x k ≡ true → k < n
member_low h k e = (member_in k h e).0

pub passes_rows : {t : Table} {n : ℕ} {s : List ℕ} → Opened t n s → (c : ℕ) (d z : Set) → control (t.row c) ≡ true → Rows n (joins t c) d → Rows n (arrived t d) z → Rows n (passes_to t c) z
unfolding arrived passes_to up_from arrives
passes_rows {t} {n} o c d z h p q = rows_cong (λ j l. bool_ext _ _ (out j) (back j)) q
  where
    rows_are : t.rows ≡ n
    rows_are = o.rows

    low : n ≤ ROWS
    low = few o

    out : (j : ℕ) → (any_below ROWS (up_from t d j) and barrier (t.row j)) ≡ true → (control (t.row c) and (barrier (t.row j) and any_below t.rows (arrives t j c))) ≡ true
    out j v =
        let k = split v in
        let r = any_out (up_from t d j) ROWS k.0 in
        let m = split r.2 in
        let i = member_in r.0 p m.0 in
        let l = i.0 in
        and_true h (and_true k.1 (any_in (arrives t j c) t.rows r.0 (omega (arith, rows_are)) (and_true m.1 i.1)))

    back : (j : ℕ) → (control (t.row c) and (barrier (t.row j) and any_below t.rows (arrives t j c))) ≡ true → (any_below ROWS (up_from t d j) and barrier (t.row j)) ≡ true
    back j v =
        let k = split (split v).1 in
        let r = any_out (arrives t j c) t.rows k.1 in
        let m = split r.2 in
        let l = r.1 in
        and_true (any_in (up_from t d j) ROWS r.0 (omega (arith, rows_are, low)) (and_true (p.is r.0 ∙ and_true (lt-ltb r.0 n (omega (arith, rows_are))) m.1) m.0)) k.0

pub passes_none : (t : Table) {n : ℕ} (c : ℕ) (z : Set) → control (t.row c) ≡ false → ((j : ℕ) → in_set z j ≡ false) → Rows n (passes_to t c) z
unfolding passes_to
passes_none t {n} c z h e = record { is = λ j. e j ∙ sym (and_false_right (ltb j n) _ (and_false_left (control (t.row c)) _ h)) }

-- ---- laws: up the page

-- with one row more
passing_more : (t : Table) (m g b : ℕ) → m < t.rows → (passing t (m + 1) g b or (eqb g (t.row m).agent and passes_to t m b)) ≡ passing t m g b
unfolding passing passing_by
passing_more t m g b l = bool_ext _ _ (λ e. ⊎_elim old new (or_cases _ _ e)) back
  where
    old : any_below t.rows (passing_by t (m + 1) g b) ≡ true → any_below t.rows (passing_by t m g b) ≡ true
    old e =
        let r = any_out (passing_by t (m + 1) g b) t.rows e in
        let k = split r.2 in
        let q = split k.0 in
        let a = leb-true (m + 1) r.0 q.0 in
        any_in (passing_by t m g b) t.rows r.0 r.1 (and_true (and_true (le-leb m r.0 (omega arith)) q.1) k.1)

    new : (eqb g (t.row m).agent and passes_to t m b) ≡ true → any_below t.rows (passing_by t m g b) ≡ true
    new e =
        let k = split e in
        any_in (passing_by t m g b) t.rows m l (and_true (and_true (le-leb m m (omega arith)) (eqb_swap (t.row m).agent g ∙ k.0)) k.1)

    back : any_below t.rows (passing_by t m g b) ≡ true → (any_below t.rows (passing_by t (m + 1) g b) or (eqb g (t.row m).agent and passes_to t m b)) ≡ true
    back e =
        let r = any_out (passing_by t m g b) t.rows e in
        let k = split r.2 in
        let q = split k.0 in
        go r.0 r.1 q.0 q.1 k.1 (ℕ_discrete r.0 m)
      where
        go : (c : ℕ) → c < t.rows → leb m c ≡ true → eqb (t.row c).agent g ≡ true → passes_to t c b ≡ true → Dec (c ≡ m)
            → (any_below t.rows (passing_by t (m + 1) g b) or (eqb g (t.row m).agent and passes_to t m b)) ≡ true
        go c o a q k (yes d) =
            or_right _
            (and_true (eqb_swap g (t.row m).agent ∙ subst (λ (z : ℕ). eqb (t.row z).agent g ≡ true) d q) (subst (λ (z : ℕ). passes_to t z b ≡ true) d k))
        go c o a q k (no d) =
            let f = leb-true m c a in
            or_left _ (any_in (passing_by t (m + 1) g b) t.rows c o (and_true (and_true (le-leb (m + 1) c (omega arith)) q) k))

-- what is joined is a control barrier
arrives_control : (t : Table) (b c d : ℕ) → arrives t b c d ≡ true → control (t.row c) ≡ true
unfolding arrives joins same_instance
arrives_control t b c d e = (split (split (split (split (split e).1).0).1).0).0

-- a barrier gets what its agent's control barriers pass to
passed_is : (t : Table) (a b : ℕ) → (barrier (t.row a) and passing t a (t.row a).agent b) ≡ passed_by t a b
unfolding passing passing_by passes_to passed_by passes up_to same_agent
passed_is t a b = bool_ext _ _ out back
  where
    out : (barrier (t.row a) and any_below t.rows (passing_by t a (t.row a).agent b)) ≡ true → (barrier (t.row a) and barrier (t.row b) and any_below t.rows (passes t a b)) ≡ true
    out e =
        let k = split e in
        let r = any_out (passing_by t a (t.row a).agent b) t.rows k.1 in
        let q = split r.2 in
        let m = split q.0 in
        let o = split (split q.1).1 in
        and_true (and_true k.0 o.0) (any_in (passes t a b) t.rows r.0 r.1 (and_true (and_true m.0 (eqb_swap (t.row a).agent (t.row r.0).agent ∙ m.1)) o.1))

    joined_control : (c : ℕ) → any_below t.rows (arrives t b c) ≡ true → control (t.row c) ≡ true
    joined_control c e = let r = any_out (arrives t b c) t.rows e in arrives_control t b c r.0 r.2

    back : (barrier (t.row a) and barrier (t.row b) and any_below t.rows (passes t a b)) ≡ true → (barrier (t.row a) and any_below t.rows (passing_by t a (t.row a).agent b)) ≡ true
    back e =
        let k = split e in
        let h = split k.0 in
        let r = any_out (passes t a b) t.rows k.1 in
        let q = split r.2 in
        let m = split q.0 in
        and_true h.0
        (any_in (passing_by t a (t.row a).agent b) t.rows r.0 r.1
        (and_true (and_true m.0 (eqb_swap (t.row r.0).agent (t.row a).agent ∙ m.1)) (and_true (joined_control r.0 q.1) (and_true h.1 q.1))))

-- a row's turn
pub pass_turn : {t : Table} {n : ℕ} {s : List ℕ} → Opened t n s → {by by' w w' : List ℕ} (a g : ℕ) (own all r x : Set) (b : Bool) → a < n → g ≡ (t.row a).agent
    → Passing t n (a + 1) by w → Rows n (passes_to t a) own → Stored (0 + 2 * g) (joined by (0 + 2 * g) own) by by' → all ≡ set_at by' (0 + 2 * g)
    → r ≡ set_at s BARRIER → b ≡ in_set r a → ((j : ℕ) → in_set x j ≡ (b and in_set all j)) → Stored (PASSED + 2 * a) (in_set x) w w' → Passes t n a by by' w w'
unfolding joined
pass_turn {t} {n} {s} o {by} {by'} {w} {w'} a g own all r x b l e inv h p q f k m z =
    record {
      to = record { room = let d = inv.room in omega (arith, p.frame.len); agents = agents; done = λ i u v. done i u v (ℕ_discrete i a) };
      frame = within_widen PASSED PASSED_END (omega arith) (omega (arith, low)) z.frame;
      agents = within_widen 0 64 (omega arith) (omega (arith, agent)) p.frame;
    }
  where
    low : a < ROWS
    low = let d = few o in omega arith

    there : a < t.rows
    there = let d = o.rows in omega arith

    agent : g < 32
    agent = let d = agent_low o a l in omega (arith, e)

    agents : (i : ℕ) → i < 32 → Rows n (passing t a i) (nth by' 0 i)
    agents i u = go (ℕ_discrete i g)
      where
        more : (j : ℕ) → (passing t (a + 1) i j or (eqb i g and passes_to t a j)) ≡ passing t a i j
        more j = ap (λ (y : ℕ). passing t (a + 1) i j or (eqb i y and passes_to t a j)) e ∙ passing_more t a i j there

        go : Dec (i ≡ g) → Rows n (passing t a i) (nth by' 0 i)
        go (yes d) =
            rows_cong (λ j v. ap (λ (c : Bool). passing t (a + 1) i j or c) (sym (and_on (eqb i g) (passes_to t a j) (eq-eqb i g d))) ∙ more j)
            (rows_or (inv.agents i u) h (λ j. ap (λ (y : ℕ). in_set (set_at by' (0 + 2 * y)) j) d ∙ p.is j ∙ ap (λ (y : ℕ). in_set (set_at by (0 + 2 * y)) j or in_set own j) (sym d)))
        go (no d) =
            rows_cong (λ j v. sym (or_off (passing t (a + 1) i j) _ (and_false_left (eqb i g) (passes_to t a j) (ne_eqb i g d))) ∙ more j)
            (rows_at (set_kept (0 + 2 * i) (λ c. omega (arith, d)) p.frame) (inv.agents i u))

    here : Rows n (passed_by t a) (nth w' PASSED a)
    here =
        rows_cong
        (λ j v. ap (λ (c : Bool). c and passing t a g j) (k ∙ ap (λ (y : Set). in_set y a) f ∙ rows_in_lem (says_rows o.known.tested.kinds.barrier) a l)
        ∙ ap (λ (y : ℕ). barrier (t.row a) and passing t a y j) e ∙ passed_is t a j)
        (rows_if b (rows_at q (agents g agent)) (λ j. z.is j ∙ m j))

    done : (i : ℕ) → a ≤ i → i < n → Dec (i ≡ a) → Rows n (passed_by t i) (nth w' PASSED i)
    done i u v (yes d) = subst (λ (y : ℕ). Rows n (passed_by t y) (nth w' PASSED y)) (sym d) here
    done i u v (no d) = rows_at (set_kept (PASSED + 2 * i) (λ c. omega (arith, d)) z.frame) (inv.done i (omega (arith, d)) v)

pub passing_at : {t : Table} {n m k : ℕ} {by w : List ℕ} → k ≡ m → Passing t n m by w → Passing t n k by w
passing_at {t} {n} {m} {k} {by} {w} e p = subst (λ (i : ℕ). Passing t n i by w) (sym e) p

-- words that are 0
pub blank : (n k : ℕ) → get_or (replicate {A = ℕ} n 0) k 0 ≡ 0
blank zero k = refl
blank (suc n) zero = refl
blank (suc n) (suc k) = blank n k

-- it begins with nothing
pub pass_begin : (t : Table) (n : ℕ) {by : List ℕ} (w : List ℕ) → t.rows ≡ n → 64 ≤ length by → ((k : ℕ) → get_or by k 0 ≡ 0) → Passing t n n by w
unfolding passing passing_by set_at
pass_begin t n {by} w r room e =
    record {
      room = room;
      agents = λ g l. record { is = λ j. none_in (set_at by (0 + 2 * g)) (e (0 + 2 * g)) (e (0 + 2 * g + 1)) j ∙ sym (and_false_right (ltb j n) _ (none g j)) };
      done = λ a u v. absurd (omega arith);
    }
  where
    none : (g j : ℕ) → any_below t.rows (passing_by t n g j) ≡ false
    none g j =
        any_not (passing_by t n g j) t.rows
        (λ c l. not_so (passing_by t n g j c) (λ h. let q = leb-true n c (split (split h).0).0 in absurd (omega (arith, r))))

pub pass_end : {t : Table} {n : ℕ} {by w u : List ℕ} → Passing t n 0 by u → Within PASSED PASSED_END w u → MadeGrid PASSED PASSED_END PASSED n (passed_by t) w u
pass_end p f = record { grid = record { row = λ i l. p.done i (omega arith) l }; frame = f }

-- a table without control barriers
pub pass_none : {t : Table} {n : ℕ} {s w u : List ℕ} → Given t n s w → (x : Set) → x ≡ set_at s 12 → any_below ROWS (in_set x) ≡ false → u ≡ zeros w PASSED (PASSED_END - PASSED)
    → MadeGrid PASSED PASSED_END PASSED n (passed_by t) w u
unfolding passed_by passes set_at
pass_none {t} {n} {s} {w} {u} given x e f z =
    record { grid = record { row = λ i l. record { is = λ j. empty i j l ∙ sym (and_false_right (ltb j n) _ (nothing i j)) } }; frame = within_cleared PASSED PASSED_END (omega arith) z }
  where
    o : Opened t n s
    o = given.opened

    low : n ≤ ROWS
    low = few o

    room : PASSED_END ≤ length w
    room = let r = given.room in omega arith

    word : (k : ℕ) → k < 2 * ROWS → get_or u (PASSED + k) 0 ≡ 0
    word k l = ap (λ (v : List ℕ). get_or v (PASSED + k) 0) z ∙ zeros_in w PASSED (PASSED_END - PASSED) (PASSED + k) (omega (arith, room)) (omega arith) (omega arith)

    empty : (i j : ℕ) → i < n → in_set (nth u PASSED i) j ≡ false
    empty i j l =
        none_in (set_at u (PASSED + 2 * i)) (word (2 * i) (omega (arith, low)))
        (let g : PASSED + 2 * i + 1 ≡ PASSED + (2 * i + 1) = omega arith in ap (λ (y : ℕ). get_or u y 0) g ∙ word (2 * i + 1) (omega (arith, low))) j

    no_control : (c : ℕ) → c < t.rows → control (t.row c) ≡ false
    no_control c l =
        let d = o.rows in
        sym (rows_in_lem (control_rows o e) c (omega arith)) ∙ any_off (in_set x) ROWS f c (omega (arith, low))

    nothing : (i j : ℕ) → (barrier (t.row i) and barrier (t.row j) and any_below t.rows (passes t i j)) ≡ false
    nothing i j =
        and_false_right _ (any_below t.rows (passes t i j))
        (any_not (passes t i j) t.rows
        (λ c l. not_so (passes t i j c)
        (λ h. let r = any_out (arrives t j c) t.rows (split h).1 in not_both (arrives_control t j c r.0 r.2) (no_control c l))))
