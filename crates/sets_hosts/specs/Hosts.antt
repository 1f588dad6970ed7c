-- L4 and L5 as sets of rows: what an operation leaves in a domain, and who meets it. Assumes nothing.
use Rattle.std.specs.Prelude.{◌≡◌, refl, Bool, true, false, not, cond, List, ◌⊎◌, ℕ, ◌+◌, ◌-◌, ◌*◌, ◌≤◌, ◌<◌, eqb, ltb}
use Rattle.std.proofs.Common.{sym, ap, subst, ◌∙◌, inl, inr, arith, eqb-true, eq-eqb, ne_eqb, leb-true, lt-ltb}
use Rattle.std.specs.Bool.{beq}
use Rattle.std.proofs.Math.Decide.{ℕ_discrete}
use Rattle.std.proofs.lemmas.Bool.{eqb-false}
use Rattle.finite.specs.Logic.{◌and◌, ◌or◌, which, bool_ext, split, and_true, and_on, and_false_left, and_false_right, or_left, or_right, or_off, or_false, not_both, not_in}
use Rattle.finite.specs.Below.{any_below, any_in, any_out, any_not, any_cong}
use Rattle.model.specs.declared.Row.{Row}
use Rattle.model.specs.Limits.{ROWS}
use Rattle.model.specs.Row.{reads, writes, access}
use Rattle.model.specs.Moment.{itself}
use Rattle.model.specs.Happens.{happens}
use Rattle.model.specs.Location.{thence, on_host, available_kind, visible_kind, domain_kind, seen_by, met_from, carried_by, reaches_by, system_before, L4, L5}
use Rattle.model.specs.Table.{Table}
use Rattle.bits.specs.Bit.{zeros}
use Rattle.bits.specs.Within.{Within, within_cleared, within_refl, within_trans, within_widen}
use Rattle.sets_of_rows.specs.declared.Set.{Set}
use Rattle.sets_of_rows.specs.Member.{in_set}
use Rattle.sets_of_rows.specs.First.{First, first_next, Rest, next}
use Rattle.sets_of_rows.specs.Kept.{set_at, set_kept, Stored}
use Rattle.sets_of_rows.specs.Family.{nth}
use Rattle.sets_of_rows.specs.Rows.{Rows, rows_at, rows_in_lem, rows_cong, rows_and, rows_or, rows_less, rows_cut}
use Rattle.sets_of_rows.specs.Walk.{Walk, walk_begin, walk_turn, walk_end}
use Rattle.sets_of_rows.specs.Tasks
use Rattle.sets_of_table.specs.Says.{says_kind}
use Rattle.sets_of_table.specs.Tested.{READS, WRITES}
use Rattle.sets_of_table.specs.Hears.{ON_HOST}
use Rattle.sets_of_table.specs.Known.{Opened, says_rows}
use Rattle.sets_of_table.specs.Ask.{few}
use Rattle.sets_grids.specs.Regions.{HAPPENS, SYSTEM, MET, MET_END, HOSTED, HOSTED_END}
use Rattle.sets_grids.specs.Grid.{Grid, GridOn, MadeGrid, grid_at, grid_on, grid_kept, grid_on_kept}
use Rattle.sets_grids.specs.Given.{Given, given_kept}
use Rattle.sets_grids.specs.Filling.{member_in}
use Rattle.sets_grids.specs.Union.{led_by, union_rows}
use Rattle.sets_grids.specs.Happens.{happens_rows}
use Rattle.sets_grids.specs.Hosted.{hosted_by}

-- ---- definitions

-- j is of the domain h, and meets what the operation m leaves there
unfoldable pub met_in : Table → Bool → ℕ → ℕ → Bool
met_in t h m j = beq h (on_host t j) and met_from t j m

-- d carries to the other domain what the operation a makes available to h, and j meets it there
unfoldable pub beyond_by : Table → Bool → ℕ → ℕ → ℕ → Bool
beyond_by t h a j d = thence t (cond h 11 12) a d and met_in t (not h) d j

unfoldable pub beyond : Table → Bool → ℕ → ℕ → Bool
beyond t h a j = any_below t.rows (beyond_by t h a j)

-- j, of n, meets in the other domain what the member d of x leaves there
unfoldable pub beyond_to : Table → ℕ → Bool → Set → ℕ → ℕ → Bool
beyond_to t n h x j d = in_set x d and (ltb j n and met_in t (not h) d j)

-- j meets what the operation a makes available to h
unfoldable pub met_all : Table → Bool → ℕ → ℕ → Bool
met_all t h a j = met_in t h a j or beyond t h a j

-- a makes available to the host's domain; to one of the two
unfoldable pub to_host : Table → ℕ → Bool
to_host t a = eqb (t.row a).kind 7

unfoldable pub makes : Table → ℕ → Bool
makes t a = eqb (t.row a).kind 7 or eqb (t.row a).kind 8

unfoldable pub met_row : Table → ℕ → ℕ → Bool
met_row t a j = met_all t (to_host t a) a j

-- j meets what is made available to x's domain after x
unfoldable pub reached : Table → ℕ → ℕ → Bool
reached t x j = any_below t.rows (reaches_by t x j)

-- a table, its sets and happens-before between its rows
pub record Lent (t : Table) (n : ℕ) (s w : List ℕ) : Type 0 where
  pub given : Given t n s w
  pub happens : Grid HAPPENS n (happens_rows t) w

-- and who meets what, and system synchronization
pub record Hosting (t : Table) (n : ℕ) (s w : List ℕ) : Type 0 where
  pub lent : Lent t n s w
  pub met : GridOn (makes t) MET n (met_row t) w
  pub system : Grid SYSTEM n (system_before t) w

-- of the members of x below m, who meets what they make available
pub record MetTo (s w : List ℕ) (x : Set) (m : ℕ) (u : List ℕ) : Type 0 where
  pub is : (t : Table) (n : ℕ) → Lent t n s w → (a : ℕ) → a < m → a < n → in_set x a ≡ true → Rows n (met_row t a) (nth u MET a)

pub record Meeting (s w : List ℕ) (x left : Set) (u : List ℕ) : Type 0 where
  pub walk : Walk x left
  pub to : MetTo s w x (next left) u
  pub frame : Within MET MET_END w u

pub record MadeMet (s w u : List ℕ) : Type 0 where
  pub met : (t : Table) (n : ℕ) → Lent t n s w → GridOn (makes t) MET n (met_row t) u
  pub frame : Within MET MET_END w u

-- ---- laws: a change elsewhere

pub lent_kept : {t : Table} {n c d : ℕ} {s w u : List ℕ} → HOSTED ≤ c → Within c d w u → Lent t n s w → Lent t n s u
lent_kept {n = n} l f h =
    let b : n ≤ ROWS = few h.given.opened in
    record { given = given_kept f h.given; happens = grid_kept (λ o. absurd (omega arith)) f h.happens }

pub hosting_kept : {t : Table} {n : ℕ} {s w u : List ℕ} → Within HOSTED HOSTED_END w u → Hosting t n s w → Hosting t n s u
hosting_kept f h =
    record { lent = lent_kept (omega arith) f h.lent; met = grid_on_kept (λ o. omega arith) f h.met; system = grid_kept (λ o. omega arith) f h.system }

pub hosting_made : {t : Table} {n : ℕ} {s w u : List ℕ} → Lent t n s w → Grid SYSTEM n (system_before t) w → MadeMet s w u → Hosting t n s u
hosting_made {t} {n} l g m =
    let b : n ≤ ROWS = few l.given.opened in
    record { lent = lent_kept (omega arith) m.frame l; met = m.met t n l; system = grid_kept (λ o. absurd (omega arith)) m.frame g }

-- while the last grid is filled
pub hosting_at : {t : Table} {n : ℕ} {s w v u x : List ℕ} → Given t n s w → Grid HAPPENS n (happens_rows t) w → Grid SYSTEM n (system_before t) w → MadeMet s w v
    → u ≡ zeros v HOSTED (HOSTED_END - HOSTED) → Within HOSTED HOSTED_END u x → Hosting t n s x
hosting_at g h y m e f = hosting_kept f (hosting_kept (within_cleared HOSTED HOSTED_END (omega arith) e) (hosting_made (record { given = g; happens = h }) y m))

-- ---- laws: domains

pub kind_on : (s : List ℕ) (x : Set) (h : Bool) (a b : ℕ) → h ≡ true → x ≡ set_at s (0 + 2 * a) → x ≡ set_at s (0 + 2 * cond h a b)
kind_on s x h a b e f = f ∙ sym (ap (λ (c : Bool). set_at s (0 + 2 * cond c a b)) e)

pub kind_off : (s : List ℕ) (x : Set) (h : Bool) (a b : ℕ) → h ≡ false → x ≡ set_at s (0 + 2 * b) → x ≡ set_at s (0 + 2 * cond h a b)
kind_off s x h a b e f = f ∙ sym (ap (λ (c : Bool). set_at s (0 + 2 * cond c a b)) e)

beq_on : (h b : Bool) → h ≡ true → beq h b ≡ b
beq_on h true e = rw e refl
beq_on h false e = rw e refl

beq_off : (h b : Bool) → h ≡ false → beq h b ≡ not b
beq_off h true e = rw e refl
beq_off h false e = rw e refl

beq_true : (a b : Bool) → beq a b ≡ true → a ≡ b
beq_true true true e = refl
beq_true true false e = sym e
beq_true false true e = e
beq_true false false e = refl

beq_false : (a b : Bool) → beq a b ≡ false → beq (not a) b ≡ true
beq_false true true e = sym e
beq_false true false e = refl
beq_false false true e = refl
beq_false false false e = sym e

beq_not : (a b : Bool) → beq a b ≡ true → beq (not a) b ≡ false
beq_not true true e = refl
beq_not true false e = sym e
beq_not false true e = sym e
beq_not false false e = refl

pub domain_on : (x y z : Set) (s : List ℕ) (h : Bool) → h ≡ true → y ≡ set_at s ON_HOST → ((j : ℕ) → in_set z j ≡ (in_set x j and in_set y j))
    → (j : ℕ) → in_set z j ≡ (in_set x j and beq h (in_set (set_at s ON_HOST) j))
domain_on x y z s h e f g j = g j ∙ ap (λ (b : Bool). in_set x j and b) (ap (λ (u : Set). in_set u j) f ∙ sym (beq_on h (in_set (set_at s ON_HOST) j) e))

pub domain_off : (x y z : Set) (s : List ℕ) (h : Bool) → h ≡ false → y ≡ set_at s ON_HOST → ((j : ℕ) → in_set z j ≡ (in_set x j and not (in_set y j)))
    → (j : ℕ) → in_set z j ≡ (in_set x j and beq h (in_set (set_at s ON_HOST) j))
domain_off x y z s h e f g j = g j ∙ ap (λ (b : Bool). in_set x j and b) (ap (λ (u : Set). not (in_set u j)) f ∙ sym (beq_off h (in_set (set_at s ON_HOST) j) e))

cond_low : (h : Bool) (a b : ℕ) → a < 16 → b < 16 → cond h a b < 16
cond_low true a b l m = l
cond_low false a b l m = m

kind_rows : {t : Table} {n : ℕ} {s : List ℕ} → Opened t n s → (h : Bool) (a b : ℕ) → a < 16 → b < 16 → {x : Set} → x ≡ set_at s (0 + 2 * cond h a b)
    → Rows n (λ j. eqb (t.row j).kind (cond h a b)) x
kind_rows {t} {n} {s} o h a b l m e =
    rows_at (e ∙ ap (set_at s) (let q : 0 + 2 * cond h a b ≡ 0 + 2 * (0 + cond h a b) = omega arith in q)) (says_rows (says_kind o.known.tested.ground (cond h a b) (cond_low h a b l m)))

-- ---- laws: who meets what is left in a domain

or_first : (a b : Bool) → a ≡ false → (a or b) ≡ b
unfolding ◌or◌
or_first a b e = rw e refl

met_cases : (s r h : Bool) → ((h and not r) or (s and r)) ≡ cond r s h
unfolding ◌and◌ ◌or◌
met_cases true true true = refl
met_cases true true false = refl
met_cases false true true = refl
met_cases false true false = refl
met_cases true false true = refl
met_cases true false false = refl
met_cases false false true = refl
met_cases false false false = refl

under : (b c d : Bool) → (b ≡ true → c ≡ d) → (c and b) ≡ (b and d)
unfolding ◌and◌
under true true d e = e refl
under true false d e = e refl
under false true d e = refl
under false false d e = refl

turn : (a b c : Bool) → ((a and b) and c) ≡ ((b and a) and c)
unfolding ◌and◌
turn true true c = refl
turn true false c = refl
turn false true c = refl
turn false false c = refl

pub met_in_rows : (h : Bool) (m : ℕ) (s w : List ℕ) (r to v by u a b x z : Set) → r ≡ set_at s READS → to ≡ set_at w (HAPPENS + 2 * m) → v ≡ set_at s (0 + 2 * cond h 9 10)
    → ((j : ℕ) → in_set by j ≡ (in_set to j and in_set v j)) → ((j : ℕ) → in_set u j ≡ any_below ROWS (Tasks.leads w HAPPENS by j))
    → ((j : ℕ) → in_set a j ≡ (in_set to j and not (in_set r j))) → ((j : ℕ) → in_set b j ≡ (in_set u j and in_set r j)) → ((j : ℕ) → in_set x j ≡ (in_set a j or in_set b j))
    → ((j : ℕ) → in_set z j ≡ (in_set x j and beq h (in_set (set_at s ON_HOST) j)))
    → (t : Table) (n : ℕ) → Lent t n s w → m < n → Rows n (met_in t h m) z
unfolding met_in met_from seen_by thence visible_kind led_by happens_rows
met_in_rows h m s w r to v by u a b x z er et ev eb eu ea ec ex ez t n g l =
    rows_cong (λ j k. same j k) (rows_cut (λ j. beq h (in_set (set_at s ON_HOST) j)) (rows_or (rows_less tos reading ea) (rows_and seen reading ec) ex) ez)
  where
    o : Opened t n s
    o = g.given.opened

    reading : Rows n (λ j. reads (t.row j)) r
    reading = rows_at er (says_rows o.known.tested.accesses.reads)

    tos : Rows n (happens_rows t m) to
    tos = grid_at g.happens l et

    led : ℕ → Bool
    led i = happens_rows t m i and eqb (t.row i).kind (cond h 9 10)

    seen : Rows n (λ j. any_below n (led_by led (happens_rows t) j)) u
    seen = union_rows (few o) (grid_on (λ i. true) g.happens) (rows_and tos (kind_rows o h 9 10 (omega arith) (omega arith) ev) eb) (λ i k p. refl) eu

    sees : (j : ℕ) → h ≡ on_host t j → any_below n (led_by led (happens_rows t) j) ≡ any_below t.rows (seen_by t j m)
    sees j e =
        any_cong (led_by led (happens_rows t) j) (seen_by t j m) n
        (λ i k. turn (happens t (itself m) (itself i)) (eqb (t.row i).kind (cond h 9 10)) (happens t (itself i) (itself j))
        ∙ ap (λ (c : Bool). (eqb (t.row i).kind (cond c 9 10) and happens t (itself m) (itself i)) and happens t (itself i) (itself j)) e)
        ∙ ap (λ (k : ℕ). any_below k (seen_by t j m)) (sym o.rows)

    same : (j : ℕ) → j < n
        → (((happens_rows t m j and not (reads (t.row j))) or (any_below n (led_by led (happens_rows t) j) and reads (t.row j))) and beq h (in_set (set_at s ON_HOST) j))
        ≡ (beq h (on_host t j) and met_from t j m)
    same j k =
        ap (λ (c : Bool). ((happens_rows t m j and not (reads (t.row j))) or (any_below n (led_by led (happens_rows t) j) and reads (t.row j))) and beq h c)
        (rows_in_lem o.known.hosts j k)
        ∙ under (beq h (on_host t j)) _ (met_from t j m)
        (λ e. met_cases (any_below n (led_by led (happens_rows t) j)) (reads (t.row j)) (happens_rows t m j)
        ∙ ap (λ (c : Bool). cond (reads (t.row j)) c (happens_rows t m j)) (sees j (beq_true h (on_host t j) e)))

-- ---- laws: in the other domain

pub beyond_off : (t : Table) (n : ℕ) (h : Bool) (x : Set) (i j : ℕ) → in_set x i ≡ false → beyond_to t n h x j i ≡ false
unfolding beyond_to
beyond_off t n h x i j e = and_false_left (in_set x i) _ e

-- the operations that carry what a makes available
pub carriers : {t : Table} {n : ℕ} {s w : List ℕ} → Lent t n s w → (h : Bool) (a : ℕ) {c g x : Set} → a < n → c ≡ set_at s (0 + 2 * cond h 11 12) → g ≡ set_at w (HAPPENS + 2 * a)
    → ((j : ℕ) → in_set x j ≡ (in_set g j and in_set c j)) → Rows n (λ d. happens_rows t a d and eqb (t.row d).kind (cond h 11 12)) x
carriers l h a m ec eg ex = rows_and (grid_at l.happens m eg) (kind_rows l.given.opened h 11 12 (omega arith) (omega arith) ec) ex

pub beyond_on : (t : Table) (n : ℕ) (h : Bool) (x r z y : Set) (d : ℕ) {p : ℕ → Bool} → Rows n p x → (d < n → Rows n (met_in t (not h) d) z) → ((j : ℕ) → in_set y j ≡ (in_set r j or in_set z j))
    → in_set x d ≡ true → (j : ℕ) → in_set y j ≡ (in_set r j or beyond_to t n h x j d)
unfolding beyond_to
beyond_on t n h x r z y d q m o e j = o j ∙ ap (λ (b : Bool). in_set r j or b) ((m (member_in d q e).0).is j ∙ sym (and_on (in_set x d) _ e))

pub beyond_rows : {t : Table} {n : ℕ} {s w : List ℕ} → Lent t n s w → (h : Bool) (a : ℕ) (x z : Set) → Rows n (λ d. happens_rows t a d and eqb (t.row d).kind (cond h 11 12)) x
    → ((j : ℕ) → in_set z j ≡ any_below ROWS (beyond_to t n h x j)) → Rows n (beyond t h a) z
unfolding beyond beyond_by beyond_to thence happens_rows
beyond_rows {t} {n} {s} {w} g h a x z p e = record { is = λ j. e j ∙ bool_ext _ _ (out j) (back j) }
  where
    o : Opened t n s
    o = g.given.opened

    rows_are : t.rows ≡ n
    rows_are = o.rows

    low : n ≤ ROWS
    low = few o

    out : (j : ℕ) → any_below ROWS (beyond_to t n h x j) ≡ true → (ltb j n and any_below t.rows (beyond_by t h a j)) ≡ true
    out j v =
        let r = any_out (beyond_to t n h x j) ROWS v in
        let k = split r.2 in
        let m = member_in r.0 p k.0 in
        let q = split k.1 in
        let c = split m.1 in
        let l = m.0 in
        and_true q.0 (any_in (beyond_by t h a j) t.rows r.0 (omega (arith, rows_are)) (and_true (and_true c.1 c.0) q.1))

    back : (j : ℕ) → (ltb j n and any_below t.rows (beyond_by t h a j)) ≡ true → any_below ROWS (beyond_to t n h x j) ≡ true
    back j v =
        let k = split v in
        let r = any_out (beyond_by t h a j) t.rows k.1 in
        let m = split r.2 in
        let c = split m.0 in
        let l = r.1 in
        any_in (beyond_to t n h x j) ROWS r.0 (omega (arith, rows_are, low))
        (and_true (p.is r.0 ∙ and_true (lt-ltb r.0 n (omega (arith, rows_are))) (and_true c.1 c.0)) (and_true k.0 m.1))

-- ---- laws: operation by operation

met_skip : (s w : List ℕ) (x : Set) (u : List ℕ) (k : ℕ) → in_set x k ≡ false → MetTo s w x k u → MetTo s w x (k + 1) u
met_skip s w x u k e h = record { is = λ t n g a l m i. go t n g a l m i (ℕ_discrete a k) }
  where
    go : (t : Table) (n : ℕ) → Lent t n s w → (a : ℕ) → a < k + 1 → a < n → in_set x a ≡ true → Dec (a ≡ k) → Rows n (met_row t a) (nth u MET a)
    go t n g a l m i (yes q) = not_both i (ap (in_set x) q ∙ e)
    go t n g a l m i (no q) = h.is t n g a (omega (arith, q)) m i

pub meet_begin : (s w : List ℕ) (x : Set) → Meeting s w x x w
meet_begin s w x =
    let b = walk_begin x (λ m. MetTo s w x m w) (met_skip s w x w) (record { is = λ t n g a l m i. absurd (omega arith) }) in
    record { walk = b.0; to = b.1; frame = within_refl MET MET_END w }

pub meet_turn : {s w u v : List ℕ} {x left rest : Set} {a : ℕ} (hosts y z r : Set) (b : Bool) → Meeting s w x left u → First left a → Rest left rest → hosts ≡ set_at s 14
    → b ≡ in_set hosts a → ((t : Table) (n : ℕ) → Lent t n s u → a < n → Rows n (met_in t b a) y) → ((t : Table) (n : ℕ) → Lent t n s u → a < n → Rows n (beyond t b a) z)
    → ((j : ℕ) → in_set r j ≡ (in_set y j or in_set z j)) → Stored (MET + 2 * a) (in_set r) u v → Meeting s w x rest v
unfolding met_row met_all to_host
meet_turn {s} {w} {u} {v} {x} {left} {rest} {a} hosts y z r b inv low h eh eb em ey er p = record { walk = both.0; to = both.1; frame = within_trans inv.frame wide }
  where
    wide : Within MET MET_END u v
    wide = let l = low.bound in within_widen MET MET_END (omega arith) (omega (arith, l)) p.frame

    here : (t : Table) (n : ℕ) → Lent t n s w → a < n → Rows n (met_row t a) (nth v MET a)
    here t n g l =
        let k = lent_kept (omega arith) inv.frame g in
        let e : b ≡ eqb (t.row a).kind 7 = eb ∙ rows_in_lem (rows_at eh (says_rows (says_kind g.given.opened.known.tested.ground 7 (omega arith)))) a l in
        rows_cong (λ j m. ap (λ (c : Bool). met_in t c a j or beyond t c a j) e)
        (rows_or (em t n k l) (ey t n k l) (λ j. p.is j ∙ er j))

    go : (t : Table) (n : ℕ) → Lent t n s w → (k : ℕ) → k < a + 1 → k < n → in_set x k ≡ true → Dec (k ≡ a) → Rows n (met_row t k) (nth v MET k)
    go t n g k l m i (yes q) = subst (λ (c : ℕ). Rows n (met_row t c) (nth v MET c)) (sym q) (here t n g (omega (arith, q)))
    go t n g k l m i (no q) =
        let f = first_next low in
        rows_at (set_kept (MET + 2 * k) (λ d. omega (arith, q)) p.frame) (inv.to.is t n g k (omega (arith, q)) m i)

    both : Walk x rest × MetTo s w x (next rest) v
    both = walk_turn x (λ m. MetTo s w x m v) (met_skip s w x v) inv.walk low h (record { is = λ t n g k l m i. go t n g k l m i (ℕ_discrete k a) })

pub meet_end : {s w u : List ℕ} (a b x left : Set) → a ≡ set_at s 14 → b ≡ set_at s 16 → ((j : ℕ) → in_set x j ≡ (in_set a j or in_set b j)) → any_below ROWS (in_set left) ≡ false
    → Meeting s w x left u → MadeMet s w u
unfolding makes
meet_end {s} {w} {u} a b x left ea eb ex e inv = record { met = λ t n g. record { row = row t n g }; frame = inv.frame }
  where
    all : MetTo s w x ROWS u
    all = walk_end x (λ m. MetTo s w x m u) (met_skip s w x u) left e inv.to

    row : (t : Table) (n : ℕ) → Lent t n s w → (i : ℕ) → i < n → makes t i ≡ true → Rows n (met_row t i) (nth u MET i)
    row t n g i l on =
        let o : Opened t n s = g.given.opened in
        let d : n ≤ ROWS = few o in
        let k = o.known.tested.ground in
        all.is t n g i (omega arith) l (rows_in_lem (rows_or (rows_at ea (says_rows (says_kind k 7 (omega arith)))) (rows_at eb (says_rows (says_kind k 8 (omega arith)))) ex) i l ∙ on)

-- ---- laws: L5

cond_on : {A : Type 0} (c : Bool) (a b : A) → c ≡ true → cond c a b ≡ a
cond_on c a b e = rw e refl

cond_off : {A : Type 0} (c : Bool) (a b : A) → c ≡ false → cond c a b ≡ b
cond_off c a b e = rw e refl

met_all_is : (t : Table) (x a j : ℕ) → met_all t (on_host t x) a j ≡ cond (beq (on_host t x) (on_host t j)) (met_from t j a) (any_below t.rows (carried_by t x j a))
unfolding met_all met_in beyond beyond_by carried_by domain_kind
met_all_is t x a j = go (which (beq (on_host t x) (on_host t j)))
  where
    go : (beq (on_host t x) (on_host t j) ≡ true) ⊎ (beq (on_host t x) (on_host t j) ≡ false)
        → ((beq (on_host t x) (on_host t j) and met_from t j a) or any_below t.rows (beyond_by t (on_host t x) a j))
        ≡ cond (beq (on_host t x) (on_host t j)) (met_from t j a) (any_below t.rows (carried_by t x j a))
    go (inl e) =
        or_off _ _ (any_not (beyond_by t (on_host t x) a j) t.rows
        (λ d l. and_false_right _ _ (and_false_left (beq (not (on_host t x)) (on_host t j)) (met_from t j d) (beq_not (on_host t x) (on_host t j) e))))
        ∙ and_on (beq (on_host t x) (on_host t j)) (met_from t j a) e ∙ sym (cond_on (beq (on_host t x) (on_host t j)) _ _ e)
    go (inr e) =
        or_first _ _ (and_false_left (beq (on_host t x) (on_host t j)) (met_from t j a) e)
        ∙ any_cong (beyond_by t (on_host t x) a j) (carried_by t x j a) t.rows
        (λ d l. ap (λ (c : Bool). thence t (cond (on_host t x) 11 12) a d and c) (and_on (beq (not (on_host t x)) (on_host t j)) (met_from t j d) (beq_false (on_host t x) (on_host t j) e)))
        ∙ sym (cond_off (beq (on_host t x) (on_host t j)) _ _ e)

-- an operation that makes available to the domain h
made_host : (t : Table) (h : Bool) (i : ℕ) → eqb (t.row i).kind (cond h 7 8) ≡ true → (makes t i ≡ true) × (to_host t i ≡ h)
unfolding makes to_host
made_host t true i e = (or_left _ e, e)
made_host t false i e = (or_right _ e, ne_eqb (t.row i).kind 7 (λ q. let k = eqb-true (t.row i).kind 8 e in omega arith))

swap : (a b c d : Bool) → (a ≡ true → b ≡ true → c ≡ d) → ((a and b) and c) ≡ ((b and a) and d)
unfolding ◌and◌
swap true true c d e = e refl refl
swap true false c d e = refl
swap false true c d e = refl
swap false false c d e = refl

pub reached_rows : (x : ℕ) (s w : List ℕ) (r k g y z : Set) (b : Bool) → r ≡ set_at s ON_HOST → b ≡ in_set r x → k ≡ set_at s (0 + 2 * cond b 7 8) → g ≡ set_at w (HAPPENS + 2 * x)
    → ((j : ℕ) → in_set y j ≡ (in_set g j and in_set k j)) → ((j : ℕ) → in_set z j ≡ any_below ROWS (Tasks.leads w MET y j))
    → (t : Table) (n : ℕ) → Hosting t n s w → x < n → Rows n (reached t x) z
unfolding reached reaches_by thence available_kind led_by happens_rows met_row
reached_rows x s w r k g y z b er eb ek eg ey ez t n h l =
    rows_cong (λ j m. any_cong _ (reaches_by t x j) n (λ i v. same i j) ∙ ap (λ (c : ℕ). any_below c (reaches_by t x j)) (sym o.rows))
    (union_rows (few o) h.met by (λ i v p. (made_host t b i (split p).1).0) ez)
  where
    o : Opened t n s
    o = h.lent.given.opened

    by : Rows n (λ i. happens_rows t x i and eqb (t.row i).kind (cond b 7 8)) y
    by = rows_and (grid_at h.lent.happens l eg) (kind_rows o b 7 8 (omega arith) (omega arith) ek) ey

    host : b ≡ on_host t x
    host = eb ∙ ap (λ (c : Set). in_set c x) er ∙ rows_in_lem o.known.hosts x l

    same : (i j : ℕ) → ((happens t (itself x) (itself i) and eqb (t.row i).kind (cond b 7 8)) and met_all t (to_host t i) i j)
        ≡ ((eqb (t.row i).kind (cond (on_host t x) 7 8) and happens t (itself x) (itself i))
        and cond (beq (on_host t x) (on_host t j)) (met_from t j i) (any_below t.rows (carried_by t x j i)))
    same i j =
        swap (happens t (itself x) (itself i)) (eqb (t.row i).kind (cond b 7 8)) _ _
        (λ p q. ap (λ (c : Bool). met_all t c i j) ((made_host t b i q).1 ∙ host) ∙ met_all_is t x i j)
        ∙ ap (λ (c : Bool). (eqb (t.row i).kind (cond c 7 8) and happens t (itself x) (itself i))
        and cond (beq (on_host t x) (on_host t j)) (met_from t j i) (any_below t.rows (carried_by t x j i))) host

-- ---- laws: an access

pub writes_rows : (x : ℕ) (s w : List ℕ) (r z : Set) (b : Bool) → r ≡ set_at s WRITES → b ≡ in_set r x → b ≡ true
    → ((t : Table) (n : ℕ) → Hosting t n s w → x < n → Rows n (reached t x) z)
    → (t : Table) (n : ℕ) → Hosting t n s w → x < n → access (t.row x) ≡ true → Rows n (hosted_by t x) z
unfolding hosted_by L4 L5 reached
writes_rows x s w r z b er eb e f t n h l a = rows_cong (λ j m. same j) (f t n h l)
  where
    o : Opened t n s
    o = h.lent.given.opened

    writing : writes (t.row x) ≡ true
    writing = sym (rows_in_lem (rows_at er (says_rows o.known.tested.accesses.writes)) x l) ∙ sym eb ∙ e

    same : (j : ℕ) → any_below t.rows (reaches_by t x j)
        ≡ (access (t.row x) and ((reads (t.row x) and not (writes (t.row x)) and system_before t x j) or (writes (t.row x) and any_below t.rows (reaches_by t x j))))
    same j =
        sym (and_on (access (t.row x)) _ a
        ∙ or_first _ _ (and_false_left _ (system_before t x j) (and_false_right (reads (t.row x)) (not (writes (t.row x))) (ap not writing)))
        ∙ and_on (writes (t.row x)) _ writing)

not_top : (k m : ℕ) → k ≤ m + 1 → (k ≡ m + 1 → ⊥) → k ≤ m
not_top k m l e = omega arith

reads_else : (r : Row) → access r ≡ true → writes r ≡ false → reads r ≡ true
unfolding access writes reads
reads_else r a w =
    let p = or_false _ _ w in
    let q = or_false _ _ p.0 in
    let l : r.kind ≤ 2 = not_top r.kind 2 (not_top r.kind 3 (leb-true r.kind 4 a) (eqb-false r.kind 4 p.1)) (eqb-false r.kind 3 q.1) in
    go l (eqb-false r.kind 1 q.0) (ℕ_discrete r.kind 0)
  where
    go : r.kind ≤ 2 → (r.kind ≡ 1 → ⊥) → Dec (r.kind ≡ 0) → (eqb r.kind 0 or eqb r.kind 2 or eqb r.kind 4) ≡ true
    go l e (yes k) = or_left _ (or_left _ (eq-eqb r.kind 0 k))
    go l e (no k) = or_left _ (or_right _ (eq-eqb r.kind 2 (omega arith)))

pub other_rows : (x : ℕ) (s w : List ℕ) (r z : Set) (b : Bool) → r ≡ set_at s WRITES → b ≡ in_set r x → b ≡ false → z ≡ set_at w (SYSTEM + 2 * x)
    → (t : Table) (n : ℕ) → Hosting t n s w → x < n → access (t.row x) ≡ true → Rows n (hosted_by t x) z
unfolding hosted_by L4 L5
other_rows x s w r z b er eb e f t n h l a = rows_cong (λ j m. same j) (grid_at h.system l f)
  where
    o : Opened t n s
    o = h.lent.given.opened

    quiet : writes (t.row x) ≡ false
    quiet = sym (rows_in_lem (rows_at er (says_rows o.known.tested.accesses.writes)) x l) ∙ sym eb ∙ e

    same : (j : ℕ) → system_before t x j
        ≡ (access (t.row x) and ((reads (t.row x) and not (writes (t.row x)) and system_before t x j) or (writes (t.row x) and any_below t.rows (reaches_by t x j))))
    same j =
        sym (and_on (access (t.row x)) _ a ∙ or_off _ _ (and_false_left (writes (t.row x)) _ quiet)
        ∙ and_on _ (system_before t x j) (and_true (reads_else (t.row x) a quiet) (not_in quiet)))

pub hosted_only : (t : Table) (i j : ℕ) → hosted_by t i j ≡ true → access (t.row i) ≡ true
unfolding hosted_by
hosted_only t i j e = (split e).0

-- with what was changed before
pub made_after : {n : ℕ} {r : ℕ → ℕ → Bool} {w v u : List ℕ} → Within MET MET_END w v → MadeGrid HOSTED HOSTED_END HOSTED n r v u → MadeGrid HOSTED MET_END HOSTED n r w u
made_after f m =
    record { grid = m.grid; frame = within_trans (within_widen HOSTED MET_END (omega arith) (omega arith) f) (within_widen HOSTED MET_END (omega arith) (omega arith) m.frame) }
