-- The acquire rows that get what is read from a sequence: by reader, and the loops that make the grid. Assumes nothing.
use Rattle.std.specs.Prelude.{◌≡◌, Bool, false, List, ℕ, ◌+◌, ◌*◌, ◌≤◌, ◌<◌, eqb, length}
use Rattle.std.proofs.Math.Path.{refl, sym, ap₂, subst}
use Rattle.std.proofs.Common.{ap, ◌∙◌, ⊎_elim, arith}
use Rattle.std.proofs.Math.Bool.{true}
use Rattle.std.proofs.Math.Numerals.{add-one}
use Rattle.std.proofs.Math.Decide.{dec_lt, ℕ_discrete}
use Rattle.std.proofs.Math.Dec.{ltb}
use borrow.Author.Tests.{eqb-true, eq-eqb, ltb-true, lt-ltb, le-ltb, leb-true}
use Rattle.finite.specs.Logic.{◌and◌, ◌or◌, bool_ext, split, and_true, and_on, and_false_left, and_false_right, or_cases, or_left, or_right, or_off, and_or, not_so}
use Rattle.finite.specs.Below.{any_below, any_none, any_in, any_off, any_out}
use Rattle.model.specs.declared.Row.{Row}
use Rattle.model.specs.Limits.{ROWS, WORK}
use Rattle.model.specs.Row.{acquires, barrier, atomic, access, reads, writes, ranked, meets, single, class_in}
use Rattle.model.specs.Scope.{mutual_rows, mutually}
use Rattle.model.specs.Synchronizes.{trails, takes_from, carries_in}
use Rattle.model.specs.Table.{Table, row_of, source_of, atomic_source}
use Rattle.model_laws.specs.PairLaws.{mutually_sym}
use Rattle.model_closing.specs.Order.{later_row}
use Rattle.bits.specs.Within.{Within, within_refl, within_trans, within_widen}
use Rattle.sets_of_rows.specs.declared.Set.{Set}
use Rattle.sets_of_rows.specs.Member.{in_set}
use Rattle.sets_of_rows.specs.First.{First, first_next, Rest, next}
use Rattle.sets_of_rows.specs.Kept.{set_at, set_kept, Stored, joined}
use Rattle.sets_of_rows.specs.Family.{nth}
use Rattle.sets_of_rows.specs.Rows.{Rows, rows_at, rows_in_lem, rows_cong, rows_and, rows_or}
use Rattle.sets_of_rows.specs.Walk.{Walk, walk_begin, walk_turn, walk_end, walk_in}
use Rattle.sets_of_table.specs.Tested.{BARRIER, ACQUIRES}
use Rattle.sets_of_table.specs.Sorted.{HOLDING, holds_class}
use Rattle.sets_of_table.specs.Known.{Opened, says_rows}
use Rattle.sets_of_table.specs.Ask.{there}
use Rattle.work_area.specs.Regions.{MUTUAL}
use Rattle.sets_grids.specs.Regions.{HEADS, TAKEN, TAKEN_END}
use Rattle.sets_grids.specs.Grid.{Grid, grid_at, MadeGrid}
use Rattle.sets_grids.specs.Given.{Given}
use Rattle.sets_grids.specs.Synced.{headed_by, taken_by}

-- ---- definitions

-- b is an acquire row that gets what y reads: y itself, or a barrier after it whose semantics have its class
unfoldable pub gets : Table → ℕ → ℕ → Bool
gets t y b = acquires (t.row b) and (eqb b y or (barrier (t.row b) and trails t b y))

-- x heads a sequence that the row `source` is in, and is mutually-ordered with y
unfoldable pub head_of : Table → ℕ → ℕ → ℕ → Bool
head_of t y source x = headed_by t source x and mutually t y x

-- the getters of y joined those of its heads below m
pub record TakesTo (t : Table) (n y source m : ℕ) (w u : List ℕ) : Type 0 where
  pub is : (x b : ℕ) → x < n → in_set (nth u TAKEN x) b ≡ (in_set (nth w TAKEN x) b or (ltb x m and (head_of t y source x and (ltb b n and gets t y b))))
  pub frame : Within TAKEN TAKEN_END w u

pub record Takes (t : Table) (n y source : ℕ) (w u : List ℕ) : Type 0 where
  pub is : (x b : ℕ) → x < n → in_set (nth u TAKEN x) b ≡ (in_set (nth w TAKEN x) b or (head_of t y source x and (ltb b n and gets t y b)))
  pub frame : Within TAKEN TAKEN_END w u

-- what is asked to join the getters z of y to those of the heads of `source`
pub record Joining (t : Table) (n y source : ℕ) (z : Set) (w : List ℕ) : Type 0 where
  pub few : n ≤ ROWS
  pub reader : y < n
  pub writer : source < n
  pub room : WORK ≤ length w
  pub getters : Rows n (gets t y) z
  pub mutuals : Grid MUTUAL n (mutually t) w
  pub heads : Grid HEADS n (headed_by t) w

-- what is asked of an atomic y and the grids that it is looked up in
pub record Reading (t : Table) (n y : ℕ) (s w : List ℕ) : Type 0 where
  pub given : Given t n s w
  pub reader : y < n
  pub atomic : atomic (t.row y) ≡ true
  pub mutuals : Grid MUTUAL n (mutually t) w
  pub heads : Grid HEADS n (headed_by t) w

-- the same of y's own source, if it is a row
pub record TakesFrom (t : Table) (n y : ℕ) (w u : List ℕ) : Type 0 where
  pub row : t.source y < n → Takes t n y (t.source y) w u
  pub none : n ≤ t.source y → u ≡ w
  pub len : length u ≡ length w

-- the reader y, which reads from a row, hands on to b what it takes from the sequence that x heads
unfoldable pub hands_on : Table → ℕ → ℕ → ℕ → Bool
hands_on t x b y =
    (ltb y t.rows and (atomic (t.row y) and reads (t.row y))) and (ltb (t.source y) t.rows and (head_of t y (t.source y) x and gets t y b))

-- of the readers below m
pub record TakenTo (t : Table) (n m : ℕ) (u : List ℕ) : Type 0 where
  pub is : (x b : ℕ) → x < n → in_set (nth u TAKEN x) b ≡ (ltb b n and any_below m (hands_on t x b))

-- ---- laws: who gets

pub class_access : (r : Row) → atomic r ≡ true → access r ≡ true
unfolding atomic access
class_access r e = (split e).1

bit_rows : {n : ℕ} {x : Set} (y : ℕ) → y < n → ((j : ℕ) → in_set x j ≡ eqb j y) → Rows n (λ j. eqb j y) x
bit_rows {n} y l e =
    record { is = λ j. e j ∙ bool_ext _ _ (λ h. and_true (lt-ltb j n (subst (λ (z : ℕ). z < n) (sym (eqb-true j y h)) l)) h) (λ h. (split h).1) }

pub gets_rows : {t : Table} {n : ℕ} {s : List ℕ} → Opened t n s → (y k : ℕ) (c f g a v o q d z : Set) → y < n → atomic (t.row y) ≡ true → k ≡ (t.row y).class
    → c ≡ set_at s (HOLDING + 2 * k) → Rows n (later_row t y) f → g ≡ set_at s BARRIER → ((j : ℕ) → in_set a j ≡ (in_set f j and in_set g j))
    → ((j : ℕ) → in_set v j ≡ (in_set a j and in_set c j)) → ((j : ℕ) → in_set o j ≡ eqb j y) → ((j : ℕ) → in_set q j ≡ (in_set v j or in_set o j)) → d ≡ set_at s ACQUIRES
    → ((j : ℕ) → in_set z j ≡ (in_set q j and in_set d j)) → Rows n (gets t y) z
unfolding gets trails later_row class_in holds_class
gets_rows {t} {n} {s} p y k c f g a v o q d z l at k_is c_is after g_is a_is v_is o_is q_is d_is z_is =
    rows_cong (λ j m. same (later_row t y j) (barrier (t.row j)) (meets (t.row j).classes (single (t.row y).class)) (eqb j y) (acquires (t.row j)))
    (rows_and
    (rows_or
    (rows_and (rows_and after (rows_at g_is (says_rows p.known.tested.kinds.barrier)) a_is)
    (rows_at (c_is ∙ ap (λ (m : ℕ). set_at s (HOLDING + 2 * m)) k_is) (says_rows (p.known.sorted.holding (t.row y).class low))) v_is)
    (bit_rows y l o_is) q_is)
    (rows_at d_is (says_rows p.known.tested.orders.acquires)) z_is)
  where
    low : (t.row y).class < 4
    low = p.fit.classed y (there p y l) (class_access (t.row y) at)

    same : (r b m e u : Bool) → ((((r and b) and m) or e) and u) ≡ (u and (e or (b and (r and m))))
    same r b m e u =
        bool_ext _ _
        (λ h.
        let i = split h in
        and_true i.1 (⊎_elim (λ w. let x = split w in let y = split x.0 in or_right e (and_true y.1 (and_true y.0 x.1))) (λ w. or_left _ w) (or_cases _ _ i.0)))
        (λ h.
        let i = split h in
        and_true (⊎_elim (λ w. or_right _ w) (λ w. let x = split w in let y = split x.1 in or_left e (and_true (and_true y.0 x.0) y.1)) (or_cases _ _ i.1)) i.0)

-- ---- laws: the loop over the heads of one reader's source

module _ (t : Table) (n y source : ℕ) (few : n ≤ ROWS) (x : Set) (says : Rows n (head_of t y source) x) where
  same_to : (k m : ℕ) (c : Bool) → k < n → (k ≡ m → head_of t y source k ≡ false) → (ltb k m and (head_of t y source k and c)) ≡ (ltb k (m + 1) and (head_of t y source k and c))
  same_to k m c l e = go (ℕ_discrete k m) (dec_lt k m)
    where
      go : Dec (k ≡ m) → Dec (k < m) → (ltb k m and (head_of t y source k and c)) ≡ (ltb k (m + 1) and (head_of t y source k and c))
      go (yes q) d = and_false_right (ltb k m) _ (and_false_left _ c (e q)) ∙ sym (and_false_right (ltb k (m + 1)) _ (and_false_left _ c (e q)))
      go (no q) (yes d) = ap (λ (b : Bool). b and (head_of t y source k and c)) (lt-ltb k m d ∙ sym (lt-ltb k (m + 1) (omega arith)))
      go (no q) (no d) = ap (λ (b : Bool). b and (head_of t y source k and c)) (le-ltb k m (omega arith) ∙ sym (le-ltb k (m + 1) (omega arith)))

  gone : (m : ℕ) → in_set x m ≡ false → m < n → head_of t y source m ≡ false
  gone m e l = sym (rows_in_lem says m l) ∙ e

  pass : {m : ℕ} {w u : List ℕ} → in_set x m ≡ false → TakesTo t n y source m w u → TakesTo t n y source (m + 1) w u
  pass {m} {w} {u} e d =
      record {
        is = λ k b l.
            d.is k b l
            ∙ ap (λ (c : Bool). in_set (nth w TAKEN k) b or c)
            (same_to k m (ltb b n and gets t y b) l (λ q. ap (head_of t y source) q ∙ gone m e (subst (λ (v : ℕ). v < n) q l)));
        frame = d.frame;
      }

  pub take_begin : (w : List ℕ) → Walk x x × TakesTo t n y source (next x) w w
  take_begin w =
      walk_begin x (λ m. TakesTo t n y source m w w) (λ m e d. pass e d)
      (record {
        is = λ k b l. sym (or_off (in_set (nth w TAKEN k) b) _ (and_false_left (ltb k 0) _ (le-ltb k 0 (omega arith))));
        frame = within_refl TAKEN TAKEN_END w;
      })

  pub take_turn : {left rest : Set} {i : ℕ} {w u v : List ℕ} (z : Set) → Walk x left × TakesTo t n y source (next left) w u → First left i → Rest left rest → Rows n (gets t y) z
      → Stored (TAKEN + 2 * i) (joined u (TAKEN + 2 * i) z) u v → Walk x rest × TakesTo t n y source (next rest) w v
  unfolding joined
  take_turn {left} {rest} {i} {w} {u} {v} z inv f r g p =
      walk_turn x (λ m. TakesTo t n y source m w v) (λ m e d. pass e d) inv.0 f r
      (record { is = λ k b l. go k b l (ℕ_discrete k i); frame = within_trans inv.1.frame (within_widen TAKEN TAKEN_END (omega arith) (omega (arith, f.bound)) p.frame) })
    where
      before : TakesTo t n y source i w u
      before = subst (λ (m : ℕ). TakesTo t n y source m w u) (first_next f) inv.1

      member : (i < n) × (head_of t y source i ≡ true)
      member = let a = split (sym (says.is i) ∙ walk_in inv.0 f) in (ltb-true i n a.0, a.1)

      go : (k b : ℕ) → k < n → Dec (k ≡ i)
          → in_set (nth v TAKEN k) b ≡ (in_set (nth w TAKEN k) b or (ltb k (i + 1) and (head_of t y source k and (ltb b n and gets t y b))))
      go k b l (yes q) =
          subst (λ (c : ℕ). in_set (nth v TAKEN c) b ≡ (in_set (nth w TAKEN c) b or (ltb c (i + 1) and (head_of t y source c and (ltb b n and gets t y b))))) (sym q)
          (p.is b
          ∙ ap₂ ◌or◌ (before.is i b member.0 ∙ or_off (in_set (nth w TAKEN i) b) _ (and_false_left (ltb i i) _ (le-ltb i i (omega arith))))
          (g.is b ∙ sym (and_on (ltb i (i + 1)) _ (lt-ltb i (i + 1) (omega arith)) ∙ and_on (head_of t y source i) _ member.1)))
      go k b l (no q) =
          ap (λ (c : Set). in_set c b) (set_kept (TAKEN + 2 * k) (λ c. omega (arith, q)) p.frame) ∙ before.is k b l
          ∙ ap (λ (c : Bool). in_set (nth w TAKEN k) b or c) (same_to k i (ltb b n and gets t y b) l (λ c. absurd (q c)))

  pub take_end : (left : Set) {w u : List ℕ} → any_below ROWS (in_set left) ≡ false → TakesTo t n y source (next left) w u → Takes t n y source w u
  take_end left {w} {u} q d =
      let all = walk_end x (λ m. TakesTo t n y source m w u) (λ m e d. pass e d) left q d in
      record {
        is = λ k b l. all.is k b l ∙ ap (λ (c : Bool). in_set (nth w TAKEN k) b or c) (and_on (ltb k ROWS) _ (lt-ltb k ROWS (omega arith)));
        frame = all.frame;
      }

-- a reader that nobody gets from
pub take_none : {t : Table} {n y source : ℕ} (w : List ℕ) {z : Set} → n ≤ ROWS → Rows n (gets t y) z → any_below ROWS (in_set z) ≡ false → Takes t n y source w w
take_none {t} {n} {y} {source} w {z} few g e =
    record {
      is = λ k b l. sym (or_off (in_set (nth w TAKEN k) b) _ (and_false_right (head_of t y source k) _ (sym (g.is b) ∙ none b (dec_lt b ROWS))));
      frame = within_refl TAKEN TAKEN_END w;
    }
  where
    none : (b : ℕ) → Dec (b < ROWS) → in_set z b ≡ false
    none b (yes l) = any_off (in_set z) ROWS e b l
    none b (no l) = not_so (in_set z b) (λ h. let a = ltb-true b n (split (sym (g.is b) ∙ h)).0 in absurd (omega arith))

-- ---- laws: the loop over readers

module _ (t : Table) (n : ℕ) (rows_are : t.rows ≡ n) (few : n ≤ ROWS) (x : Set) (says : Rows n (λ y. atomic (t.row y) and reads (t.row y)) x) where
  step : (m : ℕ) (p : ℕ → Bool) → any_below (m + 1) p ≡ (any_below m p or p m)
  unfolding any_below
  step m p = rw add-one refl

  -- a reader that gives nothing
  none : {m : ℕ} {u : List ℕ} → ((k b : ℕ) → k < n → b < n → hands_on t k b m ≡ false) → TakenTo t n m u → TakenTo t n (m + 1) u
  none {m} {u} e d = record { is = λ k b l. d.is k b l ∙ go k b l (dec_lt b n) }
    where
      go : (k b : ℕ) → k < n → Dec (b < n) → (ltb b n and any_below m (hands_on t k b)) ≡ (ltb b n and any_below (m + 1) (hands_on t k b))
      go k b l (yes o) = ap (λ (c : Bool). ltb b n and c) (sym (step m (hands_on t k b) ∙ or_off (any_below m (hands_on t k b)) _ (e k b l o)))
      go k b l (no o) = and_false_left (ltb b n) _ (le-ltb b n (omega arith)) ∙ sym (and_false_left (ltb b n) _ (le-ltb b n (omega arith)))

  skip : {m : ℕ} {u : List ℕ} → in_set x m ≡ false → TakenTo t n m u → TakenTo t n (m + 1) u
  unfolding hands_on
  skip {m} {u} e d =
      none (λ k b l o. and_false_left _ _ (ap (λ (v : ℕ). ltb m v and (atomic (t.row m) and reads (t.row m))) rows_are ∙ sym (says.is m) ∙ e)) d

  pub taken_begin : {u : List ℕ} → ((k j : ℕ) → k < n → in_set (nth u TAKEN k) j ≡ false) → Walk x x × TakenTo t n (next x) u
  taken_begin {u} e =
      walk_begin x (λ m. TakenTo t n m u) (λ m z d. skip z d)
      (record { is = λ k b l. e k b l ∙ sym (and_false_right (ltb b n) _ (any_none (hands_on t k b))) })

  at : {left : Set} {y : ℕ} {u : List ℕ} → TakenTo t n (next left) u → First left y → TakenTo t n y u
  at {u = u} d f = subst (λ (m : ℕ). TakenTo t n m u) (first_next f) d

  -- a reader whose source is no row
  pub taken_pass : {left rest : Set} {y : ℕ} {u : List ℕ} → Walk x left × TakenTo t n (next left) u → First left y → Rest left rest → n ≤ t.source y
      → Walk x rest × TakenTo t n (next rest) u
  unfolding hands_on
  taken_pass {y = y} {u = u} inv f r l =
      walk_turn x (λ m. TakenTo t n m u) (λ m z d. skip z d) inv.0 f r
      (none (λ k b i j. and_false_right _ _ (and_false_left _ _ (le-ltb (t.source y) t.rows (omega (arith, rows_are))))) (at inv.1 f))

  pub taken_turn : {left rest : Set} {y : ℕ} {u v : List ℕ} → Walk x left × TakenTo t n (next left) u → First left y → Rest left rest → t.source y < n
      → Takes t n y (t.source y) u v → Walk x rest × TakenTo t n (next rest) v
  unfolding hands_on
  taken_turn {left} {rest} {y} {u} {v} inv f r l g =
      walk_turn x (λ m. TakenTo t n m v) (λ m z d. skip z d) inv.0 f r (record { is = λ k b o. g.is k b o ∙ ap₂ ◌or◌ (before.is k b o) (one k b) ∙ here k b })
    where
      before : TakenTo t n y u
      before = at inv.1 f

      first : (ltb y t.rows and (atomic (t.row y) and reads (t.row y))) ≡ true
      first = ap (λ (c : ℕ). ltb y c and (atomic (t.row y) and reads (t.row y))) rows_are ∙ sym (says.is y) ∙ walk_in inv.0 f

      move : (a b c : Bool) → (a and (b and c)) ≡ (b and (a and c))
      move a b c = bool_ext _ _ (λ e. let p = split e in let q = split p.1 in and_true q.0 (and_true p.0 q.1)) (λ e. let p = split e in let q = split p.1 in and_true q.0 (and_true p.0 q.1))

      one : (k b : ℕ) → (head_of t y (t.source y) k and (ltb b n and gets t y b)) ≡ (ltb b n and hands_on t k b y)
      one k b =
          move (head_of t y (t.source y) k) (ltb b n) (gets t y b)
          ∙ ap (λ (c : Bool). ltb b n and c)
          (sym (and_on _ _ first ∙ and_on (ltb (t.source y) t.rows) _ (lt-ltb (t.source y) t.rows (omega (arith, rows_are, l)))))

      here : (k b : ℕ) → ((ltb b n and any_below y (hands_on t k b)) or (ltb b n and hands_on t k b y)) ≡ (ltb b n and any_below (y + 1) (hands_on t k b))
      here k b = and_or (ltb b n) (any_below y (hands_on t k b)) (hands_on t k b y) ∙ ap (λ (c : Bool). ltb b n and c) (sym (step y (hands_on t k b)))

  pub taken_step : {left rest : Set} {y : ℕ} {u v : List ℕ} → Walk x left × TakenTo t n (next left) u → First left y → Rest left rest → TakesFrom t n y u v
      → Walk x rest × TakenTo t n (next rest) v
  taken_step {left} {rest} {y} {u} {v} inv f r g = go (dec_lt (t.source y) n)
    where
      go : Dec (t.source y < n) → Walk x rest × TakenTo t n (next rest) v
      go (yes l) = taken_turn inv f r l (g.row l)
      go (no l) = subst (λ (z : List ℕ). Walk x rest × TakenTo t n (next rest) z) (sym (g.none (omega arith))) (taken_pass inv f r (omega arith))

  pub step_frame : {y : ℕ} {u v : List ℕ} → TakesFrom t n y u v → Within TAKEN TAKEN_END u v
  step_frame {y} {u} {v} g = go (dec_lt (t.source y) n)
    where
      go : Dec (t.source y < n) → Within TAKEN TAKEN_END u v
      go (yes l) = (g.row l).frame
      go (no l) = subst (λ (z : List ℕ). Within TAKEN TAKEN_END u z) (sym (g.none (omega arith))) (within_refl TAKEN TAKEN_END u)

-- ---- laws: what is taken

kinds : (t : Table) (x y : ℕ) → mutually t x y ≡ true → (atomic (t.row x) ≡ true) × (atomic (t.row y) ≡ true)
unfolding mutually mutual_rows
kinds t x y e = split (split (split (split e).1).0).0

ranked_writes : (r : Row) → ranked r ≡ true → writes r ≡ true
unfolding ranked writes
ranked_writes r e = ⊎_elim (λ f. or_left _ (or_right _ f)) (λ f. or_right _ f) (or_cases _ _ e)

writes_ranked : (r : Row) → atomic r ≡ true → writes r ≡ true → ranked r ≡ true
unfolding atomic writes ranked
writes_ranked r a w =
    let l = leb-true 2 r.kind (split a).0 in
    ⊎_elim
    (λ e. ⊎_elim (λ f. let k = eqb-true r.kind 1 f in absurd (omega arith)) (λ f. or_left _ f) (or_cases _ _ e))
    (λ e. or_right _ e) (or_cases _ _ w)

module _ (t : Table) (x b : ℕ) where
  -- what y takes from x's sequence, and back
  taking : (y : ℕ) → hands_on t x b y ≡ true → (y < t.rows) × (takes_from t x y ≡ true) × (gets t y b ≡ true)
  unfolding hands_on head_of headed_by takes_from
  taking y e =
      let p = split e in
      let q = split p.0 in
      let r = split p.1 in
      let h = split r.1 in
      let o = split h.0 in
      let k = split o.0 in (
        ltb-true y t.rows q.0,
        and_true (and_true (and_true (and_true (mutually_sym t y x o.1) (ranked_writes (t.row x) k.0)) (split q.1).1) r.0) k.1,
        h.1,
      )

  handing : (y : ℕ) → y < t.rows → takes_from t x y ≡ true → gets t y b ≡ true → hands_on t x b y ≡ true
  unfolding hands_on head_of headed_by takes_from
  handing y l e g =
      let p = split e in
      let q = split p.0 in
      let r = split q.0 in
      let m = split r.0 in
      let k = kinds t x y m.0 in
      and_true (and_true (lt-ltb y t.rows l) (and_true k.1 r.1))
      (and_true q.1 (and_true (and_true (and_true (writes_ranked (t.row x) k.0 m.1) p.1) (mutually_sym t x y m.0)) g))

  pub handed_is : b < t.rows → t.rows ≤ ROWS → any_below ROWS (hands_on t x b) ≡ taken_by t x b
  unfolding taken_by gets carries_in
  handed_is l few = bool_ext _ _ out back
    where
      out : any_below ROWS (hands_on t x b) ≡ true → (acquires (t.row b) and (takes_from t x b or (barrier (t.row b) and any_below t.rows (carries_in t x b)))) ≡ true
      out e =
          let y = any_out (hands_on t x b) ROWS e in
          let p = taking y.0 y.2 in
          let g = split p.2 in
          and_true g.0
          (⊎_elim (λ q. or_left _ (subst (λ (z : ℕ). takes_from t x z ≡ true) (sym (eqb-true b y.0 q)) p.1))
          (λ q. let v = split q in or_right _ (and_true v.0 (any_in (carries_in t x b) t.rows y.0 p.0 (and_true v.1 p.1)))) (or_cases _ _ g.1))

      back : (acquires (t.row b) and (takes_from t x b or (barrier (t.row b) and any_below t.rows (carries_in t x b)))) ≡ true → any_below ROWS (hands_on t x b) ≡ true
      back e =
          let p = split e in
          ⊎_elim (λ q. any_in (hands_on t x b) ROWS b (omega arith) (handing b l q (and_true p.0 (or_left _ (eq-eqb b b refl)))))
          (λ q.
          let v = split q in
          let y = any_out (carries_in t x b) t.rows v.1 in
          let o = y.1 in
          let h = split y.2 in
          any_in (hands_on t x b) ROWS y.0 (omega arith) (handing y.0 y.1 h.1 (and_true p.0 (or_right _ (and_true v.0 h.0))))) (or_cases _ _ p.1)

pub taken_end : (t : Table) (n : ℕ) (rows_are : t.rows ≡ n) (few : n ≤ ROWS) (x : Set) (says : Rows n (λ y. atomic (t.row y) and reads (t.row y)) x) (left : Set) {w u : List ℕ}
    → any_below ROWS (in_set left) ≡ false → TakenTo t n (next left) u → Within TAKEN TAKEN_END w u → MadeGrid TAKEN TAKEN_END TAKEN n (taken_by t) w u
taken_end t n rows_are few x says left {w} {u} q d f =
    let all = walk_end x (λ m. TakenTo t n m u) (λ m z d. skip t n rows_are few x says z d) left q d in
    record { grid = record { row = λ k l. record { is = λ b. all.is k b l ∙ go k b (dec_lt b n) } }; frame = f }
  where
    go : (k b : ℕ) → Dec (b < n) → (ltb b n and any_below ROWS (hands_on t k b)) ≡ (ltb b n and taken_by t k b)
    go k b (yes o) = ap (λ (c : Bool). ltb b n and c) (handed_is t k b (omega (arith, rows_are)) (omega (arith, rows_are, few)))
    go k b (no o) = and_false_left (ltb b n) _ (le-ltb b n (omega arith)) ∙ sym (and_false_left (ltb b n) _ (le-ltb b n (omega arith)))

-- the heads of the source that are mutually-ordered with y
pub heads_of : (t : Table) {n : ℕ} {w : List ℕ} → Grid HEADS n (headed_by t) w → Grid MUTUAL n (mutually t) w → (y source : ℕ) (a b x : Set) → y < n → source < n
    → a ≡ set_at w (HEADS + 2 * source) → b ≡ set_at w (MUTUAL + 2 * y) → ((j : ℕ) → in_set x j ≡ (in_set a j and in_set b j)) → Rows n (head_of t y source) x
unfolding head_of
heads_of t g m y source a b x l o e f h = rows_and (grid_at g o e) (grid_at m l f) h

-- the source of an atomic row, by what stands in it
pub source_is : (b : List ℕ) (y : ℕ) {r : ℕ} → atomic (row_of b y) ≡ true → r ≡ source_of b y → atomic_source b y ≡ r
unfolding atomic_source
source_is b y a e = rw a (sym e)

pub from_row_lem : {t : Table} {n y r : ℕ} {w u : List ℕ} → t.source y ≡ r → r < n → Takes t n y r w u → TakesFrom t n y w u
from_row_lem {t} {n} {y} {r} {w} {u} e l g =
    record {
      row = λ m. subst (λ (z : ℕ). Takes t n y z w u) (sym e) g;
      none = λ m. absurd (omega arith);
      len = g.frame.len;
    }

pub from_none : {t : Table} {n y r : ℕ} (w : List ℕ) → t.source y ≡ r → n ≤ r → TakesFrom t n y w w
from_none w e l = record { row = λ m. absurd (omega arith); none = λ m. refl; len = refl }
