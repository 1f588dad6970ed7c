-- The edges between rows as sets of rows. Assumes nothing.
use Rattle.std.specs.Prelude.{◌≡◌, refl, Bool, true, false, cond, List, ◌⊎◌, ℕ, ◌+◌, ◌*◌, ◌≤◌, ◌<◌, length, ltb}
use Rattle.std.proofs.Math.Path.{sym, ap, ap₂}
use Rattle.std.proofs.Common.{◌∙◌, inl, inr, arith, add-one, eqb-true, eq-eqb, ne_eqb, ltb-true, lt-ltb, le-ltb}
use Rattle.std.proofs.Math.Bool.{not}
use Rattle.std.proofs.Math.Decide.{dec_lt, ℕ_discrete}
use Rattle.std.proofs.Math.Dec.{eqb}
use Rattle.finite.specs.Logic.{◌and◌, ◌or◌, bool_ext, split, and_true, and_on, and_false_left, or_off, which}
use Rattle.finite.specs.Below.{any_below}
use Rattle.model.specs.Limits.{ROWS, WORK}
use Rattle.model.specs.Row.{reads, writes, overlap}
use Rattle.model.specs.Table.{Table}
use Rattle.model.specs.Scope.{follows}
use Rattle.model.specs.Edge.{before_some, edge}
use Rattle.model_laws.specs.PairLaws.{eqb_swap}
use Rattle.model_placing.specs.Leads.{cond_on, cond_off}
use Rattle.model_placing.specs.Judge.{Sourced, from_source, edges_below, edges_none, edges_skip, edges_step, edges_done}
use Rattle.bits.specs.Within.{Within, within_refl, within_trans, within_widen}
use Rattle.work_area.specs.Regions.{EDGE, EDGE_END, OVERLAP}
use Rattle.work_area.specs.State.{overlaps}
use Rattle.sets_of_rows.specs.declared.Set.{Set}
use Rattle.sets_of_rows.specs.Member.{in_set}
use Rattle.sets_of_rows.specs.First.{First, first_next, Rest, next}
use Rattle.sets_of_rows.specs.Kept.{set_at, set_kept, Stored, joined, added}
use Rattle.sets_of_rows.specs.Family.{nth}
use Rattle.sets_of_rows.specs.Rows.{Rows, rows_in_lem, rows_cong, rows_or}
use Rattle.sets_of_rows.specs.Walk.{Walk, walk_begin, walk_turn, walk_end, walk_in}
use Rattle.sets_of_table.specs.Tested.{WRITES}
use Rattle.sets_of_table.specs.Known.{WORDS, Opened, says_rows}
use Rattle.sets_of_table.specs.Ask.{few}
use Rattle.find_axioms.specs.Sources.{source_in}
use Rattle.sets_grids.specs.Regions.{LATER, SOME}
use Rattle.sets_grids.specs.Grid.{Grid, MadeGrid, grid_kept, grid_cong}
use Rattle.sets_grids.specs.Filling.{member_in}
use Rattle.sets_grids.specs.Location.{Judging}

-- ---- definitions

-- each of n rows has a source, and a read's is a row or the initial value
pub record Sources (t : Table) (n : ℕ) (src : List ℕ) : Type 0 where
  pub each : n ≤ length src
  pub sourced : Sourced t (source_in src)

-- room for n rows in the sets and in the work area
pub record Room (n : ℕ) (s w : List ℕ) : Type 0 where
  pub few : n ≤ ROWS
  pub sets : WORDS ≤ length s
  pub work : WORK ≤ length w

-- the first m rows of EDGE have what SOME and LATER have; no word outside EDGE changed
pub record Ordered (m : ℕ) (w u : List ℕ) : Type 0 where
  pub is : (i j : ℕ) → i < m → in_set (nth u EDGE i) j ≡ (in_set (nth w SOME i) j or in_set (nth w LATER i) j)
  pub frame : Within EDGE EDGE_END w u

-- edge 4 from the reader y, in sets: what follows its source, or each writer that shares bytes; less y itself
unfoldable pub read_to : ℕ → List ℕ → List ℕ → ℕ → ℕ → ℕ → Bool
read_to n s w source y z =
    cond (ltb source n) (in_set (nth w LATER source) z) (in_set (nth w OVERLAP y) z and in_set (set_at s WRITES) z) and not (eqb z y)

-- the edges of the reader y were added; no word outside EDGE changed
pub record Reads (n : ℕ) (s : List ℕ) (source y : ℕ) (w u : List ℕ) : Type 0 where
  pub is : (x z : ℕ) → x < n
      → in_set (nth u EDGE x) z ≡ (in_set (nth w EDGE x) z or (eqb x y and read_to n s w source y z) or (eqb z y and eqb source x))
  pub frame : Within EDGE EDGE_END w u

-- the invariant: what is left of the readers x, the edges with the readers below done, and what did not change
pub record Edging (t : Table) (source : ℕ → ℕ) (n : ℕ) (x left : Set) (w u : List ℕ) : Type 0 where
  pub walk : Walk x left
  pub grid : Grid EDGE n (edges_below t source (next left)) u
  pub frame : Within EDGE EDGE_END w u

-- ---- laws: edges 1 and 2

pub orders_begin : (w : List ℕ) → Ordered 0 w w
orders_begin w = record { is = λ i j l. absurd (omega arith); frame = within_refl EDGE EDGE_END w }

pub orders_turn : {w u v : List ℕ} {x : ℕ} (a b z : Set) → x < ROWS → Ordered x w u → a ≡ set_at u (SOME + 2 * x) → b ≡ set_at u (LATER + 2 * x)
    → ((j : ℕ) → in_set z j ≡ (in_set a j or in_set b j)) → Stored (EDGE + 2 * x) (in_set z) u v → Ordered (x + 1) w v
orders_turn {w} {u} {v} {x} a b z l o a_is b_is z_is p =
    record {
      is = λ i j m. here i j m (ℕ_discrete i x);
      frame = within_trans o.frame (within_widen EDGE EDGE_END (omega arith) (omega (arith, l)) p.frame);
    }
  where
    some_is : a ≡ set_at w (SOME + 2 * x)
    some_is = a_is ∙ set_kept (SOME + 2 * x) (λ h. absurd (omega (arith, l))) o.frame

    later_is : b ≡ set_at w (LATER + 2 * x)
    later_is = b_is ∙ set_kept (LATER + 2 * x) (λ h. absurd (omega (arith, l))) o.frame

    here : (i j : ℕ) → i < x + 1 → Dec (i ≡ x) → in_set (nth v EDGE i) j ≡ (in_set (nth w SOME i) j or in_set (nth w LATER i) j)
    here i j m (yes q) =
        ap (λ (k : ℕ). in_set (nth v EDGE k) j) q ∙ p.is j ∙ z_is j
        ∙ ap₂ (λ (c d : Set). in_set c j or in_set d j) some_is later_is
        ∙ ap (λ (k : ℕ). in_set (nth w SOME k) j or in_set (nth w LATER k) j) (sym q)
    here i j m (no q) =
        ap (λ (c : Set). in_set c j) (set_kept (EDGE + 2 * i) (λ h. omega (arith, q)) p.frame) ∙ o.is i j (omega (arith, q))

pub orders_end : {w u : List ℕ} {n x : ℕ} → n ≤ x → Ordered x w u → Ordered n w u
orders_end l o = record { is = λ i j m. o.is i j (omega arith); frame = o.frame }

-- ---- laws: edges 3 and 4 of a reader

joined_row : {w u : List ℕ} (k : ℕ) (s : Set) → Stored (EDGE + 2 * k) (joined w (EDGE + 2 * k) s) w u
    → (x z : ℕ) → in_set (nth u EDGE x) z ≡ (in_set (nth w EDGE x) z or (eqb x k and in_set s z))
unfolding joined
joined_row {w} {u} k s p x z = go (ℕ_discrete x k)
  where
    go : Dec (x ≡ k) → in_set (nth u EDGE x) z ≡ (in_set (nth w EDGE x) z or (eqb x k and in_set s z))
    go (yes q) =
        ap (λ (i : ℕ). in_set (nth u EDGE i) z) q ∙ p.is z
        ∙ ap₂ ◌or◌ (ap (λ (i : ℕ). in_set (nth w EDGE i) z) (sym q)) (sym (and_on (eqb x k) (in_set s z) (eq-eqb x k q)))
    go (no q) =
        ap (λ (c : Set). in_set c z) (set_kept (EDGE + 2 * x) (λ h. omega (arith, q)) p.frame)
        ∙ sym (or_off (in_set (nth w EDGE x) z) (eqb x k and in_set s z) (and_false_left (eqb x k) (in_set s z) (ne_eqb x k q)))

added_row : {w u : List ℕ} (k i : ℕ) → Stored (EDGE + 2 * k) (added w (EDGE + 2 * k) i) w u
    → (x z : ℕ) → in_set (nth u EDGE x) z ≡ (in_set (nth w EDGE x) z or (eqb x k and eqb z i))
unfolding added
added_row {w} {u} k i p x z = go (ℕ_discrete x k)
  where
    go : Dec (x ≡ k) → in_set (nth u EDGE x) z ≡ (in_set (nth w EDGE x) z or (eqb x k and eqb z i))
    go (yes q) =
        ap (λ (i : ℕ). in_set (nth u EDGE i) z) q ∙ p.is z
        ∙ ap₂ ◌or◌ (ap (λ (i : ℕ). in_set (nth w EDGE i) z) (sym q)) (sym (and_on (eqb x k) (eqb z i) (eq-eqb x k q)))
    go (no q) =
        ap (λ (c : Set). in_set c z) (set_kept (EDGE + 2 * x) (λ h. omega (arith, q)) p.frame)
        ∙ sym (or_off (in_set (nth w EDGE x) z) (eqb x k and eqb z i) (and_false_left (eqb x k) (eqb z i) (ne_eqb x k q)))

and_swap : (a b : Bool) → (a and b) ≡ (b and a)
and_swap a b = bool_ext _ _ (λ e. and_true (split e).1 (split e).0) (λ e. and_true (split e).1 (split e).0)

module _ {n : ℕ} {s w u : List ℕ} {source y : ℕ} where
  -- the source is a row: what follows it, and the bit of y in its row
  pub reads_row : {v : List ℕ} (a z : Set) → y < ROWS → source < ROWS → source < n → a ≡ set_at w (LATER + 2 * source)
      → ((j : ℕ) → in_set z j ≡ (in_set a j and not (eqb j y)))
      → Stored (EDGE + 2 * y) (joined w (EDGE + 2 * y) z) w u → Stored (EDGE + 2 * source) (added u (EDGE + 2 * source) y) u v
      → Reads n s source y w v
  unfolding read_to
  reads_row {v} a z l m below a_is z_is p q =
      record {
        is = λ i j o.
            added_row source y q i j
            ∙ ap₂ ◌or◌ (joined_row y z p i j ∙ ap (λ (b : Bool). in_set (nth w EDGE i) j or (eqb i y and b)) (to_is j))
            (and_swap (eqb i source) (eqb j y) ∙ ap (λ (b : Bool). eqb j y and b) (eqb_swap i source));
        frame =
            within_trans (within_widen EDGE EDGE_END (omega arith) (omega (arith, l)) p.frame)
            (within_widen EDGE EDGE_END (omega arith) (omega (arith, m)) q.frame);
      }
    where
      to_is : (j : ℕ) → in_set z j
          ≡ (cond (ltb source n) (in_set (nth w LATER source) j) (in_set (nth w OVERLAP y) j and in_set (set_at s WRITES) j) and not (eqb j y))
      to_is j =
          z_is j ∙ ap (λ (b : Bool). b and not (eqb j y))
          (ap (λ (c : Set). in_set c j) a_is ∙ sym (cond_on (ltb source n) _ _ (lt-ltb source n below)))

  -- the source is the initial value: each writer that shares bytes
  pub reads_none : (a b c z : Set) → y < ROWS → n ≤ source → a ≡ set_at w (OVERLAP + 2 * y) → b ≡ set_at s WRITES
      → ((j : ℕ) → in_set c j ≡ (in_set a j and in_set b j)) → ((j : ℕ) → in_set z j ≡ (in_set c j and not (eqb j y)))
      → Stored (EDGE + 2 * y) (joined w (EDGE + 2 * y) z) w u → Reads n s source y w u
  unfolding read_to
  reads_none a b c z l past a_is b_is c_is z_is p =
      record {
        is = λ i j o.
            joined_row y z p i j ∙ ap (λ (b : Bool). in_set (nth w EDGE i) j or (eqb i y and b)) (to_is j)
            ∙ sym (or_off _ (eqb j y and eqb source i)
            (and_swap (eqb j y) (eqb source i) ∙ and_false_left (eqb source i) (eqb j y) (ne_eqb source i (λ q. absurd (omega arith)))));
        frame = within_widen EDGE EDGE_END (omega arith) (omega (arith, l)) p.frame;
      }
    where
      to_is : (j : ℕ) → in_set z j
          ≡ (cond (ltb source n) (in_set (nth w LATER source) j) (in_set (nth w OVERLAP y) j and in_set (set_at s WRITES) j) and not (eqb j y))
      to_is j =
          z_is j ∙ ap (λ (b : Bool). b and not (eqb j y))
          (c_is j ∙ ap₂ (λ (c d : Set). in_set c j and in_set d j) a_is b_is ∙ sym (cond_off (ltb source n) _ _ (le-ltb source n past)))

-- ---- laws: the loop over the readers

-- past the rows, nothing more is done
past : (t : Table) (source : ℕ → ℕ) (k l i j : ℕ) → i < k → i < l → j < k → j < l → edges_below t source k i j ≡ edges_below t source l i j
unfolding edges_below
past t source k l i j a b c d =
    ap₂ (λ (e f : Bool). before_some t i j or follows t i j or (e and (reads (t.row i) and from_source t source i j)) or (f and (reads (t.row j) and eqb (source j) i)))
    (lt-ltb i k a ∙ sym (lt-ltb i l b)) (lt-ltb j k c ∙ sym (lt-ltb j l d))

turn_row : (l a b : Bool) → ((l and a) and b) ≡ (l and (b and a))
turn_row l a b =
    bool_ext _ _ (λ e. let k = split e in let m = split k.0 in and_true m.0 (and_true k.1 m.1))
    (λ e. let k = split e in let m = split k.1 in and_true (and_true k.0 m.1) m.0)

both_rows : (l a b : Bool) → ((l and a) and (l and b)) ≡ (l and (a and b))
both_rows l a b =
    bool_ext _ _ (λ e. let k = split e in and_true (split k.0).0 (and_true (split k.0).1 (split k.1).1))
    (λ e. let k = split e in let m = split k.1 in and_true (and_true k.0 m.0) (and_true k.0 m.1))

under_row : (l a b : Bool) → (a and (l and b)) ≡ (l and (a and b))
under_row l a b =
    bool_ext _ _ (λ e. let k = split e in let m = split k.1 in and_true m.0 (and_true k.0 m.1))
    (λ e. let k = split e in let m = split k.1 in and_true m.0 (and_true k.0 m.1))

under_or : (l a b c : Bool) → ((l and a) or (l and b) or (l and c)) ≡ (l and (a or b or c))
unfolding ◌and◌ ◌or◌
under_or true a b c = refl
under_or false a b c = refl

module _ (t : Table) (source : ℕ → ℕ) {n : ℕ} {s w v₀ : List ℕ} (opened : Opened t n s) (judging : Judging t n w) (o : Ordered n w v₀) (x : Set)
    (on : Rows n (λ j. reads (t.row j)) x) where
  skip : (u : List ℕ) (k : ℕ) → in_set x k ≡ false → Grid EDGE n (edges_below t source k) u → Grid EDGE n (edges_below t source (k + 1)) u
  skip u k e g = grid_cong (λ i j l m. go i j l m (dec_lt k n)) g
    where
      go : (i j : ℕ) → i < n → j < n → Dec (k < n) → edges_below t source k i j ≡ edges_below t source (k + 1) i j
      go i j l m (yes b) = rw add-one (sym (edges_skip t source k i j (sym (rows_in_lem on k b) ∙ e)))
      go i j l m (no b) = past t source k (k + 1) i j (omega arith) (omega arith) (omega arith) (omega arith)

  pub edging_begin : Edging t source n x x v₀ v₀
  edging_begin = record { walk = both.0; grid = both.1; frame = within_refl EDGE EDGE_END v₀ }
    where
      start : Grid EDGE n (edges_below t source 0) v₀
      start =
          record {
            row = λ i l.
                rows_cong (λ j m. sym (edges_none t source i j)) (rows_or (judging.some.row i l) (judging.laters.row i l) (λ j. o.is i j l));
          }

      both : Walk x x × Grid EDGE n (edges_below t source (next x)) v₀
      both = walk_begin x (λ m. Grid EDGE n (edges_below t source m) v₀) (skip v₀) start

  -- what a reader's sets hold
  read_to_lem : {u : List ℕ} → Within EDGE EDGE_END w u → (y : ℕ) → y < n → (z : ℕ) → read_to n s u (source y) y z ≡ (ltb z n and from_source t source y z)
  unfolding read_to from_source overlaps
  read_to_lem {u} f y l z = go (which (ltb (source y) n))
    where
      few_are : n ≤ ROWS
      few_are = few opened

      laters : Grid LATER n (follows t) u
      laters = grid_kept (λ h. absurd (omega (arith, few_are))) f judging.laters

      overlapping : Grid OVERLAP n (overlaps t) u
      overlapping = grid_kept (λ h. omega arith) f judging.overlapping

      apart : not (eqb z y) ≡ not (eqb y z)
      apart = ap not (eqb_swap z y)

      below : ltb (source y) n ≡ ltb (source y) t.rows
      below = ap (λ (k : ℕ). ltb (source y) k) (sym opened.rows)

      go : (ltb (source y) n ≡ true) ⊎ (ltb (source y) n ≡ false)
          → (cond (ltb (source y) n) (in_set (nth u LATER (source y)) z) (in_set (nth u OVERLAP y) z and in_set (set_at s WRITES) z) and not (eqb z y))
          ≡ (ltb z n and (not (eqb y z) and cond (ltb (source y) t.rows) (follows t (source y) z) (overlap (t.row y) (t.row z) and writes (t.row z))))
      go (inl e) =
          ap₂ ◌and◌ (cond_on _ _ _ e ∙ (laters.row (source y) (ltb-true (source y) n e)).is z) apart
          ∙ turn_row (ltb z n) (follows t (source y) z) (not (eqb y z))
          ∙ ap (λ (b : Bool). ltb z n and (not (eqb y z) and b)) (sym (cond_on _ _ _ (sym below ∙ e)))
      go (inr e) =
          ap₂ ◌and◌
          (cond_off _ _ _ e ∙ ap₂ ◌and◌ ((overlapping.row y l).is z) ((says_rows opened.known.tested.accesses.writes).is z)
          ∙ both_rows (ltb z n) (overlap (t.row y) (t.row z)) (writes (t.row z))) apart
          ∙ turn_row (ltb z n) (overlap (t.row y) (t.row z) and writes (t.row z)) (not (eqb y z))
          ∙ ap (λ (b : Bool). ltb z n and (not (eqb y z) and b)) (sym (cond_off _ _ _ (sym below ∙ e)))

  pub edging_turn : {u v : List ℕ} {left rest : Set} {y : ℕ} → Edging t source n x left v₀ u → First left y → Rest left rest
      → Reads n s (source y) y u v → Edging t source n x rest v₀ v
  edging_turn {u} {v} {left} {rest} {y} inv low h r =
      record { walk = both.0; grid = both.1; frame = within_trans inv.frame r.frame }
    where
      member : (y < n) × (reads (t.row y) ≡ true)
      member = member_in y on (walk_in inv.walk low)

      third : (i j : ℕ) → (eqb j y and eqb (source y) i) ≡ (ltb j n and (eqb j y and eqb (source y) i))
      third i j =
          bool_ext _ _ (λ e. let q = eqb-true j y (split e).0 in let l = member.0 in and_true (lt-ltb j n (omega arith)) e) (λ e. (split e).1)

      here : (i j : ℕ) → i < n → in_set (nth v EDGE i) j ≡ (ltb j n and edges_below t source (y + 1) i j)
      here i j l =
          r.is i j l
          ∙ ap₂ ◌or◌
          (ap₂ ◌or◌ ((inv.grid.row i l).is j ∙ ap (λ (m : ℕ). ltb j n and edges_below t source m i j) (first_next low))
          (ap (λ (b : Bool). eqb i y and b) (read_to_lem (within_trans o.frame inv.frame) y member.0 j) ∙ under_row (ltb j n) (eqb i y) (from_source t source y j))) (third i j)
          ∙ under_or (ltb j n) (edges_below t source y i j) (eqb i y and from_source t source y j) (eqb j y and eqb (source y) i)
          ∙ ap (λ (b : Bool). ltb j n and b) (rw add-one (sym (edges_step t source y i j member.1)))

      both : Walk x rest × Grid EDGE n (edges_below t source (next rest)) v
      both =
          walk_turn x (λ m. Grid EDGE n (edges_below t source m) v) (skip v) inv.walk low h
          (record { row = λ i l. record { is = λ j. here i j l } })

  pub edging_end : {u : List ℕ} (left : Set) → Sourced t source → any_below ROWS (in_set left) ≡ false → Edging t source n x left v₀ u
      → MadeGrid EDGE EDGE_END EDGE n (edge t source) w u
  edging_end {u} left sourced e inv = record { grid = grid_cong same all; frame = within_trans o.frame inv.frame }
    where
      few_are : n ≤ ROWS
      few_are = few opened

      rows_are : t.rows ≡ n
      rows_are = opened.rows

      all : Grid EDGE n (edges_below t source ROWS) u
      all = walk_end x (λ m. Grid EDGE n (edges_below t source m) u) (skip u) left e inv.grid

      same : (i j : ℕ) → i < n → j < n → edges_below t source ROWS i j ≡ edge t source i j
      same i j l m =
          past t source ROWS t.rows i j (omega (arith, few_are)) (omega (arith, rows_are)) (omega (arith, few_are)) (omega (arith, rows_are))
          ∙ edges_done t source (omega (arith, rows_are, few_are)) sourced i j (omega (arith, rows_are)) (omega (arith, rows_are))
