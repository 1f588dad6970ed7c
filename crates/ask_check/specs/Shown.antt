-- What the cycle buffer holds when a cycle is shown. Assumes nothing.
use Rattle.std.specs.Prelude.{◌≡◌, true, cond, List, ◌++◌, ℕ, ◌+◌, ◌-◌, ◌*◌, ◌≤◌, ◌<◌, length, set, drop, ltb}
use Rattle.std.proofs.Math.Path.{refl, ap, subst}
use Rattle.std.proofs.Common.{sym, ◌∙◌, arith, length-set, length-append, length-drop, ext_get_or, get_or-drop, get_or-append-add, get_or-set_same, get_or-set_other, lt-ltb, le-ltb}
use Rattle.std.proofs.Math.Decide.{dec_lt, ℕ_discrete}
use Rattle.std.proofs.Math.ListN.{get_or, get_or-append, get_or-eq_default}
use Rattle.finite.specs.Lists.{Written, tabulate, length_tabulate, get_d_tabulate}
use Rattle.bits.specs.Bit.{zeros, length_zeros, zeros_in, zeros_out}
use Rattle.model.specs.Limits.{ROWS, CYCLE, CYCLE_EDGES}
use Rattle.model.specs.Check.{cycle_number, cycle_after, cyclic}
use Rattle.finite.specs.Walk.{walk, cycle_start, cycle_size, trail, cycle, along}
use Rattle.finite.specs.Cycle.{along_at, along_last, length_along}
use Rattle.model.specs.Table.{Table}
use Rattle.model.specs.Edge.{edge_number, edge, cycle_row, cycle_rows, cycle_edges}
use Rattle.bits.specs.Matrix.{rel}
use Rattle.bits.specs.Within.{Within, within_widen}
use Rattle.bits.specs.Stage.{Holds, holds_kept}
use Rattle.work_area.specs.Regions.{EDGE, GRID, LAYERS, LAYERS_END}
use Rattle.work_walks.specs.Layers.{LayersTo, Returns}
use Rattle.find_race.specs.Bytes.{Ready}
use Rattle.find_cycle.specs.Shown.{layer_size, shown_below, held_walk, held_length, held_written}

-- ---- definitions

-- places from CYCLE_EDGES become the numbers of f, size of them; the others stay
pub record Numbered (f : ℕ → ℕ) (size : ℕ) (c d : List ℕ) : Type 0 where
  pub len : length d ≡ length c
  pub number : (i : ℕ) → i < size → get_or d (CYCLE_EDGES + i) 0 ≡ f i
  pub rest : (k : ℕ) → (CYCLE_EDGES ≤ k → CYCLE_EDGES + size ≤ k) → get_or d k 0 ≡ get_or c k 0

-- the lowest edge number of step i of the cycle of so many rows that stands in c and starts at x
unfoldable pub step_number : Table → (ℕ → ℕ) → ℕ → ℕ → List ℕ → ℕ → ℕ
step_number t source x size c i = edge_number t source (get_or c i 0) (cond (ltb (i + 1) size) (get_or c (i + 1) 0) x)

-- c has a cycle of so many of n rows, which starts at x
pub record CycleIn (n x size : ℕ) (c : List ℕ) : Type 0 where
  pub start : x < n
  pub few : size ≤ CYCLE_EDGES
  pub room : CYCLE ≤ length c
  pub rows : (i : ℕ) → i < size → get_or c i 0 < n

-- the work area has location order and the edges, whose first cycle starts at row x of n
pub record CycleFrom (t : Table) (source : ℕ → ℕ) (n x : ℕ) (w : List ℕ) : Type 0 where
  pub start : x < n
  pub first : x ≡ cycle_row t source
  pub ready : Ready t n w
  pub edges : Holds EDGE GRID n (edge t source) w

-- ---- laws

-- a loop that writes them
pub numbered_none : (f : ℕ → ℕ) (c : List ℕ) → Numbered f 0 c c
numbered_none f c = record { len = refl; number = λ i h. absurd (omega arith); rest = λ k h. refl }

pub numbered_more : (f : ℕ → ℕ) (n v k : ℕ) (c d : List ℕ) → CYCLE_EDGES + n < length c → k ≡ CYCLE_EDGES + n → v ≡ f n → Numbered f n c d
    → Numbered f (n + 1) c (set d k v)
numbered_more f n v k c d room q e h =
    record { len = length-set d k v ∙ h.len; number = λ i m. go i m (ℕ_discrete i n); rest = out }
  where
    go : (i : ℕ) → i < n + 1 → Dec (i ≡ n) → get_or (set d k v) (CYCLE_EDGES + i) 0 ≡ f i
    go i m (yes r) = let l = h.len in rw (r, ← q) (get_or-set_same d k v 0 (omega arith) ∙ e)
    go i m (no r) = get_or-set_other d k (CYCLE_EDGES + i) v 0 (λ z. r (omega arith)) ∙ h.number i (omega arith)

    out : (j : ℕ) → (CYCLE_EDGES ≤ j → CYCLE_EDGES + (n + 1) ≤ j) → get_or (set d k v) j 0 ≡ get_or c j 0
    out j o = get_or-set_other d k j v 0 (λ z. let g = o (omega arith) in omega arith) ∙ h.rest j (λ l. let g = o l in omega arith)

-- the rows are not touched while the edge numbers are written
pub numbered_row : (f : ℕ → ℕ) (n i : ℕ) (c d : List ℕ) → i < CYCLE_EDGES → Numbered f n c d → get_or d i 0 ≡ get_or c i 0
numbered_row f n i c d l h = h.rest i (λ g. absurd (omega arith))

-- a turn of that loop: the row at place i, the row after it, and the step's number
module _ (f : ℕ → ℕ) (k n size x i : ℕ) (c d : List ℕ) (h : Numbered f k c d) (few : size ≤ CYCLE_EDGES) (l : i < size) where
  pub row_below : ((j : ℕ) → j < size → get_or c j 0 < n) → (a : ℕ) → a ≡ get_or d i 0 → a < n
  row_below below a e = rw (e ∙ numbered_row f k i c d (omega arith) h) (below i l)

  pub next_below : ((j : ℕ) → j < size → get_or c j 0 < n) → x < n → (b : ℕ) → b ≡ cond (ltb (i + 1) size) (get_or d (i + 1) 0) x → b < n
  next_below below m b e = rw e (go (dec_lt (i + 1) size))
    where
      go : Dec (i + 1 < size) → cond (ltb (i + 1) size) (get_or d (i + 1) 0) x < n
      go (yes q) = rw (lt-ltb (i + 1) size q, numbered_row f k (i + 1) c d (omega arith) h) (below (i + 1) q)
      go (no q) = rw (le-ltb (i + 1) size (omega arith)) m

  pub step_is : (t : Table) (source : ℕ → ℕ) (a b e : ℕ) → a ≡ get_or d i 0 → b ≡ cond (ltb (i + 1) size) (get_or d (i + 1) 0) x → e ≡ edge_number t source a b
      → e ≡ step_number t source x size c i
  unfolding step_number
  step_is t source a b e p q r = rw (r, p, q, numbered_row f k i c d (omega arith) h) (go (dec_lt (i + 1) size))
    where
      go : Dec (i + 1 < size)
          → edge_number t source (get_or c i 0) (cond (ltb (i + 1) size) (get_or d (i + 1) 0) x) ≡ edge_number t source (get_or c i 0)
          (cond (ltb (i + 1) size) (get_or c (i + 1) 0) x)
      go (yes z) = rw (numbered_row f k (i + 1) c d (omega arith) h) refl
      go (no z) = rw (le-ltb (i + 1) size (omega arith)) refl

-- the steps of a cycle that stands in c are the edge numbers along it
pub steps_along : (t : Table) (source : ℕ → ℕ) (x : ℕ) (l c d e : List ℕ) → Written l (length l) c d
    → Numbered (step_number t source x (length l) d) (length l) d e
    → Numbered (λ i. get_or (along (edge_number t source) x l) i 0) (length l) d e
unfolding step_number
steps_along t source x l c d e w h = record { len = h.len; number = λ i m. h.number i m ∙ at i m (dec_lt (i + 1) (length l)); rest = h.rest }
  where
    at : (i : ℕ) → i < length l → Dec (i + 1 < length l)
        → edge_number t source (get_or d i 0) (cond (ltb (i + 1) (length l)) (get_or d (i + 1) 0) x) ≡ get_or (along (edge_number t source) x l) i 0
    at i m (yes q) = rw (lt-ltb (i + 1) (length l) q, w.front i m, w.front (i + 1) q) (sym (along_at (edge_number t source) x l i q))
    at i m (no q) = rw (le-ltb (i + 1) (length l) (omega arith), w.front i m) (sym (along_last (edge_number t source) x l i (omega arith)))

number_low : (rows edges : List ℕ) (k : ℕ) → k < CYCLE_EDGES → cycle_number rows edges k ≡ get_or rows k 0
unfolding cycle_number
number_low rows edges k l = simp (lt-ltb k CYCLE_EDGES l)

number_high : (rows edges : List ℕ) (k : ℕ) → CYCLE_EDGES ≤ k → cycle_number rows edges k ≡ get_or edges (k - CYCLE_EDGES) 0
unfolding cycle_number
number_high rows edges k l = simp (le-ltb k CYCLE_EDGES l)

-- cleared, then the rows written, then the edge numbers
pub shown_buffer : (rows edges : List ℕ) (c d e f : List ℕ) → CYCLE ≤ length c → length rows ≤ CYCLE_EDGES → length edges ≡ length rows
    → d ≡ zeros c 0 CYCLE → Written rows (length rows) d e → Numbered (λ i. get_or edges i 0) (length rows) e f
    → f ≡ cycle_after (cyclic rows edges) c
unfolding cycle_after
shown_buffer rows edges c d e f room few same cleared written numbered =
    ext_get_or 0 f (tabulate (cycle_number rows edges) CYCLE ++ drop CYCLE c) (long ∙ sym whole) (λ k l. at k (dec_lt k CYCLE_EDGES) (dec_lt k CYCLE))
  where
    n : ℕ
    n = length rows

    first : List ℕ
    first = tabulate (cycle_number rows edges) CYCLE

    first_length : length first ≡ CYCLE
    first_length = length_tabulate (cycle_number rows edges) CYCLE

    d_length : length d ≡ length c
    d_length = ap length cleared ∙ length_zeros c 0 CYCLE

    long : length f ≡ length c
    long = numbered.len ∙ written.len ∙ d_length

    whole : length (first ++ drop CYCLE c) ≡ length c
    whole = length-append first (drop CYCLE c) ∙ rw (first_length, length-drop CYCLE c) (omega arith)

    zero_at_lem : (k : ℕ) → k < CYCLE → get_or d k 0 ≡ 0
    zero_at_lem k l = ap (λ (v : List ℕ). get_or v k 0) cleared ∙ zeros_in c 0 CYCLE k (omega arith) (omega arith) (omega arith)

    -- a place of the first numbers
    left : (k : ℕ) → k < CYCLE → get_or (first ++ drop CYCLE c) k 0 ≡ cycle_number rows edges k
    left k l = get_or-append first (drop CYCLE c) 0 k (rw first_length l) ∙ get_d_tabulate (cycle_number rows edges) CYCLE k 0 l

    row_at : (k : ℕ) → k < CYCLE_EDGES → get_or f k 0 ≡ get_or rows k 0
    row_at k l = numbered.rest k (λ h. absurd (omega arith)) ∙ go (dec_lt k n)
      where
        go : Dec (k < n) → get_or e k 0 ≡ get_or rows k 0
        go (yes h) = written.front k h
        go (no h) = written.rest k (omega arith) ∙ zero_at_lem k (omega arith) ∙ sym (get_or-eq_default rows 0 (omega arith))

    edge_at : (j : ℕ) → j < CYCLE_EDGES → get_or f (CYCLE_EDGES + j) 0 ≡ get_or edges j 0
    edge_at j l = go (dec_lt j n)
      where
        go : Dec (j < n) → get_or f (CYCLE_EDGES + j) 0 ≡ get_or edges j 0
        go (yes h) = numbered.number j h
        go (no h) =
            numbered.rest (CYCLE_EDGES + j) (λ q. omega arith) ∙ written.rest (CYCLE_EDGES + j) (omega arith) ∙ zero_at_lem (CYCLE_EDGES + j) (omega arith)
            ∙ sym (get_or-eq_default edges 0 (rw same (omega arith)))

    past : (k : ℕ) → CYCLE ≤ k → get_or f k 0 ≡ get_or (first ++ drop CYCLE c) k 0
    past k l =
        numbered.rest k (λ q. omega arith) ∙ written.rest k (omega arith) ∙ ap (λ (v : List ℕ). get_or v k 0) cleared ∙ zeros_out c 0 CYCLE k (λ q. omega arith)
        ∙ sym (after k l)
      where
        after : (j : ℕ) → CYCLE ≤ j → get_or (first ++ drop CYCLE c) j 0 ≡ get_or c j 0
        after j m =
            let p : length first + (j - CYCLE) ≡ j = rw first_length (omega arith) in
            let q : CYCLE + (j - CYCLE) ≡ j = omega arith in
            ap (λ (i : ℕ). get_or (first ++ drop CYCLE c) i 0) (sym p) ∙ get_or-append-add first (drop CYCLE c) (j - CYCLE) 0
            ∙ get_or-drop CYCLE c (j - CYCLE) 0 ∙ ap (λ (i : ℕ). get_or c i 0) q

    at : (k : ℕ) → Dec (k < CYCLE_EDGES) → Dec (k < CYCLE) → get_or f k 0 ≡ get_or (first ++ drop CYCLE c) k 0
    at k (yes l) d = row_at k l ∙ sym (number_low rows edges k l) ∙ sym (left k (omega arith))
    at k (no l) (yes m) =
        let q : CYCLE_EDGES + (k - CYCLE_EDGES) ≡ k = omega arith in
        ap (λ (i : ℕ). get_or f i 0) (sym q) ∙ edge_at (k - CYCLE_EDGES) (omega arith) ∙ sym (number_high rows edges k (omega arith)) ∙ sym (left k m)
    at k (no l) (no m) = past k (omega arith)

-- ---- laws: the calls that show a cycle, one after the other

-- w is the area before the layers are made, u after; n rows, the cycle's lowest row is x, and it is in layer j + 1 again
module _ (t : Table) (source : ℕ → ℕ) (n x j : ℕ) (w u : List ℕ) (all : n ≡ t.rows) (few : n ≤ ROWS) (holds : Holds EDGE GRID n (edge t source) w)
    (filled : Returns EDGE LAYERS GRID n x j u × Within LAYERS (LAYERS + n * GRID + GRID) w u) (row_is : x ≡ cycle_row t source) (below_x : x < n) where
  held : Holds EDGE GRID n (edge t source) u
  held = holds_kept (λ l. absurd (omega arith)) filled.1 holds

  start : x ≡ cycle_start n (edge t source)
  unfolding cycle_row
  start = rw all row_is

  sized : j + 1 ≡ cycle_size n (rel u EDGE GRID) x
  sized = layer_size filled.0

  pub size_asked : (j + 1 ≤ n) × (walk n (rel u EDGE GRID) x (j + 1) x ≡ true)
  size_asked = held_walk held start below_x sized

  pub layers_asked : LayersTo EDGE LAYERS GRID n x (j + 1) u
  layers_asked = filled.0.made (let k = size_asked.0 in omega arith)

  rows_are : cycle n (edge t source) ≡ cycle_rows t source
  unfolding cycle_rows
  rows_are = ap (λ (m : ℕ). cycle m (edge t source)) all

  pub size_is : j + 1 ≡ length (cycle_rows t source)
  size_is = held_length held start sized ∙ ap length rows_are

  module _ (d f : List ℕ) (written : Written (trail n (rel u EDGE GRID) x (j + 1) x) (j + 1) d f) where
    pub rows_written : Written (cycle_rows t source) (length (cycle_rows t source)) d f
    rows_written = subst (λ (l : List ℕ). Written l (length l) d f) rows_are (held_written held start sized written)

    pub rows_below : (i : ℕ) → i < j + 1 → get_or f i 0 < n
    rows_below i m =
        let k : i < length (cycle_rows t source) = subst (λ (v : ℕ). i < v) size_is m in
        rw (rows_written.front i k) (subst (λ (r : List ℕ). get_or r i 0 < n) rows_are
        (shown_below n (edge t source) (subst (λ (v : ℕ). v < n) start below_x) i (subst (λ (r : List ℕ). i < length r) (sym rows_are) k)))

    pub shown_is : (c g : List ℕ) → CYCLE ≤ length c → d ≡ zeros c 0 CYCLE → Numbered (step_number t source x (j + 1) f) (j + 1) f g
        → (j + 1 ≡ length (cycle_rows t source)) × (g ≡ cycle_after (cyclic (cycle_rows t source) (cycle_edges t source)) c) × Within LAYERS LAYERS_END w u
    unfolding cycle_edges
    shown_is c g room cleared numbered =
        let k = size_asked.0 in
        let z = size_is in
        let m : Numbered (step_number t source x (length (cycle_rows t source)) f) (length (cycle_rows t source)) f g = subst
        (λ (v : ℕ). Numbered (step_number t source x v f) v f g) size_is numbered in
        let a : Numbered (λ i. get_or (along (edge_number t source) x (cycle_rows t source)) i 0)
        (length (cycle_rows t source)) f g = steps_along t source x (cycle_rows t source) d f g rows_written m in (
          size_is,
          subst (λ (y : ℕ). g ≡ cycle_after (cyclic (cycle_rows t source) (along (edge_number t source) y (cycle_rows t source))) c) row_is
              (shown_buffer (cycle_rows t source) (along (edge_number t source) x (cycle_rows t source)) c d f g room (omega arith)
              (length_along (edge_number t source) x (cycle_rows t source)) cleared rows_written a),
          within_widen LAYERS LAYERS_END (omega arith) (omega arith) filled.1,
        )
