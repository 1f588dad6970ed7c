-- L4 and L5 over the bytes of the rows and the bits of the work area: what each stage's grid holds, and that together they tell
-- L4 and L5. Assumes nothing.
use Rattle.std.specs.Prelude.{◌≡◌, Bool, true, false, not, cond, List, ℕ, ◌+◌, ◌-◌, ◌*◌, ◌≤◌, ◌<◌, get_or}
use Rattle.std.proofs.Math.Path.{refl, sym, ap}
use Rattle.std.proofs.Common.{◌∙◌, arith, add-one, eq-eqb, ne_eqb, eqb-true, le-leb}
use Rattle.std.specs.Bool.{beq}
use Rattle.std.proofs.Math.Decide.{ℕ_discrete}
use Rattle.std.proofs.Math.Dec.{eqb}
use Rattle.finite.specs.Logic.{◌and◌, ◌or◌, split, and_true, and_false_left, and_false_right, or_right, or_none, or_off, not_both, not_so, not_out}
use Rattle.finite.specs.Logic.{bool_ext, and_on}
use Rattle.finite.specs.Below.{any_below, any_none, any_off, any_not, any_cong}
use Rattle.finite.specs.Closure.{through, through_none}
use Rattle.bits.specs.Bit.{bit, set_bit, set_bit_same, set_bit_other, zeros, bit_zeros_in}
use Rattle.bits.specs.Within.{Within, within_refl, within_trans, within_widen, within_set_bit, within_cleared}
use Rattle.bits.specs.Matrix.{rel, Closed}
use Rattle.bits.specs.Stage.{Holds, Made, Added, holds_kept, holds_closed, within_closed}
use Rattle.model.specs.declared.Row.{Row}
use Rattle.model.specs.Limits.{ROWS}
use Rattle.model.specs.Row.{AVAILABLE_HOST, AVAILABLE_DEVICE, VISIBLE_HOST, VISIBLE_DEVICE, HOST_TO_DEVICE, DEVICE_TO_HOST, operation, reads, writes}
use Rattle.model.specs.Table.{Mode, Table, row_of, dependency, depends_of, decode}
use Rattle.run.specs.Layout.{places_in, mode_in, rows_in, table_in}
use Rattle.model.specs.Scope.{host}
use Rattle.model.specs.Moment.{itself}
use Rattle.model.specs.Location.{system_before, L4, thence, on_host, available_kind, visible_kind, domain_kind, seen_by, met_from, carried_by, reaches_by, L5}
use Rattle.work_area.specs.Regions.{HAPPENS, MOMENTS, GRID, HOSTED, HOSTED_END, SYSTEM, SYSTEM_END, MET, REACHED, REACHED_END}
use Rattle.work_area.specs.State.{Ordered, ordered_kept}
use Rattle.run_rows.specs.Shared.{may_share}
use Rattle.flags_location.specs.Order.{hosted}
use Rattle.flags_location.specs.Given.{Room, Given, GivenRows, given_kept}

-- ---- definitions: tests over bytes and bits

-- row i is the operation of this kind, and row x happens before it
unfoldable pub thence_bits : List ℕ → List ℕ → ℕ → ℕ → ℕ → Bool
thence_bits b w kind x i = eqb (row_of b i).kind kind and rel w HAPPENS MOMENTS (itself x) (itself i)

-- and it happens before row y
unfoldable pub seen_bits : List ℕ → List ℕ → ℕ → ℕ → ℕ → ℕ → Bool
seen_bits b w kind m y i = thence_bits b w kind m i and rel w HAPPENS MOMENTS (itself i) (itself y)

-- and the grid at base has it with row y
unfoldable pub onward_bits : List ℕ → List ℕ → ℕ → ℕ → ℕ → ℕ → ℕ → Bool
onward_bits b w base kind x y i = thence_bits b w kind x i and rel w base GRID i y

unfoldable pub operation_at : List ℕ → ℕ → Bool
operation_at b i = operation (row_of b i)

-- no dependency, and no operation
unfoldable pub unhosted : Mode → List ℕ → ℕ → Bool
unhosted mode b n = eqb mode.dependencies 0 and not (any_below n (operation_at b))

-- ---- definitions: an agent's and an operation's domain

-- what makes available to agent a's domain, and visible from it
unfoldable pub available_of : List (List ℕ) → ℕ → ℕ
available_of p a = cond (host p a) AVAILABLE_HOST AVAILABLE_DEVICE

unfoldable pub visible_of : List (List ℕ) → ℕ → ℕ
visible_of p a = cond (host p a) VISIBLE_HOST VISIBLE_DEVICE

-- an operation of this kind makes available to a domain
unfoldable pub is_available : ℕ → Bool
is_available kind = eqb kind AVAILABLE_HOST or eqb kind AVAILABLE_DEVICE

-- what carries out of that domain
unfoldable pub out_of : ℕ → ℕ
out_of kind = cond (eqb kind AVAILABLE_HOST) HOST_TO_DEVICE DEVICE_TO_HOST

-- ---- definitions: what the grids hold

-- the first k dependencies, and the one after them
unfoldable pub depends : Mode → ℕ → ℕ → ℕ → Bool
depends mode k i j = any_below k (dependency mode i j)

unfoldable pub nth_depends : Mode → ℕ → ℕ → ℕ → Bool
nth_depends mode k i j = dependency mode i j k

-- y meets what the operation m leaves in y's domain
unfoldable pub met_by : Table → ℕ → ℕ → Bool
met_by t m y = operation (t.row m) and met_from t y m

-- y meets what d, of this kind, carries of what a makes available
unfoldable pub over_by : Table → ℕ → ℕ → ℕ → ℕ → Bool
over_by t kind a y d = thence t kind a d and met_by t d y

-- y meets what the operation a makes available; where a's domain is y's, nothing needs to be carried
unfoldable pub reached : Table → ℕ → ℕ → Bool
reached t a y =
    is_available (t.row a).kind
    and cond (beq (eqb (t.row a).kind AVAILABLE_HOST) (on_host t y)) (met_by t a y) (any_below t.rows (over_by t (out_of (t.row a).kind) a y))

-- what `reached` is told from
pub record Meeting (t : Table) (n : ℕ) (w : List ℕ) : Type 0 where
  pub ordered : Ordered t n w
  pub meeting : Holds MET GRID n (met_by t) w

-- what L4 and L5 are told from
pub record Sources (t : Table) (n : ℕ) (w : List ℕ) : Type 0 where
  pub ordered : Ordered t n w
  pub system : Holds SYSTEM GRID n (system_before t) w
  pub reaching : Holds REACHED GRID n (reached t) w

-- ---- laws: tests

and_when : (a b c : Bool) → (a ≡ true → b ≡ c) → (a and b) ≡ (a and c)
unfolding ◌and◌
and_when true b c f = f refl
and_when false b c f = refl

operation_kind : (r : Row) (k : ℕ) → AVAILABLE_HOST ≤ k → k ≤ DEVICE_TO_HOST → eqb r.kind k ≡ true → operation r ≡ true
unfolding operation
operation_kind r k l m h =
    let q = eqb-true r.kind k h in
    and_true (le-leb AVAILABLE_HOST r.kind (omega arith)) (le-leb r.kind DEVICE_TO_HOST (omega arith))

-- the operation that makes available to a domain, from whether the domain is the host's
available_kinds : (c : Bool) (k : ℕ) → eqb k (cond c AVAILABLE_HOST AVAILABLE_DEVICE) ≡ true
    → (is_available k ≡ true) × (eqb k AVAILABLE_HOST ≡ c) × (out_of k ≡ cond c HOST_TO_DEVICE DEVICE_TO_HOST) × (AVAILABLE_HOST ≤ k) × (k ≤ DEVICE_TO_HOST)
unfolding is_available out_of ◌or◌
available_kinds true k e = let q : k ≡ AVAILABLE_HOST = eqb-true k AVAILABLE_HOST e in (rw q refl, rw q refl, rw q refl, omega arith, omega arith)
available_kinds false k e = let q : k ≡ AVAILABLE_DEVICE = eqb-true k AVAILABLE_DEVICE e in (rw q refl, rw q refl, rw q refl, omega arith, omega arith)

domain_kinds : (c : Bool) → (AVAILABLE_HOST ≤ cond c HOST_TO_DEVICE DEVICE_TO_HOST) × (cond c HOST_TO_DEVICE DEVICE_TO_HOST ≤ DEVICE_TO_HOST)
domain_kinds true = (omega arith, omega arith)
domain_kinds false = (omega arith, omega arith)

-- ---- laws: dependencies

-- the bit of a dependency was set, or there is none to set
place_apart : (i j x y : ℕ) → j < ROWS → y < ROWS → (SYSTEM + x * GRID) * 64 + y ≡ (SYSTEM + i * GRID) * 64 + j → (i ≡ x) × (j ≡ y)
place_apart i j x y p q e = (omega arith, omega arith)

module _ (mode : Mode) (n k : ℕ) {i j : ℕ} (first_is : i ≡ get_or mode.first k 0) (second_is : j ≡ get_or mode.second k 0) where
  dependency_is : (x y : ℕ) → nth_depends mode k x y ≡ (eqb i x and eqb j y)
  unfolding nth_depends dependency
  dependency_is x y = rw (first_is, second_is) refl

  pub added_depends : {w u : List ℕ} → Room n w → i < n → j < n → u ≡ set_bit w ((SYSTEM + i * GRID) * 64 + j)
      → Added SYSTEM SYSTEM_END SYSTEM GRID n (nth_depends mode k) w u
  unfolding rel
  added_depends {w} given first second e =
      record {
        cell = λ x y p q. rw (e, dependency_is x y) (go x y p q (ℕ_discrete i x) (ℕ_discrete j y));
        frame = rw e (within_set_bit SYSTEM SYSTEM_END w ((SYSTEM + i * GRID) * 64 + j) (omega arith) (omega arith));
      }
    where
      go : (x y : ℕ) → x < n → y < n → Dec (i ≡ x) → Dec (j ≡ y)
          → bit (set_bit w ((SYSTEM + i * GRID) * 64 + j)) ((SYSTEM + x * GRID) * 64 + y) ≡ (bit w ((SYSTEM + x * GRID) * 64 + y) or (eqb i x and eqb j y))
      go x y p q (yes a) (yes c) =
          rw (← a, ← c) (set_bit_same w ((SYSTEM + i * GRID) * 64 + j) (omega arith) ∙ sym (or_right _ (and_true (eq-eqb i i refl) (eq-eqb j j refl))))
      go x y p q (yes a) (no c) =
          set_bit_other w _ _ (λ h. c (place_apart i j x y (omega arith) (omega arith) h).1) ∙ sym (or_off _ _ (and_false_right _ _ (ne_eqb j y c)))
      go x y p q (no a) d =
          set_bit_other w _ _ (λ h. a (place_apart i j x y (omega arith) (omega arith) h).0) ∙ sym (or_off _ _ (and_false_left _ _ (ne_eqb i x a)))

  pub added_nothing : (w : List ℕ) → (i < n → n ≤ j) → Added SYSTEM SYSTEM_END SYSTEM GRID n (nth_depends mode k) w w
  added_nothing w off =
      record {
        cell = λ x y p q. sym (or_off _ _ (dependency_is x y ∙ not_so _ (λ e. out x y p q (eqb-true i x (split e).0) (eqb-true j y (split e).1))));
        frame = within_refl SYSTEM SYSTEM_END w;
      }
    where
      out : (x y : ℕ) → x < n → y < n → i ≡ x → j ≡ y → ⊥
      out x y p q a c = let g : n ≤ j = off (omega arith) in omega arith

-- one dependency more
pub depends_none : {n : ℕ} {w v : List ℕ} (mode : Mode) → Room n w → v ≡ zeros w SYSTEM (SYSTEM_END - SYSTEM) → Holds SYSTEM GRID n (depends mode 0) v
unfolding rel depends
depends_none {n} {w} mode given e =
    record {
      fits = omega arith;
      cell = λ i j p q. rw e (bit_zeros_in w SYSTEM (SYSTEM_END - SYSTEM) ((SYSTEM + i * GRID) * 64 + j) (omega arith) (omega arith)
          (omega arith) ∙ sym (any_none _));
    }

pub depends_more : (mode : Mode) (k i j : ℕ) → (depends mode k i j or nth_depends mode k i j) ≡ depends mode (k + 1) i j
unfolding depends nth_depends any_below
depends_more mode k i j = rw add-one refl

pub made_system : {n k : ℕ} {w v u : List ℕ} (mode : Mode) → n ≤ ROWS → k ≡ mode.dependencies → Within SYSTEM SYSTEM_END w v
    → Holds SYSTEM GRID n (depends mode k) v
    → Closed v u SYSTEM n GRID → Made SYSTEM SYSTEM_END SYSTEM GRID n (through (depends_of mode) n) w u
unfolding depends depends_of
made_system mode small count_is kept holds closed =
    record { holds = holds_closed (rw count_is at holds) closed; frame = within_trans kept (within_closed (omega arith) closed) }

-- ---- laws: what y meets, and what reaches it

thence_is : (t : List ℕ) (n : ℕ) (w : List ℕ) → Ordered (table_in t n) n w → (kind x i : ℕ) → x < n → i < n
    → thence_bits (rows_in t) w kind x i ≡ thence (table_in t n) kind x i
unfolding thence_bits thence decode row_of
thence_is t n w o kind x i first second =
    ap (λ (c : Bool). eqb (row_of (rows_in t) i).kind kind and c) (o.happening.cell (itself x) (itself i) (omega arith) (omega arith))

module _ {t : List ℕ} {n m y : ℕ} {w : List ℕ} (given : GivenRows Ordered t n m y w) where
  seen_is : (i : ℕ) → i < n → seen_bits (rows_in t) w (visible_kind (table_in t n) y) m y i ≡ seen_by (table_in t n) y m i
  unfolding seen_bits seen_by
  seen_is i l =
      rw (
        thence_is t n w given.holds (visible_kind (table_in t n) y) m i given.first l,
        given.holds.happening.cell (itself i) (itself y) (omega arith) (omega arith),
      ) refl

  -- m is no operation; it is one and y reads; it is one and y doesn't
  pub met_off : operation (row_of (rows_in t) m) ≡ false → false ≡ met_by (table_in t n) m y
  unfolding met_by decode
  met_off none = sym (and_false_left _ _ none)

  pub met_read : {kind : ℕ} {q : Row} {d : Bool} → operation (row_of (rows_in t) m) ≡ true → q ≡ row_of (rows_in t) y → reads q ≡ true → kind ≡ visible_of (places_in t) q.agent
      → d ≡ any_below n (seen_bits (rows_in t) w kind m y) → d ≡ met_by (table_in t n) m y
  unfolding met_by met_from visible_kind visible_of on_host decode ◌and◌
  met_read {kind} some second_is reader kind_is told =
      let e : kind ≡ visible_kind (table_in t n) y = rw second_is at kind_is in
      rw (some, ← second_is, reader) (told ∙ rw e (any_cong _ _ n (λ i l. seen_is i l)))

  pub met_other : {q : Row} {d : Bool} → operation (row_of (rows_in t) m) ≡ true → q ≡ row_of (rows_in t) y → reads q ≡ false → d ≡ rel w HAPPENS MOMENTS (itself m) (itself y)
      → d ≡ met_by (table_in t n) m y
  unfolding met_by met_from decode ◌and◌
  met_other some second_is other told =
      rw (some, ← second_is, other) (told ∙ given.holds.happening.cell (itself m) (itself y) (omega arith) (omega arith))

module _ {t : List ℕ} {n a y : ℕ} {w : List ℕ} (given : GivenRows Meeting t n a y w) where
  over_is : (kind d : ℕ) → d < n → onward_bits (rows_in t) w MET kind a y d ≡ over_by (table_in t n) kind a y d
  unfolding onward_bits over_by
  over_is kind d l =
      rw (thence_is t n w given.holds.ordered kind a d given.first l, given.holds.meeting.cell d y l given.second) refl

  -- a makes nothing available; it does so to y's domain; it does so to the other
  module _ {kind : ℕ} (kind_is : kind ≡ (row_of (rows_in t) a).kind) where
    pub reached_off : is_available kind ≡ false → false ≡ reached (table_in t n) a y
    unfolding reached decode row_of
    reached_off none = sym (and_false_left _ _ (rw (← kind_is) none))

    module _ {g : ℕ} {h : Bool} (some : is_available kind ≡ true) (agent_is : g ≡ (row_of (rows_in t) y).agent) (host_is : h ≡ host (places_in t) g) where
      pub reached_here : {d : Bool} → beq (eqb kind AVAILABLE_HOST) h ≡ true → d ≡ rel w MET GRID a y → d ≡ reached (table_in t n) a y
      unfolding reached on_host decode row_of ◌and◌
      reached_here same told = rw (← kind_is, some, ← agent_is, ← host_is, same) (told ∙ given.holds.meeting.cell a y given.first given.second)

      pub reached_over : {out : ℕ} {d : Bool} → beq (eqb kind AVAILABLE_HOST) h ≡ false → out ≡ out_of kind
          → d ≡ any_below n (onward_bits (rows_in t) w MET out a y) → d ≡ reached (table_in t n) a y
      unfolding reached on_host decode row_of ◌and◌
      reached_over other out_is told =
          rw (← kind_is, some, ← agent_is, ← host_is, other) (told ∙ rw out_is (any_cong _ _ n (λ d l. over_is (out_of kind) d l)))

-- ---- laws: L5 by what reaches y

module _ (t : Table) (x y : ℕ) where
  -- what carries is an operation
  carried_is : (a d : ℕ) → over_by t (domain_kind t x) a y d ≡ carried_by t x y a d
  unfolding over_by carried_by met_by thence domain_kind
  carried_is a d =
      let k = domain_kinds (on_host t x) in
      bool_ext _ _
      (λ e. let s = split e in and_true s.0 (split s.1).1)
      (λ e. let s = split e in and_true s.0 (and_true (operation_kind (t.row d) _ k.0 k.1 (split s.0).0) s.1))

  domain_is : cond (on_host t x) HOST_TO_DEVICE DEVICE_TO_HOST ≡ domain_kind t x
  unfolding domain_kind
  domain_is = refl

  met_is : (a : ℕ) → operation (t.row a) ≡ true → met_by t a y ≡ met_from t y a
  unfolding met_by
  met_is a e = and_on _ _ e

  thence_kind : (kind a : ℕ) → thence t kind x a ≡ true → eqb (t.row a).kind kind ≡ true
  unfolding thence
  thence_kind kind a e = (split e).0

  -- an operation that makes available to x's domain
  reached_is : (a : ℕ) → eqb (t.row a).kind (available_kind t x) ≡ true
      → reached t a y ≡ cond (beq (on_host t x) (on_host t y)) (met_from t y a) (any_below t.rows (carried_by t x y a))
  unfolding reached available_kind ◌and◌
  reached_is a e =
      let k = available_kinds (on_host t x) (t.row a).kind e in
      let f : out_of (t.row a).kind ≡ domain_kind t x = k.2 ∙ domain_is in
      let m = met_is a (operation_kind (t.row a) _ k.3 k.4 (eq-eqb (t.row a).kind _ refl)) in
      rw (k.0, k.1, f, m, any_cong _ _ t.rows (λ d h. carried_is a d)) refl

  sent_is : (a : ℕ) → (thence t (available_kind t x) x a and reached t a y) ≡ reaches_by t x y a
  unfolding reaches_by
  sent_is a = and_when _ _ _ (λ e. reached_is a (thence_kind _ a e))

module _ {t : List ℕ} {n x y : ℕ} {w : List ℕ} (given : GivenRows Sources t n x y w) where
  onward_is : (a : ℕ) → a < n → onward_bits (rows_in t) w REACHED (available_kind (table_in t n) x) x y a ≡ reaches_by (table_in t n) x y a
  unfolding onward_bits
  onward_is a l =
      rw (
        thence_is t n w given.holds.ordered (available_kind (table_in t n) x) x a given.first l,
        given.holds.reaching.cell a y l given.second,
      ) (sent_is (table_in t n) x y a)

  available_is : available_of (places_in t) (row_of (rows_in t) x).agent ≡ available_kind (table_in t n) x
  unfolding available_kind available_of on_host decode
  available_is = refl

  -- L5, for a row that writes
  fifth_is : (writes (row_of (rows_in t) x) and any_below n (onward_bits (rows_in t) w REACHED (available_of (places_in t) (row_of (rows_in t) x).agent) x y))
      ≡ L5 (table_in t n) x y
  unfolding L5 decode
  fifth_is = rw (available_is, any_cong _ _ n (λ a l. onward_is a l)) refl

  module _ {r : Row} (first_is : r ≡ row_of (rows_in t) x) where
    fourth_is : {g : Bool} → g ≡ rel w SYSTEM GRID x y → (reads r and not (writes r) and g) ≡ L4 (table_in t n) x y
    unfolding L4 decode
    fourth_is system_is = rw (system_is ∙ given.holds.system.cell x y given.first given.second, first_is) refl

    -- a pair that shares no byte; one that does
    module _ {q : Row} (second_is : q ≡ row_of (rows_in t) y) where
      pub hosted_off : may_share x y r q ≡ false → false ≡ hosted (table_in t n) x y
      unfolding hosted decode
      hosted_off apart = sym (and_false_left _ _ (rw (← first_is, ← second_is) apart))

      module _ {g c : Bool} (near : may_share x y r q ≡ true) (system_is : g ≡ rel w SYSTEM GRID x y) (fourth : c ≡ (reads r and not (writes r) and g)) where
        shared_is : may_share x y ((table_in t n).row x) ((table_in t n).row y) ≡ true
        unfolding decode
        shared_is = rw (← first_is, ← second_is) near

        on_is : hosted (table_in t n) x y ≡ (c or L5 (table_in t n) x y)
        unfolding hosted
        on_is = and_on _ _ shared_is ∙ ap (λ (a : Bool). a or L5 (table_in t n) x y) (sym (fourth ∙ fourth_is system_is))

        pub hosted_fourth : c ≡ true → true ≡ hosted (table_in t n) x y
        unfolding ◌or◌
        hosted_fourth on = rw (on_is, on) refl

        pub hosted_fifth : {d : Bool} → c ≡ false
            → d ≡ (writes (row_of (rows_in t) x) and any_below n (onward_bits (rows_in t) w REACHED (available_of (places_in t) (row_of (rows_in t) x).agent) x y))
            → d ≡ hosted (table_in t n) x y
        unfolding ◌or◌
        hosted_fifth off told = rw (on_is, off) (told ∙ fifth_is)

-- ---- laws: without dependencies and operations there is neither L4 nor L5

module _ (t : List ℕ) (n : ℕ) (none : unhosted (mode_in t) (rows_in t) n ≡ true) where
  no_depends : (x y : ℕ) → depends_of (mode_in t) x y ≡ false
  unfolding depends_of unhosted
  no_depends x y = rw (eqb-true (mode_in t).dependencies 0 (split none).0) (any_none _)

  no_fourth : (x y : ℕ) → x < n → y < n → L4 (table_in t n) x y ≡ false
  unfolding L4 system_before decode
  no_fourth x y l k = and_false_right _ _ (through_none (depends_of (mode_in t)) n (λ i j h g. no_depends i j) n x y (omega arith) l k)

  no_operation : (a : ℕ) → a < n → operation (row_of (rows_in t) a) ≡ false
  unfolding unhosted operation_at
  no_operation a l = any_off _ n (not_out _ (split none).1) a l

  no_way : (x y a : ℕ) → a < n → reaches_by (table_in t n) x y a ≡ false
  unfolding reaches_by thence available_kind decode
  no_way x y a l =
      and_false_left _ _ (and_false_left _ _
      (not_so _ (λ e. let k = available_kinds (on_host (table_in t n) x) (row_of (rows_in t) a).kind e in
      not_both (operation_kind (row_of (rows_in t) a) _ k.3 k.4 (eq-eqb (row_of (rows_in t) a).kind _ refl)) (no_operation a l))))

  no_fifth : (x y : ℕ) → L5 (table_in t n) x y ≡ false
  unfolding L5 decode
  no_fifth x y = and_false_right _ _ (any_not _ n (λ a l. no_way x y a l))

  no_hosted : (x y : ℕ) → x < n → y < n → hosted (table_in t n) x y ≡ false
  unfolding hosted
  no_hosted x y l k = and_false_right _ _ (or_none (no_fourth x y l k) (no_fifth x y))

  pub made_unhosted : {w v : List ℕ} → Given Ordered t n w → v ≡ zeros w HOSTED (HOSTED_END - HOSTED)
      → Made HOSTED REACHED_END HOSTED GRID n (hosted (table_in t n)) w v
  unfolding rel
  made_unhosted {w} given e =
      record {
        holds = record {
          fits = omega arith;
          cell = λ i j h g. rw e (bit_zeros_in w HOSTED (HOSTED_END - HOSTED) ((HOSTED + i * GRID) * 64 + j) (omega arith) (omega arith)
              (omega arith) ∙ sym (no_hosted i j h g));
        };
        frame = within_widen HOSTED REACHED_END (omega arith) (omega arith) (within_cleared HOSTED HOSTED_END (omega arith) e);
      }

-- ---- laws: the stages, one after the other

module _ {t : List ℕ} {n : ℕ} where
  -- what rows meet was made, whatever words after it were worked in
  pub given_meeting : {d : ℕ} {w v u : List ℕ} → Given Ordered t n w → Within SYSTEM SYSTEM_END w v
      → Made MET d MET GRID n (met_by (table_in t n)) v u → Given Meeting t n u
  given_meeting o f m =
      let g = given_kept (omega arith) m.frame (given_kept (omega arith) f o) in
      record { few = g.few; room = g.room; holds = record { ordered = g.holds; meeting = m.holds } }

  pub given_sources : {d : ℕ} {w x v u : List ℕ} → Given Ordered t n w → Made SYSTEM SYSTEM_END SYSTEM GRID n (through (depends_of (mode_in t)) n) w x
      → Within MET d x v → Made REACHED REACHED_END REACHED GRID n (reached (table_in t n)) v u → Given Sources t n u
  unfolding system_before decode
  given_sources o s f m =
      let g = given_kept (omega arith) m.frame (given_kept (omega arith) f (given_kept (omega arith) s.frame o)) in
      let few = o.few in
      record {
        few = g.few;
        room = g.room;
        holds = record {
          ordered = g.holds;
          system = holds_kept (λ h. absurd (omega arith)) m.frame (holds_kept (λ h. absurd (omega arith)) f s.holds);
          reaching = m.holds;
        };
      }

pub meeting_kept : {t : Table} {n : ℕ} {w u : List ℕ} → Within REACHED REACHED_END w u → Meeting t n w → Meeting t n u
meeting_kept f s = record { ordered = ordered_kept (omega arith) f s.ordered; meeting = holds_kept (λ h. omega arith) f s.meeting }

pub sources_kept : {t : Table} {n : ℕ} {w u : List ℕ} → Within HOSTED HOSTED_END w u → Sources t n w → Sources t n u
sources_kept f s =
    record {
      ordered = ordered_kept (omega arith) f s.ordered;
      system = holds_kept (λ h. omega arith) f s.system;
      reaching = holds_kept (λ h. omega arith) f s.reaching;
    }

pub made_hosted : {n d : ℕ} {r : ℕ → ℕ → Bool} {w v x z u : List ℕ} → d ≤ REACHED_END → Within SYSTEM SYSTEM_END w v → Within MET d v x
    → Within REACHED REACHED_END x z → Made HOSTED HOSTED_END HOSTED GRID n r z u → Made HOSTED REACHED_END HOSTED GRID n r w u
made_hosted low system met reached made =
    record {
      holds = made.holds;
      frame = within_trans
          (within_trans (within_widen HOSTED REACHED_END (omega arith) (omega arith) system)
          (within_widen HOSTED REACHED_END (omega arith) (omega arith) met))
          (within_trans (within_widen HOSTED REACHED_END (omega arith) (omega arith) reached)
          (within_widen HOSTED REACHED_END (omega arith) (omega arith) made.frame));
    }
