-- Location order of a pair of rows, over the rows; the pairs that no byte need be asked of. Assumes nothing.
use Rattle.std.specs.Prelude.{◌≡◌, Bool, true, false, not, List, ℕ, zero, suc, ◌+◌, ◌*◌, ◌≤◌, eqb}
use Rattle.std.proofs.Math.Path.{refl}
use Rattle.std.proofs.Common.{sym, ◌∙◌, arith, lt-ltb}
use Rattle.finite.specs.Logic.{◌and◌, ◌or◌, split, and_true, not_both, not_so, and_false_left, or_left, or_assoc}
use Rattle.bits.specs.Bit.{set_bit_if}
use Rattle.bits.specs.Within.{Within, within_trans, within_widen}
use Rattle.bits.specs.Fill.{or_fresh, row_fill, within_row_fill, grid_fill, within_grid_fill}
use Rattle.bits.specs.Stage.{Holds, Made, holds_kept}
use Rattle.bits.specs.Cube.{MadeCube}
use Rattle.model.specs.declared.Row.{Row}
use Rattle.model.specs.Row.{touches}
use Rattle.model.specs.Table.{Table}
use Rattle.model.specs.Moment.{itself, same_agent}
use Rattle.model.specs.Happens.{happens}
use Rattle.model.specs.Location.{pure_read, common, L1, L2, L4, L5, before}
use Rattle.model.specs.Availability.{same_reference, L3}
use Rattle.model.specs.Edge.{before_nth}
use Rattle.work_area.specs.Regions.{LOCATION, LOCATION_END, HOSTED, REACHED_END, LOCATED_END, GRID, PAIR, PAIRS}
use Rattle.work_area.specs.State.{ordered_kept, MadePlaced}
use Rattle.run_rows.specs.Shared.{may_share, inside_out}
use Rattle.flags_location.specs.Given.{Reaching}
use Rattle.flags_location.specs.Reach.{MadeReach, reaching_kept}

-- ---- definitions

-- what L4 and L5 tell of a pair, whatever the byte; pairs that share none are not asked
unfoldable pub hosted : Table → ℕ → ℕ → Bool
hosted t x y = may_share x y (t.row x) (t.row y) and (L4 t x y or L5 t x y)

-- what the bits of a pair are made from
pub record Prepared (t : Table) (n : ℕ) (w : List ℕ) : Type 0 where
  pub reaching : Reaching t n w
  pub hosting : Holds HOSTED GRID n (hosted t) w

-- ---- laws: pairs that no byte need be asked of

share_common : (x y : ℕ) (r q : Row) (b : ℕ) → (not (eqb x y) and common r q b) ≡ true → may_share x y r q ≡ true
unfolding may_share common touches
share_common x y r q b e =
    let f = split e in
    let g = split f.1 in
    let h = inside_out _ _ b (split g.0).1 in
    let k = inside_out _ _ b g.1 in
    let a = h.0 in
    let c = h.1 in
    let d = k.0 in
    let o = k.1 in
    and_true (and_true f.0 (lt-ltb r.start (q.start + q.size) (omega arith))) (lt-ltb q.start (r.start + r.size) (omega arith))

-- the last two of three exchanged
or_last : (a b c : Bool) → (a or b or c) ≡ (a or c or b)
unfolding ◌or◌
or_last true b c = refl
or_last false true true = refl
or_last false true false = refl
or_last false false true = refl
or_last false false false = refl

module _ (t : Table) (x y : ℕ) (r q : Row) (er : r ≡ t.row x) (eq : q ≡ t.row y) where
  pub before_off : (b : ℕ) → (not (eqb x y) and common r q b) ≡ false → before t x y b ≡ false
  unfolding before
  before_off b e = rw (← er, ← eq) (and_false_left _ _ e)

  -- rows that share a byte are asked of L4 and L5
  hosted_is : (b : ℕ) → (not (eqb x y) and common r q b) ≡ true → hosted t x y ≡ (L4 t x y or L5 t x y)
  unfolding hosted ◌and◌
  hosted_is b e = rw (← er, ← eq, share_common x y r q b e) refl

  -- a, c, g and d are what L1, L2, L4 with L5, and L3 tell
  module _ (b : ℕ) (h a c g : Bool) (apart : (not (eqb x y) and common r q b) ≡ true)
      (happening : h ≡ happens t (itself x) (itself y)) (hosting : g ≡ hosted t x y) where
    first_is : a ≡ (eqb r.agent q.agent and same_reference r q and h) → a ≡ L1 t x y
    unfolding L1 same_agent
    first_is f = rw (← er, ← eq, ← happening) f

    second_is : c ≡ (pure_read r q and h) → c ≡ L2 t x y
    unfolding L2
    second_is f = rw (← er, ← eq, ← happening) f

    told : (d : Bool) → a ≡ (eqb r.agent q.agent and same_reference r q and h) → c ≡ (pure_read r q and h) → d ≡ L3 t x y b
        → (a or c or g or d) ≡ before t x y b
    unfolding before ◌and◌
    told d e f l =
        rw (
          ← er,
          ← eq,
          apart,
          ← first_is e,
          ← second_is f,
          ← l,
          or_assoc (a or c or d) (L4 t x y) (L5 t x y),
          ← hosted_is b apart,
          ← hosting,
        ) (or_last (a or c) g d)

    pub before_first : a ≡ (eqb r.agent q.agent and same_reference r q and h) → c ≡ (pure_read r q and h) → (a or c or g) ≡ true
        → true ≡ before t x y b
    before_first e f o = sym (or_left _ o) ∙ told (L3 t x y b) e f refl

    pub before_third : (d : Bool) → a ≡ (eqb r.agent q.agent and same_reference r q and h) → c ≡ (pure_read r q and h) → (a or c or g) ≡ false
        → d ≡ L3 t x y b → d ≡ before t x y b
    before_third d e f o l = sym (or_fresh (a or c or g) d o) ∙ told d e f l

  -- the k-th byte of x
  pub nth_is : (k : ℕ) → before t x y (r.start + k) ≡ before_nth t x y k
  unfolding before_nth
  nth_is k = rw er refl

  pub pair_off : may_share x y r q ≡ false → (k : ℕ) → before_nth t x y k ≡ false
  pair_off e k = sym (nth_is k) ∙ before_off (r.start + k) (not_so _ (λ c. not_both (share_common x y r q (r.start + k) c) e))

-- a row of bits of which none is to be set
pub row_off : (p : ℕ → Bool) (w : List ℕ) (at n : ℕ) → ((k : ℕ) → p k ≡ false) → w ≡ row_fill p w at n
unfolding row_fill set_bit_if
row_off p w at zero f = refl
row_off p w at (suc n) f = rw (f n) (row_off p w at n f)

-- the frames of a row of bits and of a grid that are filled
pub within_row : {w u : List ℕ} (c d : ℕ) (p : ℕ → Bool) (at n : ℕ) → 64 * c ≤ at → at + n ≤ 64 * d → u ≡ row_fill p w at n → Within c d w u
within_row {w} c d p at n l h e = rw e (within_row_fill c d p w at n l h)

pub within_grid : {w u : List ℕ} (c d : ℕ) (p : ℕ → ℕ → Bool) (at m n : ℕ) → 64 * c ≤ at → at + n * m ≤ 64 * d → u ≡ grid_fill p w at m m n → Within c d w u
within_grid {w} c d p at m n l h e = rw e (within_grid_fill c d p w at m m n (omega arith) l h)

-- a change in the bits of pairs keeps what they are made from
pub prepared_kept : {t : Table} {n : ℕ} {w u : List ℕ} → Within LOCATION LOCATION_END w u → Prepared t n w → Prepared t n u
prepared_kept f o = record { reaching = reaching_kept f o.reaching; hosting = holds_kept (λ h. omega arith) f o.hosting }

-- L4 and L5 were told, then the reach of chains, then the cube was made; what lies before is kept
pub made_prepared : {t : Table} {n : ℕ} {w u : List ℕ} → Holds HOSTED GRID n (hosted t) w → MadeReach t n w u → Prepared t n u
made_prepared {n = n} h m =
    let l : n ≤ 64 * GRID = h.fits in
    record { reaching = m.reaching; hosting = holds_kept (λ h. omega arith) m.frame h }

pub made_placed : {t : Table} {n : ℕ} {w x v u : List ℕ} → Made HOSTED REACHED_END HOSTED GRID n (hosted t) w x → MadeReach t n x v
    → MadeCube LOCATION LOCATION_END LOCATION PAIRS PAIR n (before_nth t) v u → MadePlaced t n w u
made_placed h r m =
    record {
      placed = record { mutuals = (ordered_kept (omega arith) m.frame r.reaching.ordered).mutuals; location = m.cube };
      frame =
          within_trans
          (within_trans (within_widen LOCATION LOCATED_END (omega arith) (omega arith) h.frame)
          (within_widen LOCATION LOCATED_END (omega arith) (omega arith) r.frame))
          (within_widen LOCATION LOCATED_END (omega arith) (omega arith) m.frame);
    }
