-- The lowest direct case on rows that are decoded already, and that it is the table's. Assumes nothing.
use Rattle.std.specs.Prelude.{◌≡◌, Bool, List}
use Rattle.std.proofs.Math.Path.{refl, ap}
use Rattle.std.proofs.Common.{◌∙◌, arith}
use Prim.Native.Nat.{ℕ, suc, ◌+◌, ◌*◌, ◌/◌, ◌%◌, ◌≤◌, ◌<◌}
use Rattle.finite.specs.Below.{least, least_is, least_cong}
use Rattle.bits.specs.Bit.{bit}
use Rattle.bits.specs.Stage.{holds_bit}
use Rattle.model.specs.declared.Row.{Row}
use Rattle.model.specs.Limits.{CASE}
use Rattle.model.specs.Table.{Mode, decode, row_of}
use Rattle.model.specs.Moment.{row_in, part, program_order}
use Rattle.model.specs.Synchronizes.{synchronizes}
use Rattle.model.specs.Happens.{ROW_CASES, CASES}
use Rattle.model.specs.Reason.{lowest_case, step_number}
use Rattle.run_rows.specs.Cases.{nth_case_rows, nth_is}
use Rattle.work_area.specs.Regions.{SYNC, GRID}
use Rattle.work_area.specs.Synced.{Synced}

-- ---- definitions

-- M6: the lowest case that leads from the moment `from` of r to the moment `to` of q, the last if none of those that go by rows does; b
-- says that r synchronizes-with q, o that the one moment is program-ordered before the other
unfoldable pub lowest_rows : ℕ → ℕ → ℕ → Row → Row → Bool → Bool → ℕ
lowest_rows s from to r q b o = suc (least ROW_CASES (nth_case_rows s from to r q b o))

-- ---- laws

pub case_small : (s from to : ℕ) (r q : Row) (b o : Bool) → lowest_rows s from to r q b o ≤ CASES
unfolding lowest_rows
case_small s from to r q b o = let h = (least_is (nth_case_rows s from to r q b o) ROW_CASES).bound in omega arith

-- on rows and order that were read
pub case_told : (s from to d : ℕ) (r q x y : Row) (b o v : Bool) → d ≡ lowest_rows s from to r q b o → r ≡ x → q ≡ y → o ≡ v → d ≡ lowest_rows s from to x y b v
case_told s from to d r q x y b o v f e g h = rw (← e, ← g, ← h) f

module _ (b : List ℕ) (p : List (List ℕ)) (mode : Mode) (n : ℕ) where
  case_is : (s m k : ℕ)
      → lowest_case (decode b p mode n) s m k
      ≡ lowest_rows s (part m) (part k) (row_of b (row_in m)) (row_of b (row_in k)) (synchronizes (decode b p mode n) (row_in m) (row_in k))
      (program_order (decode b p mode n) m k)
  unfolding lowest_case lowest_rows
  case_is s m k = ap suc (least_cong _ _ ROW_CASES (nth_is b p mode n s m k))

  -- the number of a step, with the bit of the work area
  pub number_is : (w : List ℕ) (s m k i d : ℕ) (v : Bool) → Synced (decode b p mode n) n w → m < 3 * n → k < 3 * n
      → i ≡ (SYNC + m / 3 * GRID) * 64 + k / 3 → v ≡ bit w i
      → d ≡ lowest_rows s (m % 3) (k % 3) (row_of b (m / 3)) (row_of b (k / 3)) v (program_order (decode b p mode n) m k)
      → CASE * d + k ≡ step_number (decode b p mode n) s m k
  unfolding step_number
  number_is w s m k i d v synced first_there second_there at bit_is lowest =
      let g : v ≡ synchronizes (decode b p mode n) (m / 3) (k / 3) =
      bit_is ∙ holds_bit synced.syncs i (m / 3) (k / 3) at (omega arith) (omega arith) in
      rw (case_is s m k, ← g, ← lowest) refl
