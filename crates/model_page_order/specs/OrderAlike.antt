-- M1 to M7 of two tables that are alike: each rule, once. Assumes nothing.
use Rattle.std.specs.Prelude.{◌≡◌, Bool, ℕ, suc, ◌/◌, ltb}
use Rattle.std.proofs.Math.Path.{refl}
use Rattle.std.proofs.Common.{ap, eqb-true}
use Rattle.finite.specs.Logic.{◌and◌}
use Rattle.finite.specs.Below.{any_cong}
use Rattle.model.specs.declared.Row.{Row}
use Rattle.model.specs.Limits.{CLASS_SETS}
use Rattle.model.specs.Table.{Table}
use Rattle.model.specs.Scope.{mutually, follows}
use Rattle.model.specs.Moment.{moment_in, program_ordered, availability, visibility, same_agent, program_order}
use Rattle.model.specs.Synchronizes.{ends, sequence, takes_from, leads, trails, sync_atomics, carries_out, sync_from_barrier, carries_in, sync_to_barrier}
use Rattle.model.specs.Synchronizes.{carries_over, sync_barriers, up_to, joins, arrives, passes, sync_control, synchronizes}
use Rattle.model.specs.Happens.{holding, concerns, by_sync, to_release, from_acquire, by_system, CASES, direct, nth_case, step, inter_thread}
use Rattle.model.specs.Happens.{inter_thread_by, happens}
use Rattle.model_page_order.specs.Renumber.{Renumbering, row_of, part_of, eqb_to, ltb_to}
use Rattle.model_page_order.specs.Alike.{Alike, and_left_so, ltb_kept, leb_kept, mo, row_at, ltb_moment, some_row, moment_path}

module _ {t u : Table} {π : Renumbering t.rows} (M : Alike t u π) where
  -- ---- M3

  pub mutually_alike : (x y : ℕ) → mutually u (π.to x) (π.to y) ≡ mutually t x y
  unfolding mutually
  mutually_alike x y = rw (eqb_to π x y, M.places, M.row x, M.row y) refl

  pub follows_alike : (x y : ℕ) → follows u (π.to x) (π.to y) ≡ follows t x y
  unfolding follows
  follows_alike x y = rw (mutually_alike x y, M.row x, M.row y, M.counted) refl

  -- ---- M4

  ends_alike : (a w z : ℕ) → ends u (π.to a) (π.to w) (π.to z) ≡ ends t a w z
  unfolding ends
  ends_alike a w z = rw (follows_alike a z, M.row z, M.row w, M.counted) refl

  sequence_alike : (a w : ℕ) → sequence u (π.to a) (π.to w) ≡ sequence t a w
  unfolding sequence
  sequence_alike a w = rw (eqb_to π a w, follows_alike a w, some_row M (ends t a w) (ends u (π.to a) (π.to w)) (ends_alike a w)) refl

  takes_alike : (x y : ℕ) → takes_from u (π.to x) (π.to y) ≡ takes_from t x y
  unfolding takes_from
  takes_alike x y = rw (mutually_alike x y, M.row x, M.row y, M.source y, sequence_alike x (t.source y), M.rows, ltb_to π (t.source y)) refl

  -- ---- M5

  -- x is program-ordered before y
  pub earlier_alike : (x y : ℕ) → (ltb (π.to x) (π.to y) and same_agent u (π.to x) (π.to y)) ≡ (ltb x y and same_agent t x y)
  unfolding same_agent
  earlier_alike x y = rw (M.row x, M.row y) (and_left_so _ _ _ (λ e. ltb_kept M x y (eqb-true _ _ e)))

  leads_alike : (a x : ℕ) → leads u (π.to a) (π.to x) ≡ leads t a x
  unfolding leads
  leads_alike a x = rw (earlier_alike a x, M.row x, M.row a) refl

  trails_alike : (b y : ℕ) → trails u (π.to b) (π.to y) ≡ trails t b y
  unfolding trails
  trails_alike b y = rw (earlier_alike y b, M.row b, M.row y) refl

  atomics_alike : (a b : ℕ) → sync_atomics u (π.to a) (π.to b) ≡ sync_atomics t a b
  unfolding sync_atomics
  atomics_alike a b = rw (takes_alike a b, M.row a, M.row b) refl

  out_alike : (a b x : ℕ) → carries_out u (π.to a) (π.to b) (π.to x) ≡ carries_out t a b x
  unfolding carries_out
  out_alike a b x = rw (leads_alike a x, takes_alike x b) refl

  from_barrier_alike : (a b : ℕ) → sync_from_barrier u (π.to a) (π.to b) ≡ sync_from_barrier t a b
  unfolding sync_from_barrier
  from_barrier_alike a b = rw (M.row a, M.row b, some_row M (carries_out t a b) (carries_out u (π.to a) (π.to b)) (out_alike a b), M.places) refl

  in_alike : (a b y : ℕ) → carries_in u (π.to a) (π.to b) (π.to y) ≡ carries_in t a b y
  unfolding carries_in
  in_alike a b y = rw (trails_alike b y, takes_alike a y) refl

  to_barrier_alike : (a b : ℕ) → sync_to_barrier u (π.to a) (π.to b) ≡ sync_to_barrier t a b
  unfolding sync_to_barrier
  to_barrier_alike a b = rw (M.row a, M.row b, some_row M (carries_in t a b) (carries_in u (π.to a) (π.to b)) (in_alike a b), M.places) refl

  over_alike : (a b x : ℕ) → carries_over u (π.to a) (π.to b) (π.to x) ≡ carries_over t a b x
  unfolding carries_over
  over_alike a b x = rw (leads_alike a x, some_row M (carries_in t x b) (carries_in u (π.to x) (π.to b)) (in_alike x b)) refl

  barriers_alike : (a b : ℕ) → sync_barriers u (π.to a) (π.to b) ≡ sync_barriers t a b
  unfolding sync_barriers
  barriers_alike a b = rw (
    eqb_to π a b,
    M.row a,
    M.row b,
    some_row M (carries_over t a b) (carries_over u (π.to a) (π.to b)) (over_alike a b),
    M.places,
  ) refl

  -- x is program-ordered before y, or is y
  upto_alike : (x y : ℕ) → up_to u (π.to x) (π.to y) ≡ up_to t x y
  unfolding up_to same_agent
  upto_alike x y = rw (M.row x, M.row y) (and_left_so _ _ _ (λ e. leb_kept M x y (eqb-true _ _ e)))

  joins_alike : (c d : ℕ) → joins u (π.to c) (π.to d) ≡ joins t c d
  unfolding joins
  joins_alike c d = rw (eqb_to π c d, M.row c, M.row d, M.places) refl

  arrives_alike : (b c d : ℕ) → arrives u (π.to b) (π.to c) (π.to d) ≡ arrives t b c d
  unfolding arrives
  arrives_alike b c d = rw (upto_alike d b, joins_alike c d) refl

  passes_alike : (a b c : ℕ) → passes u (π.to a) (π.to b) (π.to c) ≡ passes t a b c
  unfolding passes
  passes_alike a b c = rw (upto_alike a c, some_row M (arrives t b c) (arrives u (π.to b) (π.to c)) (arrives_alike b c)) refl

  control_alike : (a b : ℕ) → sync_control u (π.to a) (π.to b) ≡ sync_control t a b
  unfolding sync_control
  control_alike a b = rw (eqb_to π a b, M.row a, M.row b, some_row M (passes t a b) (passes u (π.to a) (π.to b)) (passes_alike a b), M.places) refl

  synchronizes_alike : (a b : ℕ) → synchronizes u (π.to a) (π.to b) ≡ synchronizes t a b
  unfolding synchronizes
  synchronizes_alike a b = rw (M.row a, M.row b, atomics_alike a b, from_barrier_alike a b, to_barrier_alike a b, barriers_alike a b, control_alike a b) refl

  -- ---- M1

  pub availability_alike : (m : ℕ) → availability u (mo M m) ≡ availability t m
  unfolding availability
  availability_alike m = rw (row_at M m, part_of π.to m) refl

  pub visibility_alike : (m : ℕ) → visibility u (mo M m) ≡ visibility t m
  unfolding visibility
  visibility_alike m = rw (row_at M m, part_of π.to m) refl

  -- a moment of the table
  in_table : (r : Row) (m : ℕ) → moment_in u.rows r (mo M m) ≡ moment_in t.rows r m
  unfolding moment_in
  in_table r m = rw (row_of π.to m, part_of π.to m, M.rows, ltb_to π (m / 3)) refl

  pub order_alike : (m k : ℕ) → program_order u (mo M m) (mo M k) ≡ program_order t m k
  unfolding program_order program_ordered
  order_alike m k =
      rw (row_at M m, row_at M k, in_table (t.row (m / 3)) m, in_table (t.row (k / 3)) k)
      (ap (λ (a : Bool). a and moment_in t.rows (t.row (m / 3)) m and moment_in t.rows (t.row (k / 3)) k)
      (and_left_so _ _ _ (λ e. ltb_moment M m k (eqb-true _ _ e))))

  -- ---- M6

  holding_alike : (s m : ℕ) → holding u s (mo M m) ≡ holding t s m
  unfolding holding
  holding_alike s m = rw (row_at M m, part_of π.to m) refl

  concerns_alike : (s m : ℕ) → concerns u s (mo M m) ≡ concerns t s m
  unfolding concerns
  concerns_alike s m = rw (row_at M m, part_of π.to m) refl

  sync_alike : (s m k : ℕ) → by_sync u s (mo M m) (mo M k) ≡ by_sync t s m k
  unfolding by_sync
  sync_alike s m k = rw (holding_alike s m, holding_alike s k, row_of π.to m, row_of π.to k, synchronizes_alike (m / 3) (k / 3)) refl

  release_alike : (s m k : ℕ) → to_release u s (mo M m) (mo M k) ≡ to_release t s m k
  unfolding to_release
  release_alike s m k = rw (holding_alike s k, row_at M k, concerns_alike s m, order_alike m k) refl

  acquire_alike : (s m k : ℕ) → from_acquire u s (mo M m) (mo M k) ≡ from_acquire t s m k
  unfolding from_acquire
  acquire_alike s m k = rw (holding_alike s m, row_at M m, concerns_alike s k, order_alike m k) refl

  system_alike : (m k : ℕ) → by_system u (mo M m) (mo M k) ≡ by_system t m k
  unfolding by_system
  system_alike m k = rw (part_of π.to m, part_of π.to k, row_of π.to m, row_of π.to k, M.depends (m / 3) (k / 3)) refl

  case_alike : (s m k c : ℕ) → nth_case u s (mo M m) (mo M k) c ≡ nth_case t s m k c
  unfolding nth_case direct
  case_alike s m k c = rw (sync_alike s m k, release_alike s m k, acquire_alike s m k, system_alike m k) refl

  step_alike : (s m k : ℕ) → step u s (mo M m) (mo M k) ≡ step t s m k
  unfolding step
  step_alike s m k = any_cong (nth_case u s (mo M m) (mo M k)) (nth_case t s m k) CASES (λ c l. case_alike s m k c)

  inter_alike : (s m k : ℕ) → inter_thread u s (mo M m) (mo M k) ≡ inter_thread t s m k
  unfolding inter_thread
  inter_alike s m k = moment_path M (step t s) (step u s) (step_alike s) m k

  by_alike : (m k c : ℕ) → inter_thread_by u (mo M m) (mo M k) c ≡ inter_thread_by t m k c
  unfolding inter_thread_by
  by_alike m k c = inter_alike (suc c) m k

  -- ---- M7

  pub happens_alike : (m k : ℕ) → happens u (mo M m) (mo M k) ≡ happens t m k
  unfolding happens
  happens_alike m k =
      rw (order_alike m k, any_cong (inter_thread_by u (mo M m) (mo M k)) (inter_thread_by t m k) CLASS_SETS (λ c l. by_alike m k c)) refl
