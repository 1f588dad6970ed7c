-- A class set that no two of its rows synchronize for, in a table without dependencies, adds nothing to program order. For any
-- table. Assumes nothing.
use Rattle.std.specs.Prelude.{◌≡◌, false, ◌⊎◌, ℕ, ◌*◌, ◌<◌}
use Rattle.std.proofs.Math.Bool.{true}
use Rattle.std.proofs.Common.{inl, inr}
use Rattle.finite.specs.Logic.{not_both, split}
use Rattle.finite.specs.Closure.{Reach, one, more, through_reach}
use Rattle.model.specs.Table.{Table}
use Rattle.model.specs.Moment.{row_in, program_order}
use Rattle.model.specs.Happens.{by_sync, to_release, from_acquire, by_system, step, inter_thread}
use Rattle.model_laws.specs.CaseLaws.{step_out}
use Rattle.model_hubs.specs.Rows.{order_trans}

module _ (t : Table) (s : ℕ) (none : (m k : ℕ) → m < 3 * t.rows → k < 3 * t.rows → by_sync t s m k ≡ false)
    (free : (a b : ℕ) → t.depends a b ≡ false) where
  step_order : (m k : ℕ) → m < 3 * t.rows → k < 3 * t.rows → step t s m k ≡ true → program_order t m k ≡ true
  unfolding to_release from_acquire by_system
  step_order m k l o e = go (step_out t s m k e)
    where
      go : (by_sync t s m k ≡ true) ⊎ ((to_release t s m k ≡ true) ⊎ ((from_acquire t s m k ≡ true) ⊎ (by_system t m k ≡ true))) → program_order t m k ≡ true
      go (inl a) = not_both a (none m k l o)
      go (inr (inl a)) = (split a).1
      go (inr (inr (inl a))) = (split a).1
      go (inr (inr (inr a))) = not_both (split a).1 (free (row_in m) (row_in k))

  reach_order : {m k : ℕ} → m < 3 * t.rows → k < 3 * t.rows → Reach (step t s) (3 * t.rows) m k → program_order t m k ≡ true
  reach_order {m} {k} l o (one e) = step_order m k l o e
  reach_order {m} {k} l o (more {m = a} e h q) = order_trans t m a k (step_order m a l h e) (reach_order h o q)

  -- inter-thread order for it is program order
  pub inter_order : (m k : ℕ) → m < 3 * t.rows → k < 3 * t.rows → inter_thread t s m k ≡ true → program_order t m k ≡ true
  unfolding inter_thread
  inter_order m k l o e = reach_order l o ((through_reach (step t s) (3 * t.rows) m k).0 e)
