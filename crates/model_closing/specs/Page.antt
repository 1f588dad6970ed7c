-- Where synchronizes-with and dependencies lead down the page, so does happens-before, and inside one agent it is program order. For any
-- table and any number of rows. Assumes nothing.
use Rattle.std.specs.Prelude.{◌≡◌, ◌⊎◌, ℕ, ◌*◌, ◌%◌, ◌<◌}
use Rattle.std.proofs.Math.Bool.{true}
use Rattle.std.proofs.Common.{inl, inr, arith, eqb-true}
use Rattle.finite.specs.Logic.{split}
use Rattle.finite.specs.Closure.{Reach, one, more, through_reach}
use Rattle.model.specs.Table.{Table}
use Rattle.model.specs.Moment.{AT, row_in, part, itself, moment, program_order}
use Rattle.model.specs.Happens.{by_sync, to_release, from_acquire, by_system, step, inter_thread}
use Rattle.model_laws.specs.CaseLaws.{step_out}
use Rattle.model_hubs.specs.Rows.{holding_own}
use Rattle.model_closing.specs.Order.{own_moment, order_parts}

own : (m : ℕ) → part m ≡ AT → itself (row_in m) ≡ m
own m e = omega arith

-- a row's own moment is one
at_moment : (t : Table) (m : ℕ) → m < 3 * t.rows → part m ≡ AT → moment t m ≡ true
at_moment t m l e = let o = own m e in rw (← o) (own_moment t (row_in m) (omega arith))

module _ (t : Table) (s : ℕ) where
  -- a direct case leads from a moment that there is to one that there is
  step_moments : (m k : ℕ) → m < 3 * t.rows → k < 3 * t.rows → step t s m k ≡ true → (moment t m ≡ true) × (moment t k ≡ true)
  unfolding by_sync to_release from_acquire by_system
  step_moments m k l o e = go (step_out t s m k e)
    where
      ordered : program_order t m k ≡ true → (moment t m ≡ true) × (moment t k ≡ true)
      ordered a = let b = order_parts t m k a in (b.2, b.3)

      go : (by_sync t s m k ≡ true) ⊎ ((to_release t s m k ≡ true) ⊎ ((from_acquire t s m k ≡ true) ⊎ (by_system t m k ≡ true)))
          → (moment t m ≡ true) × (moment t k ≡ true)
      go (inl a) = let b = split (split a).0 in (at_moment t m l (holding_own t s m b.0), at_moment t k o (holding_own t s k b.1))
      go (inr (inl a)) = ordered (split a).1
      go (inr (inr (inl a))) = ordered (split a).1
      go (inr (inr (inr a))) =
          let b = split (split a).0 in
          (at_moment t m l (eqb-true (m % 3) 1 b.0), at_moment t k o (eqb-true (k % 3) 1 b.1))

  reach_moments : {m k : ℕ} → m < 3 * t.rows → k < 3 * t.rows → Reach (step t s) (3 * t.rows) m k → (moment t m ≡ true) × (moment t k ≡ true)
  reach_moments {m} {k} l o (one e) = step_moments m k l o e
  reach_moments {m} {k} l o (more {m = a} e h q) = ((step_moments m a l h e).0, (reach_moments h o q).1)

  pub inter_moments : (m k : ℕ) → m < 3 * t.rows → k < 3 * t.rows → inter_thread t s m k ≡ true → (moment t m ≡ true) × (moment t k ≡ true)
  unfolding inter_thread
  inter_moments m k l o e = reach_moments l o ((through_reach (step t s) (3 * t.rows) m k).0 e)
