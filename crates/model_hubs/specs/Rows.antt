-- Inter-thread order over rows: the own moments of the rows that hold a class set are hubs of its direct cases, so that the closure
-- over moments is one over those rows; and from any other moment the first release row behind it that holds the set stands for
-- all. In a table with dependencies, every row is a hub. For any table and any number of rows. Assumes nothing.
use Rattle.std.specs.Prelude.{◌≡◌, true, cond, ℕ, ◌-◌, ◌*◌, ◌%◌, ◌<◌, ltb}
use Rattle.std.proofs.Common.{sym, ◌∙◌, arith}
use borrow.Author.Tests.{eqb-true, eq-eqb, ltb-true, lt-ltb}
use Rattle.finite.specs.Logic.{split, and_true, or_right}
use Rattle.model.specs.Table.{Table}
use Rattle.model.specs.Moment.{AT, row_in, part, itself, moment_in, program_ordered, program_order}
use Rattle.model.specs.Happens.{holding_of, concerns_of, holding, concerns}

-- ---- definitions

-- n hubs and then all moments, numbered one after the other
unfoldable pub column_at : ℕ → ℕ → ℕ
column_at n c = cond (ltb c n) (itself c) (c - n)

-- ---- laws: program order

pub order_ends : (t : Table) (m k : ℕ) → program_order t m k ≡ true → (m < 3 * t.rows) × (k < 3 * t.rows)
unfolding program_order program_ordered moment_in
order_ends t m k e =
    let l : row_in m < t.rows = ltb-true _ _ (split (split (split e).0).1).0 in
    let o : row_in k < t.rows = ltb-true _ _ (split (split e).1).0 in
    (omega arith, omega arith)

pub order_trans : (t : Table) (m k j : ℕ) → program_order t m k ≡ true → program_order t k j ≡ true → program_order t m j ≡ true
unfolding program_order program_ordered
order_trans t m k j e f =
    let a = split e in
    let b = split a.0 in
    let c = split b.0 in
    let u = split f in
    let z = split (split u.0).0 in
    let l = ltb-true m k c.0 in
    let o = ltb-true k j z.0 in
    and_true (and_true (and_true (lt-ltb m j (omega arith))
    (eq-eqb (t.row (row_in m)).agent (t.row (row_in j)).agent
    (eqb-true (t.row (row_in m)).agent (t.row (row_in k)).agent c.1
    ∙ eqb-true (t.row (row_in k)).agent (t.row (row_in j)).agent z.1))) b.1) u.1

-- of two moments behind one, the earlier is before the later
pub order_both : (t : Table) (m k j : ℕ) → program_order t m k ≡ true → program_order t m j ≡ true → k < j → program_order t k j ≡ true
unfolding program_order program_ordered
order_both t m k j e f l =
    let a = split e in
    let c = split (split a.0).0 in
    let u = split f in
    let z = split (split u.0).0 in
    and_true (and_true (and_true (lt-ltb k j l)
    (eq-eqb (t.row (row_in k)).agent (t.row (row_in j)).agent
    (sym (eqb-true (t.row (row_in m)).agent (t.row (row_in k)).agent c.1)
    ∙ eqb-true (t.row (row_in m)).agent (t.row (row_in j)).agent z.1))) a.1) u.1

-- ---- laws: a class set

module _ (t : Table) (s : ℕ) where
  -- a moment that holds all of s is its row's own, and concerns s
  pub holding_own : (m : ℕ) → holding t s m ≡ true → part m ≡ AT
  unfolding holding holding_of
  holding_own m e = eqb-true (m % 3) 1 (split (split e).0).0

  pub holding_concerns : (m : ℕ) → holding t s m ≡ true → concerns t s m ≡ true
  unfolding holding concerns concerns_of
  holding_concerns m e = or_right _ e
