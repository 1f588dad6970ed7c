-- Mutually-ordered atomics as sets of rows. Assumes nothing.
use Rattle.std.specs.Prelude.{◌≡◌, true, not, List, ℕ, ◌+◌, ◌*◌, ◌<◌, eqb}
use Rattle.std.proofs.Common.{ap, ◌∙◌}
use Rattle.finite.specs.Logic.{◌and◌, bool_ext, split, and_true, and_right}
use Rattle.model.specs.Row.{access, atomic}
use Rattle.model.specs.Scope.{mutual_rows, mutually}
use Rattle.model.specs.Table.{Table}
use Rattle.model_laws.specs.PairLaws.{eqb_swap}
use Rattle.sets_of_rows.specs.declared.Set.{Set}
use Rattle.sets_of_rows.specs.Member.{in_set}
use Rattle.sets_of_rows.specs.Kept.{set_at}
use Rattle.sets_of_rows.specs.Rows.{Rows, rows_at, rows_cong, rows_and, rows_cut}
use Rattle.sets_of_table.specs.Tested.{ATOMIC}
use Rattle.sets_of_table.specs.Known.{PLACE, Opened, same_place, at_together, says_rows}

atomic_access : (t : Table) (i : ℕ) → atomic (t.row i) ≡ true → access (t.row i) ≡ true
unfolding atomic access
atomic_access t i e = and_right _ _ e

both_ways : (t : Table) (i j : ℕ) → atomic (t.row i) ≡ true → (same_place t i j and atomic (t.row j) and at_together t i j and not (eqb j i)) ≡ mutually t i j
unfolding same_place at_together mutually mutual_rows
both_ways t i j a =
    bool_ext _ _
    (λ e.
    let b = split e in
    let c = split b.0 in
    let d = split c.0 in
    let f = split d.0 in
    and_true (ap not (eqb_swap i j) ∙ b.1) (and_true (and_true (and_true a d.1) f.1) c.1))
    (λ e.
    let b = split e in
    let c = split b.1 in
    let d = split c.0 in
    let f = split d.0 in
    and_true (and_true (and_true (and_true (atomic_access t j f.1) d.1) f.1) c.1) (ap not (eqb_swap j i) ∙ b.0))

-- what is mutually-ordered with the atomic i
pub mutual_rows_lem : {t : Table} {n : ℕ} {s : List ℕ} → Opened t n s → (i : ℕ) (a b c d e z : Set) → i < n → atomic (t.row i) ≡ true → a ≡ set_at s (PLACE + 2 * i)
    → b ≡ set_at s ATOMIC → ((j : ℕ) → in_set c j ≡ (in_set a j and in_set b j)) → Rows n (at_together t i) d → ((j : ℕ) → in_set e j ≡ (in_set c j and in_set d j))
    → ((j : ℕ) → in_set z j ≡ (in_set e j and not (eqb j i))) → Rows n (mutually t i) z
mutual_rows_lem {t} o i a b c d e z l at f g h k m q =
    rows_cong (λ j v. both_ways t i j at)
    (rows_cut (λ j. not (eqb j i))
    (rows_and (rows_and (rows_at f (o.known.place i l (atomic_access t i at))) (rows_at g (says_rows o.known.tested.kinds.atomic)) h) k m) q)

-- nothing is mutually-ordered with a row that is no atomic
pub mutual_only : (t : Table) (i j : ℕ) → mutually t i j ≡ true → atomic (t.row i) ≡ true
unfolding mutually mutual_rows
mutual_only t i j e = (split (split (split (split e).1).0).0).0

pub mutual_both : (t : Table) (i j : ℕ) → mutually t i j ≡ true → (atomic (t.row i) ≡ true) × (atomic (t.row j) ≡ true)
unfolding mutually mutual_rows
mutual_both t i j e = split (split (split (split e).1).0).0
