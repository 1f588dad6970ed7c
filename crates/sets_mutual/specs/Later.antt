-- Scoped modification order as sets of rows. Assumes nothing.
use Rattle.std.specs.Prelude.{◌≡◌, Bool, true, false, List, ◌⊎◌, ℕ, ◌+◌, ◌*◌, ◌<◌, eqb, leb}
use Rattle.std.proofs.Common.{sym, ap, ◌∙◌, inl, inr, arith, eqb-true}
use Rattle.std.proofs.lemmas.Bool.{lt-leb}
use Rattle.finite.specs.Logic.{◌and◌, ◌or◌, bool_ext, split, and_true, and_on, and_left, or_off, which, not_both}
use Rattle.model.specs.declared.Row.{Row}
use Rattle.model.specs.Row.{atomic, writes, ranked}
use Rattle.model.specs.Scope.{mutually, later, later_writer, follows}
use Rattle.model.specs.Table.{Table}
use Rattle.work_area.specs.Regions.{MUTUAL}
use Rattle.sets_of_rows.specs.declared.Set.{Set}
use Rattle.sets_of_rows.specs.Member.{in_set}
use Rattle.sets_of_rows.specs.Kept.{set_at}
use Rattle.sets_of_rows.specs.Rows.{Rows, rows_at, rows_cong, rows_and, rows_cut}
use Rattle.sets_of_table.specs.Tested.{RANKED}
use Rattle.sets_of_table.specs.Known.{Opened, says_rows}
use Rattle.sets_grids.specs.Grid.{Grid, grid_at}
use Rattle.sets_mutual.specs.Mutual.{mutual_both}

-- ---- definitions

-- row j's rank is later than row i's
unfoldable pub later_rank : Table → ℕ → ℕ → Bool
later_rank t i j = later t.counted (t.row j).rank (t.row i).rank

-- ---- laws

pub add_yes : (b : Bool) (r o z : Set) (i : ℕ) → b ≡ true → ((j : ℕ) → in_set o j ≡ eqb j i) → ((j : ℕ) → in_set z j ≡ (in_set r j or in_set o j))
    → (j : ℕ) → in_set z j ≡ (in_set r j or (b and eqb j i))
add_yes b r o z i e f h j = h j ∙ ap (λ (v : Bool). in_set r j or v) (f j ∙ sym (and_on b (eqb j i) e))

pub add_no : (b : Bool) (r : Set) (i : ℕ) → b ≡ false → (j : ℕ) → in_set r j ≡ (in_set r j or (b and eqb j i))
unfolding ◌and◌
add_no b r i e j = sym (or_off (in_set r j) (b and eqb j i) (ap (λ (v : Bool). v and eqb j i) e))

-- an atomic that writes has a rank
writes_is : (r : Row) → atomic r ≡ true → writes r ≡ ranked r
unfolding atomic writes ranked ◌or◌
writes_is r a = go (which (eqb r.kind 1))
  where
    go : (eqb r.kind 1 ≡ true) ⊎ (eqb r.kind 1 ≡ false) → writes r ≡ ranked r
    go (inl e) =
        let k : r.kind ≡ 1 = eqb-true r.kind 1 e in
        not_both (and_left (leb 2 r.kind) (leb r.kind 4) a) (lt-leb 2 r.kind (omega arith))
    go (inr e) = ap (λ (v : Bool). v or eqb r.kind 3 or eqb r.kind 4) e

both_ways : (t : Table) (i j : ℕ) → ranked (t.row i) ≡ true → (mutually t i j and ranked (t.row j) and later_rank t i j) ≡ follows t i j
unfolding follows later_writer later_rank
both_ways t i j r =
    bool_ext _ _
    (λ e.
    let a = split e in
    let b = split a.0 in
    let m = mutual_both t i j b.0 in
    and_true b.0 (and_true (and_true (writes_is (t.row j) m.1 ∙ b.1) (writes_is (t.row i) m.0 ∙ r)) a.1))
    (λ e.
    let a = split e in
    let b = split a.1 in
    let c = split b.0 in
    let m = mutual_both t i j a.0 in
    and_true (and_true a.0 (sym (writes_is (t.row j) m.1) ∙ c.0)) b.1)

-- what follows the writer i
pub later_rows : {t : Table} {n : ℕ} {s w : List ℕ} → Opened t n s → Grid MUTUAL n (mutually t) w → (i : ℕ) (a b c z : Set) → i < n → ranked (t.row i) ≡ true
    → a ≡ set_at w (MUTUAL + 2 * i) → b ≡ set_at s RANKED → ((j : ℕ) → in_set c j ≡ (in_set a j and in_set b j))
    → ((j : ℕ) → in_set z j ≡ (in_set c j and later_rank t i j)) → Rows n (follows t i) z
later_rows {t} o g i a b c z l r e f h k =
    rows_cong (λ j v. both_ways t i j r)
    (rows_cut (later_rank t i) (rows_and (grid_at g l e) (rows_at f (says_rows o.known.tested.kinds.ranked)) h) k)

-- nothing follows a row that has no rank
pub later_only : (t : Table) (i j : ℕ) → follows t i j ≡ true → ranked (t.row i) ≡ true
unfolding follows later_writer
later_only t i j e =
    let a = split e in
    let b = split a.1 in
    sym (writes_is (t.row i) (mutual_both t i j a.0).0) ∙ (split b.0).1
