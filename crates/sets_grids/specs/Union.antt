-- The rows that a relation leads to from the members of a set. Assumes nothing.
use Rattle.std.specs.Prelude.{◌≡◌, Bool, true, List, ℕ, ◌≤◌, ◌<◌, ltb}
use Rattle.std.proofs.Common.{sym, ◌∙◌, arith, ltb-true, lt-ltb}
use Rattle.finite.specs.Logic.{◌and◌, bool_ext, split, and_true}
use Rattle.finite.specs.Below.{any_below, any_in, any_out}
use Rattle.model.specs.Limits.{ROWS}
use Rattle.sets_of_rows.specs.declared.Set.{Set}
use Rattle.sets_of_rows.specs.Member.{in_set}
use Rattle.sets_of_rows.specs.Rows.{Rows}
use Rattle.sets_of_rows.specs.Tasks.{leads}
use Rattle.sets_grids.specs.Grid.{GridOn}

-- ---- definitions

-- i passes p, and r leads from i to j
unfoldable pub led_by : (ℕ → Bool) → (ℕ → ℕ → Bool) → ℕ → ℕ → Bool
led_by p r j i = p i and r i j

-- ---- laws

-- what walk::union gives, where the grid holds r from the members
pub union_rows : {on p : ℕ → Bool} {base n : ℕ} {r : ℕ → ℕ → Bool} {w : List ℕ} {x z : Set} → n ≤ ROWS → GridOn on base n r w → Rows n p x
    → ((i : ℕ) → i < n → p i ≡ true → on i ≡ true) → ((j : ℕ) → in_set z j ≡ any_below ROWS (leads w base x j)) → Rows n (λ j. any_below n (led_by p r j)) z
unfolding led_by leads
union_rows {on} {p} {base} {n} {r} {w} {x} {z} few g h o e = record { is = λ j. e j ∙ bool_ext _ _ (out j) (back j) }
  where
    out : (j : ℕ) → any_below ROWS (leads w base x j) ≡ true → (ltb j n and any_below n (led_by p r j)) ≡ true
    out j t =
        let q = any_out (leads w base x j) ROWS t in
        let a = split q.2 in
        let b = split (sym (h.is q.0) ∙ a.0) in
        let l = ltb-true q.0 n b.0 in
        let c = split (sym ((g.row q.0 l (o q.0 l b.1)).is j) ∙ a.1) in
        and_true c.0 (any_in (led_by p r j) n q.0 l (and_true b.1 c.1))

    back : (j : ℕ) → (ltb j n and any_below n (led_by p r j)) ≡ true → any_below ROWS (leads w base x j) ≡ true
    back j t =
        let a = split t in
        let q = any_out (led_by p r j) n a.1 in
        let l = q.1 in
        let b = split q.2 in
        any_in (leads w base x j) ROWS q.0 (omega arith)
        (and_true (h.is q.0 ∙ and_true (lt-ltb q.0 n l) b.0) ((g.row q.0 l (o q.0 l b.0)).is j ∙ and_true a.0 b.1))
