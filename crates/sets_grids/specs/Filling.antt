-- A grid that was filled from the members of a set holds a relation of the model. Assumes nothing.
use Rattle.std.specs.Prelude.{◌≡◌, Bool, true, List, ℕ, ◌+◌, ◌*◌, ◌≤◌, ◌<◌, ltb, eqb}
use Rattle.std.proofs.Common.{sym, ap, ◌∙◌, arith, ltb-true}
use Rattle.finite.specs.Logic.{◌and◌, ◌or◌, bool_ext, split, and_true}
use Rattle.model.specs.Limits.{ROWS}
use Rattle.sets_of_rows.specs.declared.Set.{Set}
use Rattle.sets_of_rows.specs.Member.{in_set}
use Rattle.sets_of_rows.specs.Family.{nth}
use Rattle.sets_of_rows.specs.Rows.{Rows, rows_in_lem}
use Rattle.sets_of_rows.specs.Filling.{Filled}
use Rattle.sets_grids.specs.Grid.{MadeGrid}

-- a member of a set of rows is one of them, and passes
pub member_in : {n : ℕ} {p : ℕ → Bool} {x : Set} (i : ℕ) → Rows n p x → in_set x i ≡ true → (i < n) × (p i ≡ true)
member_in {n} i h e =
    let a = split (sym (h.is i) ∙ e) in
    (ltb-true i n a.0, a.1)

-- row i was taken in where b says so
pub one_more : (b : Bool) (r o q z : Set) (i : ℕ) → ((j : ℕ) → in_set o j ≡ eqb j i) → ((j : ℕ) → in_set q j ≡ (b and in_set o j)) → ((j : ℕ) → in_set z j ≡ (in_set r j or in_set q j))
    → (j : ℕ) → in_set z j ≡ (in_set r j or (b and eqb j i))
one_more b r o q z i e f g j = g j ∙ ap (λ (v : Bool). in_set r j or v) (f j ∙ ap (λ (v : Bool). b and v) (e j))

-- a set x, of which row k's set z is put where k is a member: where r leads from no other row, the grid was made to hold r
pub filled_made : {base n : ℕ} {x : Set} {on : ℕ → Bool} {w u : List ℕ} (r : ℕ → ℕ → Bool) → n ≤ ROWS → Rows n on x
    → ((i j : ℕ) → i < n → j < n → r i j ≡ true → on i ≡ true)
    → Filled base x (λ i j. ltb j n and r i j) w u → MadeGrid base (base + 2 * ROWS) base n r w u
filled_made {base} {n} {x} {on} {w} {u} r few h only f = record { grid = record { row = λ i l. record { is = λ j. here i j l } }; frame = f.frame }
  where
    under : (i j : ℕ) → i < n → (on i and (ltb j n and r i j)) ≡ (ltb j n and r i j)
    under i j l =
        bool_ext _ _ (λ e. (split e).1)
        (λ e. let d = split e in and_true (only i j l (ltb-true j n d.0) d.1) e)

    here : (i j : ℕ) → i < n → in_set (nth u base i) j ≡ (ltb j n and r i j)
    here i j l = f.is i j (omega arith) ∙ ap (λ (b : Bool). b and (ltb j n and r i j)) (rows_in_lem h i l) ∙ under i j l
