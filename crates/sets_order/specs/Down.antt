-- Which way a grid leads. Assumes nothing.
use Rattle.std.specs.Prelude.{◌≡◌, Bool, true, false, not, List, ℕ, ◌+◌, ◌*◌, ◌<◌, ltb}
use Rattle.std.proofs.Common.{sym, ap, ap₂, ◌∙◌, arith, lt-ltb}
use Rattle.finite.specs.Logic.{◌and◌, not_in, and_on, and_on_right, and_false_left}
use Rattle.finite.specs.Below.{any_below, any_in, any_not, any_cong, least, least_is}
use Rattle.model.specs.Limits.{ROWS}
use Rattle.sets_of_rows.specs.declared.Set.{Set}
use Rattle.sets_of_rows.specs.Member.{in_set}
use Rattle.sets_of_rows.specs.Kept.{set_at}
use Rattle.sets_of_rows.specs.Family.{nth}

-- ---- definitions

-- in the grid at word `base`, row a leads to row j, which is no later
unfoldable pub upward : List ℕ → ℕ → ℕ → ℕ → Bool
upward w base a j = in_set (nth w base a) j and not (ltb a j)

unfoldable pub upward_from : List ℕ → ℕ → Set → ℕ → Bool
upward_from w base x a = in_set x a and any_below ROWS (upward w base a)

-- each member of x leads to later rows alone
unfoldable pub down_from : List ℕ → ℕ → Set → Bool
down_from w base x = not (any_below ROWS (upward_from w base x))

-- ---- laws: the search

pub upward_off : (w : List ℕ) (base : ℕ) (x : Set) (i : ℕ) → in_set x i ≡ false → upward_from w base x i ≡ false
unfolding upward_from
upward_off w base x i e = and_false_left (in_set x i) _ e

pub upward_at : (w : List ℕ) (base : ℕ) (x : Set) (a : ℕ) (g u z : Set) (b : Bool) → in_set x a ≡ true → g ≡ set_at w (base + 2 * a)
    → ((j : ℕ) → in_set u j ≡ (ltb a j and ltb j ROWS)) → ((j : ℕ) → in_set z j ≡ (in_set g j and not (in_set u j))) → b ≡ any_below ROWS (in_set z)
    → b ≡ upward_from w base x a
unfolding upward_from upward
upward_at w base x a g u z b i e f h k =
    k
    ∙ any_cong (in_set z) (upward w base a) ROWS
    (λ j l. h j ∙ ap₂ (λ (p : Set) (q : Bool). in_set p j and not q) e (f j ∙ and_on_right (ltb a j) (ltb j ROWS) (lt-ltb j ROWS l)))
    ∙ sym (and_on (in_set x a) _ i)

pub upward_found : (w : List ℕ) (base : ℕ) (x : Set) (a : ℕ) → a < ROWS → upward_from w base x a ≡ true → false ≡ down_from w base x
unfolding down_from
upward_found w base x a l e = sym (ap not (any_in (upward_from w base x) ROWS a l e))

pub upward_end : (w : List ℕ) (base : ℕ) (x : Set) → ROWS ≡ least ROWS (upward_from w base x) → true ≡ down_from w base x
unfolding down_from
upward_end w base x e = sym (not_in (any_not (upward_from w base x) ROWS (λ i l. (least_is (upward_from w base x) ROWS).miss i (omega (arith, e)))))
