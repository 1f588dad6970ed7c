-- What is asked of the members of a set, each by a set of its own. Assumes nothing.
use Rattle.std.specs.Prelude.{◌≡◌, Bool, true, false, List, ℕ, ◌+◌, ◌*◌}
use Rattle.std.proofs.Common.{sym, ap, ◌∙◌}
use Rattle.finite.specs.Logic.{◌and◌, ◌or◌, and_on, and_false_left}
use Rattle.sets_of_rows.specs.declared.Set.{Set}
use Rattle.sets_of_rows.specs.Member.{in_set}
use Rattle.sets_of_rows.specs.Kept.{set_at}

-- ---- definitions

-- member i of x leads to row j: the set of row i has it
unfoldable pub leads : List ℕ → ℕ → Set → ℕ → ℕ → Bool
leads w base x j i = in_set x i and in_set (set_at w (base + 2 * i)) j

-- rows that both sets have
unfoldable pub both : Set → Set → ℕ → Bool
both a b j = in_set a j and in_set b j

-- ---- laws: rows that are no members

pub leads_off : (w : List ℕ) (base : ℕ) (x : Set) (i j : ℕ) → in_set x i ≡ false → leads w base x j i ≡ false
unfolding leads
leads_off w base x i j e = and_false_left (in_set x i) (in_set (set_at w (base + 2 * i)) j) e

-- ---- laws: what a member gives

pub leads_on : (w : List ℕ) (base : ℕ) (x : Set) (r s g : Set) (i : ℕ) → g ≡ set_at w (base + 2 * i) → ((j : ℕ) → in_set s j ≡ (in_set r j or in_set g j))
    → in_set x i ≡ true → (j : ℕ) → in_set s j ≡ (in_set r j or leads w base x j i)
unfolding leads
leads_on w base x r s g i e o h j =
    o j ∙ ap (λ (b : Bool). in_set r j or b) (ap (λ (z : Set). in_set z j) e ∙ sym (and_on (in_set x i) (in_set (set_at w (base + 2 * i)) j) h))
