-- Tables of Runs with their rows moved, computed from the definitions. Assumes nothing.
use Rattle.std.specs.Prelude.{◌≡◌, refl, Bool, true, false, List, [], ◌∷◌, ◌++◌, map, ℕ, ◌+◌, ◌*◌, length, set}
use Rattle.finite.specs.Logic.{◌and◌}
use Rattle.model.specs.Limits.{WORK, CYCLE, SOURCES}
use Rattle.model.specs.Header.{rows_at}
use Rattle.model.specs.Check.{cyclic, race, race_free, check}
use Rattle.model.specs.Fill.{filled, fill}
use Rattle.model_runs.specs.Opened.{opened}
use Rattle.model_page_order.specs.Renumber.{Renumbering}
use Rattle.model_page_order.specs.Moved.{Moved}
use Rattle.model_page_order.specs.Tried.{undoes, by_list, listed, same_head, same_byte, same_row, in_order, ordered, same_dependency, same_dependencies, is_moved}
use Rattle.model_page_order.proofs.Tried.{moved_by_test}

-- ---- tables: as the model's runs have them

abbrev joined : List (List ℕ) → List ℕ
joined [] = []
joined (l ∷ ls) = l ++ joined ls

abbrev table : List (List ℕ) → List (List ℕ) → List ℕ
table p r = 0 ∷ 0 ∷ 0 ∷ (4 + 6 * length p + 16 * length r) ∷ 1 ∷ length p ∷ length r ∷ 0 ∷ (joined p ++ joined r)

abbrev change : ℕ → ℕ → ℕ → List ℕ → List ℕ
change i k v s = set s (20 + 16 * i + k) v

abbrev agents : List (List ℕ)
agents = (0 ∷ 0 ∷ 0 ∷ 0 ∷ 0 ∷ 0 ∷ []) ∷ (0 ∷ 0 ∷ 0 ∷ 0 ∷ 0 ∷ 1 ∷ []) ∷ []

abbrev write : List ℕ
write = 1 ∷ 0 ∷ 0 ∷ 0 ∷ 0 ∷ 1 ∷ 0 ∷ 4 ∷ 0 ∷ 0 ∷ 0 ∷ 1 ∷ 255 ∷ 255 ∷ 0 ∷ 0 ∷ []

abbrev release : List ℕ
release = 3 ∷ 0 ∷ 2 ∷ 2 ∷ 1 ∷ 3 ∷ 0 ∷ 4 ∷ 0 ∷ 4 ∷ 0 ∷ 2 ∷ 255 ∷ 255 ∷ 0 ∷ 1 ∷ []

abbrev acquire : ℕ → List ℕ
acquire source = 2 ∷ 1 ∷ 1 ∷ 2 ∷ 1 ∷ 5 ∷ 0 ∷ 4 ∷ 0 ∷ 4 ∷ 0 ∷ 2 ∷ 0 ∷ source ∷ 0 ∷ 0 ∷ []

abbrev read : ℕ → List ℕ
read source = 0 ∷ 1 ∷ 0 ∷ 0 ∷ 0 ∷ 1 ∷ 0 ∷ 4 ∷ 0 ∷ 0 ∷ 0 ∷ 1 ∷ 0 ∷ source ∷ 0 ∷ 0 ∷ []

-- run P, and the same with agent 1's acquire on top: rows 0, 1, 2, 3 are rows 1, 2, 0, 3
abbrev P : List ℕ
P = table agents (write ∷ release ∷ acquire 1 ∷ read 0 ∷ [])

abbrev P' : List ℕ
P' = table agents (acquire 2 ∷ write ∷ release ∷ read 1 ∷ [])

abbrev there : List ℕ
there = 1 ∷ 2 ∷ 0 ∷ 3 ∷ []

abbrev here : List ℕ
here = 2 ∷ 0 ∷ 1 ∷ 3 ∷ []

-- row 1 without make available; row 3 with the initial value; row 3 blank
abbrev hidden : List ℕ
hidden = change 1 5 1 P

abbrev hidden' : List ℕ
hidden' = change 2 5 1 P'

abbrev early : List ℕ
early = change 3 12 255 (change 3 13 255 P)

abbrev early' : List ℕ
early' = change 3 12 255 (change 3 13 255 P')

abbrev blanked : List ℕ
blanked = change 3 12 255 (change 3 13 254 P)

abbrev blanked' : List ℕ
blanked' = change 3 12 255 (change 3 13 254 P')

-- a host's write that a queue agent carries to a shader's read; and the same with the read on top
abbrev perform : ℕ → List ℕ
perform kind = kind ∷ 1 ∷ 0 ∷ 0 ∷ 0 ∷ 0 ∷ 0 ∷ 0 ∷ 0 ∷ 0 ∷ 0 ∷ 0 ∷ 255 ∷ 255 ∷ 0 ∷ 0 ∷ []

abbrev sees : ℕ → List ℕ
sees source = 0 ∷ 2 ∷ 0 ∷ 0 ∷ 0 ∷ 0 ∷ 0 ∷ 4 ∷ 0 ∷ 0 ∷ 0 ∷ 7 ∷ 0 ∷ source ∷ 0 ∷ 0 ∷ []

abbrev hosted : List (List ℕ) → List (List ℕ) → List ℕ
hosted r d =
    0 ∷ 0 ∷ 0 ∷ (30 + 16 * length r + 4 * length d) ∷ 3 ∷ 3 ∷ length r ∷ 0
    ∷ ((0 ∷ 0 ∷ 0 ∷ 0 ∷ 0 ∷ 0 ∷ 0 ∷ 1 ∷ 0 ∷ 0 ∷ 0 ∷ 0 ∷ 0 ∷ 0 ∷ 0 ∷ 2 ∷ 0 ∷ 0 ∷ 0 ∷ 0 ∷ 0 ∷ 0 ∷ 0 ∷ 0 ∷ [])
    ++ (joined r ++ (0 ∷ length d ∷ joined d)))

abbrev upload : List ℕ
upload = hosted (write ∷ perform 7 ∷ perform 11 ∷ perform 10 ∷ sees 0 ∷ []) ((0 ∷ 0 ∷ 0 ∷ 1 ∷ []) ∷ (0 ∷ 3 ∷ 0 ∷ 4 ∷ []) ∷ [])

abbrev upload' : List ℕ
upload' = hosted (sees 1 ∷ write ∷ perform 7 ∷ perform 11 ∷ perform 10 ∷ []) ((0 ∷ 1 ∷ 0 ∷ 2 ∷ []) ∷ (0 ∷ 4 ∷ 0 ∷ 0 ∷ []) ∷ [])

-- ---- they are moved

-- what the test computes with
tested : Unit {0}
unfolding opened undoes by_list is_moved same_head same_byte same_row in_order ordered same_dependency same_dependencies
tested = tt

abbrev tests_by : List ℕ → List ℕ → List ℕ → List ℕ → Bool
tests_by l k s s' = undoes (rows_at s) l k and undoes (rows_at s) k l and is_moved s s' (by_list (rows_at s) l)

abbrev tests : List ℕ → List ℕ → Bool
tests s s' = tests_by there here s s'

pub moved_hold : map (λ (p : List ℕ × List ℕ). tests p.0 p.1)
    ((P, P') ∷ (hidden, hidden') ∷ (early, early') ∷ (blanked, blanked') ∷ []) ≡ true ∷ true ∷ true ∷ true ∷ []
unfolding tested
moved_hold = refl

pub hosted_hold : tests_by (1 ∷ 2 ∷ 3 ∷ 4 ∷ 0 ∷ []) (4 ∷ 0 ∷ 1 ∷ 2 ∷ 3 ∷ []) upload upload' ≡ true
unfolding tested
hosted_hold = refl

-- a source that is not renumbered, and an agent's rows out of their order, are told
pub not_moved : tests P (table agents (acquire 2 ∷ write ∷ release ∷ read 0 ∷ [])) ≡ false
unfolding tested
not_moved = refl

-- so Page.antt speaks of them
pub cycled : Renumbering (rows_at P)
unfolding tested
cycled = listed (rows_at P) there here refl refl

pub P_moved : Moved P P' cycled
unfolding tested cycled
P_moved = moved_by_test P P' cycled refl

-- ---- and are answered alike; the shown pair and cycle differ

pub answers : map (λ s. check false s WORK CYCLE) (P ∷ P' ∷ upload ∷ upload' ∷ hidden ∷ hidden' ∷ early ∷ early' ∷ [])
    ≡ race_free ∷ race_free ∷ race_free ∷ race_free ∷ race 0 3 0 ∷ race 1 3 0 ∷ cyclic (0 ∷ 3 ∷ []) (1 ∷ 4 ∷ []) ∷ cyclic (1 ∷ 3 ∷ []) (1 ∷ 4 ∷ []) ∷ []
unfolding opened
answers = refl

pub fills : map (λ s. fill false s WORK SOURCES) (blanked ∷ blanked' ∷ []) ≡ filled (65535 ∷ 65535 ∷ 1 ∷ 0 ∷ []) ∷ filled (2 ∷ 65535 ∷ 65535 ∷ 1 ∷ []) ∷ []
unfolding opened
fills = refl
