-- 003's examples of chains, and what would fool us there, computed from the definitions. Assumes nothing.
use Rattle.std.specs.Prelude.{true, false, List, [], ◌∷◌, ℕ, set}
use Rattle.model_runs.specs.Runs.{ordered, as_before, Run, table}

-- a place in this workgroup and subgroup
abbrev place : ℕ → ℕ → List ℕ
place workgroup subgroup = 0 ∷ 0 ∷ 0 ∷ workgroup ∷ 0 ∷ subgroup ∷ []

-- the data: a write by agent 0, non-private, and a read of it by agent 2
abbrev out : List ℕ
out = 1 ∷ 0 ∷ 0 ∷ 0 ∷ 0 ∷ 1 ∷ 0 ∷ 4 ∷ 0 ∷ 0 ∷ 0 ∷ 1 ∷ 255 ∷ 255 ∷ 0 ∷ 0 ∷ []

abbrev back : List ℕ
back = 0 ∷ 2 ∷ 0 ∷ 0 ∷ 0 ∷ 1 ∷ 0 ∷ 4 ∷ 0 ∷ 0 ∷ 0 ∷ 1 ∷ 0 ∷ 0 ∷ 0 ∷ 0 ∷ []

-- a release and an acquire of the flag at a start that is its reference too, for classes c, with flags f; class k
abbrev release : ℕ → ℕ → ℕ → ℕ → ℕ → ℕ → List ℕ
release a scope c f k start = 3 ∷ a ∷ 2 ∷ scope ∷ c ∷ f ∷ k ∷ 4 ∷ 0 ∷ start ∷ 0 ∷ start ∷ 255 ∷ 255 ∷ 0 ∷ 1 ∷ []

abbrev acquire : ℕ → ℕ → ℕ → ℕ → ℕ → ℕ → ℕ → List ℕ
acquire a scope c f k start source = 2 ∷ a ∷ 1 ∷ scope ∷ c ∷ f ∷ k ∷ 4 ∷ 0 ∷ start ∷ 0 ∷ start ∷ 0 ∷ source ∷ 0 ∷ 0 ∷ []

-- a barrier of this order, for classes c, with flags f
abbrev fence : ℕ → ℕ → ℕ → ℕ → ℕ → List ℕ
fence a order scope c f = 5 ∷ a ∷ order ∷ scope ∷ c ∷ f ∷ 0 ∷ 0 ∷ 0 ∷ 0 ∷ 0 ∷ 0 ∷ 255 ∷ 255 ∷ 0 ∷ 0 ∷ []

-- 003's example: available to the workgroup, and from there to the device by another agent of the workgroup
abbrev pub widened : List ℕ
widened =
    table (place 0 0 ∷ place 0 1 ∷ place 1 0 ∷ [])
    (out ∷ release 0 2 1 3 0 4 ∷ acquire 1 2 1 5 0 4 1 ∷ release 1 4 1 3 0 8 ∷ acquire 2 4 1 5 0 8 3 ∷ back ∷ [])

-- 003's example: visible from the device to another agent of the reader's workgroup, and from the workgroup to the reader
abbrev pub narrowed : List ℕ
narrowed =
    table (place 1 0 ∷ place 0 1 ∷ place 0 0 ∷ [])
    (out ∷ release 0 4 1 3 0 4 ∷ acquire 1 4 1 5 0 4 1 ∷ release 1 2 1 3 0 8 ∷ acquire 2 2 1 5 0 8 3 ∷ back ∷ [])

-- the second element is performed outside the workgroup that the first one made available to
abbrev pub elsewhere : List ℕ
elsewhere =
    table (place 0 0 ∷ place 2 0 ∷ place 1 0 ∷ [])
    (set (set out 3 2) 5 3 ∷ release 0 4 1 1 0 4 ∷ acquire 1 4 1 5 0 4 1 ∷ release 1 4 1 3 0 8 ∷ acquire 2 4 1 5 0 8 3 ∷ back ∷ [])

-- the second element covers another class alone
abbrev pub otherwise : List ℕ
otherwise =
    table (place 0 0 ∷ place 0 1 ∷ place 1 0 ∷ [])
    (out ∷ release 0 2 5 3 0 4 ∷ acquire 1 2 5 1 0 4 1 ∷ fence 1 2 4 4 2 ∷ release 1 4 5 1 0 8 ∷ acquire 2 4 5 5 0 8 4 ∷ back ∷ [])

-- two elements of one scope, between which the classes change
abbrev pub level : List ℕ
level =
    table (place 0 0 ∷ place 0 1 ∷ place 0 2 ∷ [])
    (out ∷ release 0 2 1 3 1 4 ∷ acquire 1 2 1 1 1 4 1 ∷ release 1 2 5 3 1 8 ∷ acquire 2 2 4 1 1 8 3 ∷ fence 2 1 2 5 4 ∷ back ∷ [])

-- the first visibility element is performed outside the domain that the write is available in
abbrev pub astray : List ℕ
astray =
    table (place 0 0 ∷ place 1 0 ∷ place 0 1 ∷ [])
    (set (set out 3 2) 5 3 ∷ release 0 4 1 1 1 4 ∷ acquire 1 4 1 1 1 4 1 ∷ fence 1 1 4 5 4 ∷ release 1 4 4 1 1 8 ∷ acquire 2 4 4 1
    1 8 4 ∷ fence 2 1 3 5 4 ∷ back ∷ [])

-- whether the write is location-ordered before the read at byte 0: chains off, and on
abbrev pub chained : List Run
chained =
    record { ask = as_before false 5; table = widened; gives = ordered false }
    ∷ record { ask = as_before true 5; table = widened; gives = ordered true }
    ∷ record { ask = as_before false 5; table = narrowed; gives = ordered false }
    ∷ record { ask = as_before true 5; table = narrowed; gives = ordered true }
    ∷ record { ask = as_before false 5; table = elsewhere; gives = ordered false }
    ∷ record { ask = as_before true 5; table = elsewhere; gives = ordered false }
    ∷ record { ask = as_before false 6; table = otherwise; gives = ordered false }
    ∷ record { ask = as_before true 6; table = otherwise; gives = ordered true }
    ∷ record { ask = as_before false 6; table = level; gives = ordered false }
    ∷ record { ask = as_before true 6; table = level; gives = ordered false }
    ∷ record { ask = as_before false 7; table = astray; gives = ordered false }
    ∷ record { ask = as_before true 7; table = astray; gives = ordered false }
    ∷ []
