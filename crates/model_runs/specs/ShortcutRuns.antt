-- Shortcuts that would fool us, told apart by runs of the definitions. Assumes nothing.
use Rattle.std.specs.Prelude.{List, [], ◌∷◌, ℕ}
use Rattle.model.specs.Check.{race, race_free}
use Rattle.model.specs.Reason as reason
use Rattle.model_runs.specs.Runs.{checked, reasoned, as_check, as_order, Run, table, change, agent₀, agent₁, write}

-- ---- shortcuts that would fool us

-- a read of the data, Uniform, by agent 0
abbrev early_read : List ℕ
early_read = 0 ∷ 0 ∷ 0 ∷ 0 ∷ 0 ∷ 1 ∷ 0 ∷ 4 ∷ 0 ∷ 0 ∷ 0 ∷ 1 ∷ 255 ∷ 255 ∷ 0 ∷ 0 ∷ []

-- a write of the same, by agent 1
abbrev late_write : List ℕ
late_write = 1 ∷ 1 ∷ 0 ∷ 0 ∷ 0 ∷ 1 ∷ 0 ∷ 4 ∷ 0 ∷ 0 ∷ 0 ∷ 1 ∷ 255 ∷ 255 ∷ 0 ∷ 0 ∷ []

-- a write of those bytes as Image, by another reference
abbrev image_write : List ℕ
image_write = 1 ∷ 1 ∷ 0 ∷ 0 ∷ 0 ∷ 1 ∷ 2 ∷ 4 ∷ 0 ∷ 0 ∷ 0 ∷ 3 ∷ 255 ∷ 255 ∷ 0 ∷ 0 ∷ []

-- a write of the first two bytes, which makes available
abbrev short_write : List ℕ
short_write = 1 ∷ 0 ∷ 0 ∷ 2 ∷ 0 ∷ 3 ∷ 0 ∷ 2 ∷ 0 ∷ 0 ∷ 0 ∷ 1 ∷ 255 ∷ 255 ∷ 0 ∷ 0 ∷ []

-- a release of a flag; its classes are set below
abbrev flag_out : List ℕ
flag_out = 3 ∷ 0 ∷ 2 ∷ 2 ∷ 0 ∷ 1 ∷ 1 ∷ 4 ∷ 0 ∷ 4 ∷ 0 ∷ 2 ∷ 255 ∷ 255 ∷ 0 ∷ 1 ∷ []

-- an acquire of that flag from row 1
abbrev flag_in : List ℕ
flag_in = 2 ∷ 1 ∷ 1 ∷ 2 ∷ 0 ∷ 1 ∷ 1 ∷ 4 ∷ 0 ∷ 4 ∷ 0 ∷ 2 ∷ 0 ∷ 1 ∷ 0 ∷ 0 ∷ []

-- an RMW that reads the initial value
abbrev self_rmw : List ℕ
self_rmw = 4 ∷ 0 ∷ 0 ∷ 2 ∷ 0 ∷ 1 ∷ 0 ∷ 4 ∷ 0 ∷ 0 ∷ 0 ∷ 1 ∷ 255 ∷ 255 ∷ 0 ∷ 0 ∷ []

-- the data read before and written after a flag that is released and acquired for the classes c; the write is w
abbrev handed : ℕ → List ℕ → List ℕ
handed c w = change 2 1 4 c (change 2 2 4 c (table (agent₀ ∷ agent₁ ∷ []) (early_read ∷ flag_out ∷ flag_in ∷ w ∷ [])))

-- a four-byte write, a two-byte one that is made available, the flag, a write of all four bytes by agent 1
abbrev partly : List ℕ
partly = change 2 2 4 1 (change 2 3 4 1 (change 2 3 13 2 (table (agent₀ ∷ agent₁ ∷ []) (write ∷ short_write ∷ flag_out ∷ flag_in ∷ late_write ∷ []))))

-- a write that makes itself available in this scope, and a read of the same agent that makes visible in it
abbrev alone : ℕ → List ℕ
alone scope = change 1 0 3 scope (change 1 1 3 scope (change 1 0 5 3 (change 1 1 5 5 (table (agent₀ ∷ []) (write ∷ early_read ∷ [])))))

abbrev pub shortcuts : List Run
shortcuts =
    -- closing happens-before over program order: the flag is released for Workgroup only, and then for Uniform
    record { ask = as_check; table = handed 2 late_write; gives = checked (race 0 3 0) }
    ∷ record { ask = as_check; table = handed 1 late_write; gives = checked race_free }
    -- trying single classes only: the flag is released for Uniform and Image, and then for Uniform
    ∷ record { ask = as_check; table = handed 5 image_write; gives = checked race_free }
    ∷ record { ask = as_check; table = handed 1 image_write; gives = checked (race 0 3 0) }
    -- one order per pair: only the first two bytes are made available
    ∷ record { ask = as_check; table = partly; gives = checked (race 0 4 2) }
    -- from-reads from an RMW to itself
    ∷ record { ask = as_check; table = table (agent₀ ∷ []) (self_rmw ∷ []); gives = checked race_free }
    -- scope 0 gives no moment of availability, nor of visibility; subgroup scope gives both
    ∷ record { ask = as_order 2 4; table = alone 0; gives = reasoned (reason.refused 12 0) }
    ∷ record { ask = as_order 1 3; table = alone 0; gives = reasoned (reason.refused 12 0) }
    ∷ record { ask = as_order 2 4; table = alone 1; gives = reasoned reason.accepted }
    ∷ record { ask = as_order 1 3; table = alone 1; gives = reasoned reason.accepted }
    ∷ []
