-- The map of the work area, in words. Regions stand in the order in which they are made, so that a stage keeps all that lies
-- below its own; location order takes the place of the steps, which happens-before no longer needs, and edges and layers that of
-- what location order was made by.
use Rattle.std.specs.Prelude.{ℕ, ◌+◌, ◌*◌}
use Rattle.model.specs.Limits.{ROWS}

-- words in a row of a grid over rows, and over moments
abbrev pub GRID : ℕ
GRID = 2

abbrev pub MOMENTS : ℕ
MOMENTS = 6

-- bits of a pair of rows, one for each byte of the first, and of a row of pairs
abbrev pub PAIR : ℕ
PAIR = 16

abbrev pub PAIRS : ℕ
PAIRS = ROWS * PAIR

-- words of a grid over rows, over moments, and of the bits of all pairs
abbrev pub ROWS_GRID : ℕ
ROWS_GRID = ROWS * GRID

abbrev pub MOMENTS_GRID : ℕ
MOMENTS_GRID = 3 * ROWS * MOMENTS

abbrev pub PAIRS_GRID : ℕ
PAIRS_GRID = ROWS * PAIR * GRID

-- mutually-ordered rows
abbrev pub MUTUAL : ℕ
MUTUAL = 0

abbrev pub MUTUAL_END : ℕ
MUTUAL_END = MUTUAL + ROWS_GRID

-- release sequences
abbrev pub SEQUENCE : ℕ
SEQUENCE = MUTUAL_END

abbrev pub SEQUENCE_END : ℕ
SEQUENCE_END = SEQUENCE + ROWS_GRID

-- synchronizes-with
abbrev pub SYNC : ℕ
SYNC = SEQUENCE_END

abbrev pub SYNC_END : ℕ
SYNC_END = SYNC + ROWS_GRID

-- happens-before, over moments
abbrev pub HAPPENS : ℕ
HAPPENS = SYNC_END

abbrev pub HAPPENS_END : ℕ
HAPPENS_END = HAPPENS + MOMENTS_GRID

-- the direct cases of one class set, and their closure, over moments
abbrev pub STEP : ℕ
STEP = HAPPENS_END

abbrev pub STEP_END : ℕ
STEP_END = STEP + MOMENTS_GRID

-- the layers of the search for a chain of steps, over moments; one more than there are moments
abbrev pub CHAINS : ℕ
CHAINS = STEP_END

abbrev pub CHAINS_END : ℕ
CHAINS_END = CHAINS + MOMENTS_GRID + MOMENTS

-- location order: bits for each pair of rows
abbrev pub LOCATION : ℕ
LOCATION = HAPPENS_END

abbrev pub LOCATION_END : ℕ
LOCATION_END = LOCATION + PAIRS_GRID

-- while location order is made: the pairs that system synchronization or the host's and the device's domains order
abbrev pub HOSTED : ℕ
HOSTED = LOCATION_END

abbrev pub HOSTED_END : ℕ
HOSTED_END = HOSTED + ROWS_GRID

-- the closure of the dependencies
abbrev pub SYSTEM : ℕ
SYSTEM = HOSTED_END

abbrev pub SYSTEM_END : ℕ
SYSTEM_END = SYSTEM + ROWS_GRID

-- what each row meets of what an operation leaves in its domain
abbrev pub MET : ℕ
MET = SYSTEM_END

abbrev pub MET_END : ℕ
MET_END = MET + ROWS_GRID

-- what each row meets of what an operation makes available
abbrev pub REACHED : ℕ
REACHED = MET_END

abbrev pub REACHED_END : ℕ
REACHED_END = REACHED + ROWS_GRID

-- the reach of availability chains, from their first elements to their last, and of visibility chains, in the place of what the
-- pairs of hosts were made by
abbrev pub REACH_OUT : ℕ
REACH_OUT = HOSTED_END

abbrev pub REACH_OUT_END : ℕ
REACH_OUT_END = REACH_OUT + ROWS_GRID

abbrev pub REACH_IN : ℕ
REACH_IN = REACH_OUT_END

abbrev pub REACH_IN_END : ℕ
REACH_IN_END = REACH_IN + ROWS_GRID

-- where all that location order is made in ends
abbrev pub LOCATED_END : ℕ
LOCATED_END = REACHED_END

-- edges
abbrev pub EDGE : ℕ
EDGE = LOCATION_END

abbrev pub EDGE_END : ℕ
EDGE_END = EDGE + ROWS_GRID

-- the layers of the search for a cycle; one more than there are rows
abbrev pub LAYERS : ℕ
LAYERS = EDGE_END

abbrev pub LAYERS_END : ℕ
LAYERS_END = LAYERS + ROWS_GRID + GRID

-- which rows share bytes, over rows: made with location order, in the place of what the pairs of hosts were made by, and read after it
abbrev pub OVERLAP : ℕ
OVERLAP = REACHED

abbrev pub OVERLAP_END : ℕ
OVERLAP_END = OVERLAP + ROWS_GRID
