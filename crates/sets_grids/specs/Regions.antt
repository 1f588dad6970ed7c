-- The map of the grids of the engine by sets in the work area, in words. Those that location order is made from stand below it; scratch stands
-- where location order will. The regions of area.Regions that both engines have are named there.
use Rattle.std.specs.Prelude.{ℕ, ◌+◌}
use Rattle.work_area.specs.Regions.{ROWS_GRID}
use Rattle.work_area.specs.Regions

-- what follows each atomic writer
abbrev pub LATER : ℕ
LATER = Regions.SEQUENCE

abbrev pub LATER_END : ℕ
LATER_END = LATER + ROWS_GRID

-- happens-before, in five grids
abbrev pub HAPPENS : ℕ
HAPPENS = Regions.HAPPENS

abbrev pub AVAILABLE_AT : ℕ
AVAILABLE_AT = HAPPENS + ROWS_GRID

abbrev pub AVAILABLE_VISIBLE : ℕ
AVAILABLE_VISIBLE = AVAILABLE_AT + ROWS_GRID

abbrev pub AVAILABLE_AVAILABLE : ℕ
AVAILABLE_AVAILABLE = AVAILABLE_VISIBLE + ROWS_GRID

abbrev pub VISIBLE_VISIBLE : ℕ
VISIBLE_VISIBLE = AVAILABLE_AVAILABLE + ROWS_GRID

abbrev pub HAPPENS_END : ℕ
HAPPENS_END = VISIBLE_VISIBLE + ROWS_GRID

-- what each availability operation makes available
abbrev pub AVAILABLE_TO : ℕ
AVAILABLE_TO = HAPPENS_END

abbrev pub VISIBLE_BY : ℕ
VISIBLE_BY = AVAILABLE_TO + ROWS_GRID

abbrev pub VISIBLE_BY_END : ℕ
VISIBLE_BY_END = VISIBLE_BY + ROWS_GRID

-- location order at some byte
abbrev pub SOME : ℕ
SOME = VISIBLE_BY_END

abbrev pub SOME_END : ℕ
SOME_END = SOME + ROWS_GRID

-- the closure of dependencies; what rows meet of what operations leave; L4 and L5
abbrev pub SYSTEM : ℕ
SYSTEM = Regions.SYSTEM

abbrev pub SYSTEM_END : ℕ
SYSTEM_END = SYSTEM + ROWS_GRID

abbrev pub MET : ℕ
MET = Regions.MET

abbrev pub MET_END : ℕ
MET_END = MET + ROWS_GRID

abbrev pub HOSTED : ℕ
HOSTED = Regions.HOSTED

abbrev pub HOSTED_END : ℕ
HOSTED_END = HOSTED + ROWS_GRID

-- ---- scratch

abbrev pub HEADS : ℕ
HEADS = Regions.LOCATION

abbrev pub HEADS_END : ℕ
HEADS_END = HEADS + ROWS_GRID

abbrev pub TAKEN : ℕ
TAKEN = HEADS_END

abbrev pub TAKEN_END : ℕ
TAKEN_END = TAKEN + ROWS_GRID

abbrev pub PASSED : ℕ
PASSED = TAKEN_END

abbrev pub PASSED_END : ℕ
PASSED_END = PASSED + ROWS_GRID

abbrev pub DEPENDS : ℕ
DEPENDS = PASSED_END

abbrev pub DEPENDS_END : ℕ
DEPENDS_END = DEPENDS + ROWS_GRID

abbrev pub REACH_AT : ℕ
REACH_AT = DEPENDS_END

abbrev pub REACH_VISIBLE : ℕ
REACH_VISIBLE = REACH_AT + ROWS_GRID

abbrev pub REACH_AVAILABLE : ℕ
REACH_AVAILABLE = REACH_VISIBLE + ROWS_GRID

abbrev pub REACH_END : ℕ
REACH_END = REACH_AVAILABLE + ROWS_GRID
