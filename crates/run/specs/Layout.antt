-- A table as bytes with fixed places: a header, a slot for each agent, a slot for each dependency, and the rows last. The header and the
-- slots are those of a table with host agents, so that places are read as from one. Assumes nothing.
use Rattle.std.specs.Prelude.{Bool, not, List, ℕ, get_or, drop, eqb}
use Rattle.finite.specs.Lists.{tabulate}
use Rattle.model.specs.Limits.{DEPENDENCIES}
use Rattle.model.specs.Table.{Mode, Table, dependency_from, dependency_to, dependency_count, decode}
use Rattle.model.specs.Header.{places_of}
use Rattle.run.specs.declared.Run.{Run}

-- the bytes of a run
abbrev pub SIZE : ℕ
SIZE = 2570

-- where the dependencies begin, and the rows
abbrev pub DEPENDS : ℕ
DEPENDS = 264

abbrev pub ROWS_AT : ℕ
ROWS_AT = 522

-- byte 1: ranks are counted; byte 2: chains
unfoldable pub flag_in : List ℕ → ℕ → Bool
flag_in t k = not (eqb (get_or t k 0) 0)

unfoldable pub places_in : List ℕ → List (List ℕ)
places_in t = places_of t

unfoldable pub mode_in : List ℕ → Mode
mode_in t =
    record {
      counted = flag_in t 1;
      chains = flag_in t 2;
      dependencies = dependency_count (drop DEPENDS t);
      first = tabulate (dependency_from (drop DEPENDS t)) DEPENDENCIES;
      second = tabulate (dependency_to (drop DEPENDS t)) DEPENDENCIES;
    }

unfoldable pub rows_in : List ℕ → List ℕ
rows_in t = drop ROWS_AT t

-- the table of n rows in a run
abbrev pub table_in : List ℕ → ℕ → Table
table_in t n = decode (rows_in t) (places_in t) (mode_in t) n

-- the table of a run
abbrev pub table_of : Run → Table
table_of t = table_in t.bytes t.rows
