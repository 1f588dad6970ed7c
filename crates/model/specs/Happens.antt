-- M6 and M7: inter-thread order for each class set, and happens-before.
use Rattle.std.specs.Prelude.{Bool, not, cond, ℕ, suc, ◌*◌, eqb}
use Rattle.finite.specs.Logic.{◌and◌, ◌or◌}
use Rattle.finite.specs.Below.{any_below}
use Rattle.finite.specs.Closure.{through}
use Rattle.model.specs.declared.Row.{Row}
use Rattle.model.specs.Limits.{CLASS_SETS}
use Rattle.model.specs.Row.{plain, access, holds, meets, class_in, releases, acquires}
use Rattle.model.specs.Table.{Table}
use Rattle.model.specs.Moment.{AT, row_in, part, classes_of, program_order}
use Rattle.model.specs.Synchronizes.{synchronizes}

-- ---- of one row

-- moment k is the atomic or barrier r itself, holding all of s
unfoldable pub holding_of : ℕ → Row → ℕ → Bool
holding_of s r k = eqb k AT and not (plain r) and holds r.classes s

-- M6: moment k of r accesses a class in s, or is an atomic or barrier holding all of s
unfoldable pub concerns_of : ℕ → Row → ℕ → Bool
concerns_of s r k = cond (eqb k AT) (access r and class_in r s) (meets (classes_of r) s) or holding_of s r k

-- ---- of a table

unfoldable pub holding : Table → ℕ → ℕ → Bool
holding t s m = holding_of s (t.row (row_in m)) (part m)

unfoldable pub concerns : Table → ℕ → ℕ → Bool
concerns t s m = concerns_of s (t.row (row_in m)) (part m)

-- M6, direct case 1: synchronizes-with where both hold all of s
unfoldable pub by_sync : Table → ℕ → ℕ → ℕ → Bool
by_sync t s m n = holding t s m and holding t s n and synchronizes t (row_in m) (row_in n)

-- M6, direct case 2: a moment program-ordered before a release row that holds all of s
unfoldable pub to_release : Table → ℕ → ℕ → ℕ → Bool
to_release t s m n = holding t s n and releases (t.row (row_in n)) and concerns t s m and program_order t m n

-- M6, direct case 3: an acquire row that holds all of s program-ordered before a moment
unfoldable pub from_acquire : Table → ℕ → ℕ → ℕ → Bool
from_acquire t s m n = holding t s m and acquires (t.row (row_in m)) and concerns t s n and program_order t m n

-- 003's first case, direct case 4 here: the row m system-synchronizes-with the row n, which includes all classes
unfoldable pub by_system : Table → ℕ → ℕ → Bool
by_system t m n = eqb (part m) AT and eqb (part n) AT and t.depends (row_in m) (row_in n)

-- the direct cases are numbers 1 to CASES; 1 to ROW_CASES go by rows, and the last by dependencies
abbrev pub ROW_CASES : ℕ
ROW_CASES = 3

abbrev pub CASES : ℕ
CASES = 4

-- a direct case by its number: here, and nowhere else, they are listed
unfoldable pub direct : Table → ℕ → ℕ → ℕ → ℕ → Bool
direct t s case m n =
    (eqb case 1 and by_sync t s m n) or (eqb case 2 and to_release t s m n) or (eqb case 3 and from_acquire t s m n)
    or (eqb case 4 and by_system t m n)

-- direct case k + 1
unfoldable pub nth_case : Table → ℕ → ℕ → ℕ → ℕ → Bool
nth_case t s m n k = direct t s (suc k) m n

-- M6: some direct case
unfoldable pub step : Table → ℕ → ℕ → ℕ → Bool
step t s m n = any_below CASES (nth_case t s m n)

-- M6: inter-thread order for the class set s, the transitive closure of the direct cases
unfoldable pub inter_thread : Table → ℕ → ℕ → ℕ → Bool
inter_thread t s m n = through (step t s) (3 * t.rows) m n

-- ---- M7

-- inter-thread order for class set k + 1
unfoldable pub inter_thread_by : Table → ℕ → ℕ → ℕ → Bool
inter_thread_by t m n k = inter_thread t (suc k) m n

-- happens-before: program order, or inter-thread order for some class set. It isn't closed again
unfoldable pub happens : Table → ℕ → ℕ → Bool
happens t m n = program_order t m n or any_below CLASS_SETS (inter_thread_by t m n)
