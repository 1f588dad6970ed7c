-- M1: the moments of a row (a term of the rules, not of 003) and program order.
-- Moment 3 × row + 0, 1 or 2 is the one before, at or after the row.
use Rattle.std.specs.Prelude.{Bool, not, cond, ℕ, ◌+◌, ◌*◌, ◌/◌, ◌%◌, ltb, eqb}
use Rattle.finite.specs.Logic.{◌and◌, ◌or◌}
use Rattle.model.specs.declared.Row.{Row}
use Rattle.model.specs.Row.{plain, makes_available, makes_visible, single}
use Rattle.model.specs.Scope.{INVOCATION}
use Rattle.model.specs.Table.{Table}

abbrev pub BEFORE : ℕ
BEFORE = 0

abbrev pub AT : ℕ
AT = 1

abbrev pub AFTER : ℕ
AFTER = 2

-- a moment's row, and which of the row's three it is
abbrev pub row_in : ℕ → ℕ
row_in m = m / 3

abbrev pub part : ℕ → ℕ
part m = m % 3

-- the moment of row x itself
abbrev pub itself : ℕ → ℕ
itself x = 3 * x + AT

-- ---- of one row

-- availability comes after a plain write, before an atomic or a barrier; visibility before a plain read, after those
unfoldable pub availability_of : Row → ℕ → Bool
availability_of r k = makes_available r and not (eqb r.scope INVOCATION) and eqb k (cond (plain r) AFTER BEFORE)

unfoldable pub visibility_of : Row → ℕ → Bool
visibility_of r k = makes_visible r and not (eqb r.scope INVOCATION) and eqb k (cond (plain r) BEFORE AFTER)

unfoldable pub moment_of : Row → ℕ → Bool
moment_of r k = eqb k AT or availability_of r k or visibility_of r k

-- m is a moment of its row r, in a table of n rows
unfoldable pub moment_in : ℕ → Row → ℕ → Bool
moment_in n r m = ltb (row_in m) n and moment_of r (part m)

-- M1: program order of the moments m of r and k of q: of one agent, by row and then moment
unfoldable pub program_ordered : ℕ → ℕ → ℕ → Row → Row → Bool
program_ordered n m k r q = ltb m k and eqb r.agent q.agent and moment_in n r m and moment_in n q k

-- the classes of an availability or visibility moment
unfoldable pub classes_of : Row → ℕ
classes_of r = cond (plain r) (single r.class) r.classes

-- ---- of a table

-- M1: an availability moment, a visibility moment, any moment there is
unfoldable pub availability : Table → ℕ → Bool
availability t m = availability_of (t.row (row_in m)) (part m)

unfoldable pub visibility : Table → ℕ → Bool
visibility t m = visibility_of (t.row (row_in m)) (part m)

unfoldable pub moment : Table → ℕ → Bool
moment t m = moment_in t.rows (t.row (row_in m)) m

unfoldable pub same_agent : Table → ℕ → ℕ → Bool
same_agent t x y = eqb (t.row x).agent (t.row y).agent

-- M1: program order
unfoldable pub program_order : Table → ℕ → ℕ → Bool
program_order t m k = program_ordered t.rows m k (t.row (row_in m)) (t.row (row_in k))
