-- A row among the others: refusals 8 to 10, 14 and 15. The first that holds is the row's number.
use Rattle.std.specs.Prelude.{Bool, not, cond, List, ℕ, ltb, eqb}
use Rattle.finite.specs.Logic.{◌and◌, ◌or◌}
use Rattle.finite.specs.Below.{any_below}
use Rattle.model.specs.declared.Row.{Row}
use Rattle.model.specs.Limits.{RUN, INITIAL, BLANK}
use Rattle.model.specs.Row.{access, execution_of, same_instance, plain_read, reads, writes, ranked, covers}
use Rattle.model.specs.Table.{Table}
use Rattle.model.specs.Scope.{shares, same_location, mutual_rows, age}

-- 8: the earlier access q has r's reference and another class
unfoldable pub other_class : Row → Row → Bool
other_class r q = access q and eqb q.reference r.reference and not (eqb q.class r.class)

unfoldable pub other_class_at : Table → ℕ → ℕ → Bool
other_class_at t i j = other_class (t.row i) (t.row j)

unfoldable pub class_taken : Table → ℕ → Bool
class_taken t i = access (t.row i) and any_below i (other_class_at t i)

-- 9: row s is another row, a writer, and covers all bytes of row i
unfoldable pub writer_fits : Table → ℕ → ℕ → Bool
writer_fits t i s = ltb s t.rows and not (eqb s i) and writes (t.row s) and covers (t.row s) (t.row i)

unfoldable pub source_fits : Bool → Table → ℕ → ℕ → Bool
source_fits blanks t i s = eqb s INITIAL or writer_fits t i s or (blanks and plain_read (t.row i) and eqb s BLANK)

unfoldable pub source_broken : Bool → Table → (ℕ → ℕ) → ℕ → Bool
source_broken blanks t source i = reads (t.row i) and not (source_fits blanks t i (source i))

-- 10: the earlier row j is a writer of row i's rank, mutually-ordered with it
unfoldable pub same_rank : Row → Row → Bool
same_rank r q = ranked q and eqb q.rank r.rank

unfoldable pub same_rank_at : Table → ℕ → ℕ → Bool
same_rank_at t i j = same_rank (t.row i) (t.row j) and mutual_rows t.places (t.row i) (t.row j)

unfoldable pub rank_taken : Table → ℕ → Bool
rank_taken t i = ranked (t.row i) and any_below i (same_rank_at t i)

-- 14: the earlier row q is of r's instance, and the two differ in execution scope, have one agent, or don't share that scope
unfoldable pub apart : List (List ℕ) → Row → Row → Bool
apart p r q =
    same_instance r q
    and not (eqb (execution_of r) (execution_of q) and not (eqb r.agent q.agent) and shares p (execution_of r) r.agent q.agent)

unfoldable pub apart_at : Table → ℕ → ℕ → Bool
apart_at t i j = apart t.places (t.row i) (t.row j)

unfoldable pub instance_broken : Table → ℕ → Bool
instance_broken t i = any_below i (apart_at t i)

-- 15: q is a writer of r's location that has a rank
unfoldable pub rival : Row → Row → Bool
rival r q = ranked q and same_location r q

-- q is a rival of r whose rank is not among the consecutive counts that begin with m's
unfoldable pub outside : Row → Row → Row → Bool
outside r m q = rival r q and not (ltb (age q.rank m.rank) RUN)

unfoldable pub outside_at : Table → ℕ → ℕ → ℕ → Bool
outside_at t i m j = outside (t.row i) (t.row m) (t.row j)

-- row m is a rival of row i, and the run that begins with it has all those up to row i
unfoldable pub begins : Table → ℕ → ℕ → Bool
begins t i m = rival (t.row i) (t.row m) and not (any_below i (outside_at t i m) or outside_at t i m i)

-- no run of consecutive counts has all of them: none that begins with one of them does (law `unfit_is`)
unfoldable pub unfit : Table → ℕ → Bool
unfit t i = t.counted and ranked (t.row i) and not (any_below i (begins t i) or begins t i i)

unfoldable pub table_fault : Bool → Table → (ℕ → ℕ) → ℕ → ℕ
table_fault blanks t source i =
    cond (class_taken t i) 8 (cond (source_broken blanks t source i) 9 (cond (rank_taken t i) 10 (cond (instance_broken t i) 14 (cond (unfit t i) 15 0))))
