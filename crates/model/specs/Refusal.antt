-- The refusals 1 to 11, 14 and 15, and with host agents 16 to 20, in their order. `blanks` says whether a blank is allowed: in a fill, not in a check.
use Rattle.std.specs.Prelude.{Bool, not, cond, List, ℕ, ◌+◌, length, ltb, leb, eqb}
use Rattle.finite.specs.Logic.{◌and◌}
use Rattle.finite.specs.Below.{any_below, least}
use Rattle.std.specs.declared.result.Result.{Result}
use Rattle.std.specs.declared.result.Result.TheVariants.{Ok, Err}
use Rattle.model.specs.declared.Admission.{Admission}
use Rattle.model.specs.declared.Admission.TheVariants.{Admitted, Refused}
use Rattle.model.specs.declared.Counts.{Counts}
use Rattle.model.specs.declared.Refusal.{Refusal}
use Rattle.model.specs.Limits.{AGENTS, ROWS, WORK, DEPENDENCIES}
use Rattle.model.specs.Header.{HEADER, VERSION_PLAIN, VERSION_HOSTS, count_at, version_at, agents_at, rows_at, zero_at, has_hosts, size_of, row_bytes}
use Rattle.model.specs.Table.{row_of, source_of, dependency_count, dependency_from, dependency_to, table_of, sources_of}
use Rattle.model.specs.Header.{dependency_bytes, places_of}
use Rattle.model.specs.Scope.{QUEUE, agent_kind}
use Rattle.model.specs.RowFault.{row_fault}
use Rattle.model.specs.TableFault.{table_fault}

-- ---- what is said of a table

-- a refusal, as a program has it
abbrev pub refusal : ℕ → ℕ → Refusal
refusal n i = record { number = n; row = i }

-- the counts of a table that is admitted, else its refusal
unfoldable pub admission_answer : Admission → Result Counts Refusal
admission_answer (Admitted a n) = Ok (record { agents = a; rows = n })
admission_answer (Refused n i) = Err (refusal n i)

-- ---- 11: the lent buffers, by their lengths; `needs` is what the second one must hold

unfoldable pub buffers_fit : ℕ → ℕ → ℕ → Bool
buffers_fit needs work buffer = leb WORK work and leb needs buffer

-- ---- 1 to 4: the header

-- versions VERSION_PLAIN to VERSION_HOSTS
unfoldable pub version_fits : List ℕ → Bool
version_fits s = leb VERSION_PLAIN (version_at s) and leb (version_at s) VERSION_HOSTS and eqb (zero_at s) 0

unfoldable pub limits_fit : List ℕ → Bool
limits_fit s = leb (agents_at s) AGENTS and leb (rows_at s) ROWS

-- the count is of the bytes after its own four. A count of dependencies that isn't there is read as 0, and the length doesn't fit
unfoldable pub length_fits : List ℕ → Bool
length_fits s = eqb (count_at s + 4) (size_of s) and eqb (length s) (size_of s)

-- ---- 16 to 18: agents and dependencies, after 4 and before the rows

-- 16: an agent is a shader, host or queue agent
unfoldable pub kind_over : List (List ℕ) → ℕ → Bool
kind_over p a = ltb QUEUE (agent_kind p a)

unfoldable pub agents_known : List ℕ → Bool
agents_known s = not (any_below (agents_at s) (kind_over (places_of s)))

-- 17: there are not too many dependencies
unfoldable pub dependencies_few : List ℕ → Bool
dependencies_few s = leb (dependency_count (dependency_bytes s)) DEPENDENCIES

-- 18: an end of dependency k is no row, of n
unfoldable pub names_missing : List ℕ → ℕ → ℕ → Bool
names_missing d n k = not (ltb (dependency_from d k) n and ltb (dependency_to d k) n)

unfoldable pub dependencies_named : List ℕ → Bool
dependencies_named s = not (any_below (dependency_count (dependency_bytes s)) (names_missing (dependency_bytes s) (rows_at s)))

unfoldable pub hosts_fault : List ℕ → ℕ
hosts_fault s = cond (agents_known s) (cond (dependencies_few s) (cond (dependencies_named s) 0 18) 17) 16

-- ---- the header's number, 0 for none

-- 1 to 4 in their order, or what comes after them
unfoldable pub shape_or : ℕ → List ℕ → ℕ
shape_or next s = cond (leb HEADER (length s)) (cond (version_fits s) (cond (limits_fit s) (cond (length_fits s) next 4) 3) 2) 1

-- 1 to 4 alone, which the first of two pieces is asked for
unfoldable pub shape_fault : List ℕ → ℕ
shape_fault s = shape_or 0 s

unfoldable pub header_fault : List ℕ → ℕ
header_fault s = shape_or (hosts_fault s) s

-- ---- in their order

unfoldable pub faulty : (ℕ → ℕ) → ℕ → Bool
faulty f i = not (eqb (f i) 0)

-- the first row below n that f gives a number, refused; else what comes next
unfoldable pub first_fault : (ℕ → ℕ) → ℕ → Admission → Admission
first_fault f n next = let i = least n (faulty f) in cond (ltb i n) (Refused (f i) i) next

-- the fault of row i by itself
unfoldable pub row_fault_at : List ℕ → ℕ → ℕ
row_fault_at s i = row_fault (has_hosts s) (places_of s) (agents_at s) (row_of (row_bytes s) i) (source_of (row_bytes s) i)

-- refusals 1 to 10 and 14 to 20: the header's at row 0, then rows ascending through 5 to 7, 19 and 20, then rows ascending through 8 to 10, 14 and 15
unfoldable pub admission : Bool → List ℕ → Admission
admission blanks s =
    cond (eqb (header_fault s) 0)
    (first_fault (row_fault_at s) (rows_at s) (first_fault (table_fault blanks (table_of s) (sources_of s)) (rows_at s) (Admitted (agents_at s) (rows_at s))))
    (Refused (header_fault s) 0)

-- ---- what is said of it

-- a refusal's number and row; an admission has neither
unfoldable pub refusal_of : Admission → Refusal
refusal_of (Refused n i) = refusal n i
refusal_of (Admitted a n) = refusal 0 0

-- a refusal as `refused` of its number and row, else v, whatever kind of answer it is
unfoldable pub when_admitted : {A : Type 0} → (ℕ → ℕ → A) → Admission → A → A
when_admitted refused (Refused n i) v = refused n i
when_admitted refused (Admitted a n) v = v
