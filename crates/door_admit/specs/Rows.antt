-- The parts of an admission: 16 to 18 over places and dependencies, and what comes after them, over the bytes of the rows alone.
use Rattle.std.specs.Prelude.{Bool, false, not, cond, List, [], ℕ, ltb, leb, eqb}
use Rattle.finite.specs.Logic.{◌and◌}
use Rattle.finite.specs.Below.{any_below, least}
use Rattle.std.specs.declared.result.Result.{Result}
use Rattle.std.specs.declared.result.Result.TheVariants.{Ok, Err}
use Rattle.model.specs.declared.Row.{Row}
use Rattle.model.specs.declared.Admission.{Admission}
use Rattle.model.specs.declared.Admission.TheVariants.{Admitted}
use Rattle.model.specs.declared.Refusal.{Refusal}
use Rattle.model.specs.Limits.{DEPENDENCIES}
use Rattle.model.specs.Row.{access}
use Rattle.model.specs.Table.{Mode, row_of, source_of, dependency_count, decode}
use Rattle.model.specs.Refusal.{refusal, kind_over, names_missing, faulty, first_fault}
use Rattle.model.specs.TableFault.{outside, table_fault}
use Rattle.model.specs.RowFault.{row_fault}

-- 16 to 18, of so many agents with the places p, and of the dependencies in their bytes d, which name rows below n
unfoldable pub hosts_fault_in : List (List ℕ) → ℕ → List ℕ → ℕ → ℕ
hosts_fault_in p agents d n =
    cond (not (any_below agents (kind_over p)))
    (cond (leb (dependency_count d) DEPENDENCIES) (cond (not (any_below (dependency_count d) (names_missing d n))) 0 18) 17)
    16

-- the first row below n that f gives a number, refused
unfoldable pub first_refused : (ℕ → ℕ) → ℕ → Result Unit Refusal
first_refused f n = let i = least n (faulty f) in cond (ltb i n) (Err (refusal (f i) i)) (Ok tt)

-- the fault of row i by itself, in the bytes b of the rows
unfoldable pub row_fault_in : Bool → List (List ℕ) → ℕ → List ℕ → ℕ → ℕ
row_fault_in hosts p agents b i = row_fault hosts p agents (row_of b i) (source_of b i)

-- a mode that says of the ranks alone whether they are counted: admission reads no more of one
abbrev pub ranks : Bool → Mode
ranks counted = record { counted = counted; chains = false; dependencies = 0; first = []; second = [] }

-- n rows in their bytes b, with the places p: rows ascending through 5 to 7, 19 and 20, then rows ascending through 8 to 10, 14 and 15
unfoldable pub rows_admission : Bool → Bool → ℕ → List ℕ → List (List ℕ) → Bool → ℕ → Admission
rows_admission blanks hosts agents b p counted n =
    first_fault (row_fault_in hosts p agents b) n (first_fault (table_fault blanks (decode b p (ranks counted) n) (source_of b)) n (Admitted agents n))

-- r is an access of the reference v
unfoldable pub of_reference : ℕ → Row → Bool
of_reference v r = access r and eqb r.reference v

-- row j, in the bytes b of the rows, is a rival of r, and no count of the run that begins with f's
unfoldable pub outside_in : List ℕ → Row → Row → ℕ → Bool
outside_in b r f j = outside r f (row_of b j)
