-- What a run of the definitions is, and document 01's starred runs, computed from the definitions. Assumes nothing.
use Rattle.std.specs.Prelude.{◌≡◌, refl, Bool, false, List, [], ◌∷◌, ◌++◌, ℕ, ◌+◌, ◌*◌, length, set}
use Rattle.model.specs.declared.Reason.TheVariants.{ProgramOrder, Chain}
use Rattle.model.specs.Report.{Told}
use Rattle.model.specs.Limits.{WORK, CYCLE, SOURCES}
use Rattle.model.specs.Table.{table_under}
use Rattle.model.specs.Location.{before}
use Rattle.model.specs.Check.{Verdict, cyclic, race, race_free, check}
use Rattle.model.specs.Fill.{Outcome, filled, fill}
use Rattle.model.specs.Reason.{Judged, judge}
use Rattle.model.specs.Report.{report}
use Rattle.model_runs.specs.Opened.{opened}

-- ---- a run: what is asked of a table, and the answer

pub data Answer : Type 0 where
  checked : Verdict → Answer
  filling : Outcome → Answer
  reported : Told → Answer
  reasoned : Judged → Answer
  ordered : Bool → Answer

pub data Ask : Type 0 where
  as_check : Ask
  as_fill : Ask
  as_report : Ask
  -- whether program order leads from the one moment to the other
  as_order : ℕ → ℕ → Ask
  -- whether a chain of steps for a class set does
  as_chain : ℕ → ℕ → ℕ → List ℕ → Ask
  -- whether row 0 is location-ordered before this row at byte 0, on a device with or without chains
  as_before : Bool → ℕ → Ask

pub record Run : Type 0 where
  pub ask : Ask
  pub table : List ℕ
  pub gives : Answer

-- without chains, with buffers just large enough; to unfold it is to unfold all that it computes with
unfoldable pub answer : Ask → List ℕ → Answer
unfolding opened
answer as_check s = checked (check false s WORK CYCLE)
answer as_fill s = filling (fill false s WORK SOURCES)
answer as_report s = reported (report false s WORK CYCLE)
answer (as_order m k) s = reasoned (judge s m k ProgramOrder [])
answer (as_chain m k classes steps) s = reasoned (judge s m k (Chain classes) steps)
answer (as_before chains y) s = ordered (before (table_under chains s) 0 y 0)

-- ---- tables

abbrev pub joined : List (List ℕ) → List ℕ
joined [] = []
joined (l ∷ ls) = l ++ joined ls

-- a table of places and rows, each as its bytes; its size stands in one byte
abbrev pub table : List (List ℕ) → List (List ℕ) → List ℕ
table p r = 0 ∷ 0 ∷ 0 ∷ (4 + 6 * length p + 16 * length r) ∷ 1 ∷ length p ∷ length r ∷ 0 ∷ (joined p ++ joined r)

-- byte k of row i becomes v, in a table of a agents
abbrev pub change : ℕ → ℕ → ℕ → ℕ → List ℕ → List ℕ
change a i k v s = set s (8 + 6 * a + 16 * i + k) v

-- agents of one workgroup, in subgroups of their own
abbrev pub agent₀ : List ℕ
agent₀ = 0 ∷ 0 ∷ 0 ∷ 0 ∷ 0 ∷ 0 ∷ []

abbrev pub agent₁ : List ℕ
agent₁ = 0 ∷ 0 ∷ 0 ∷ 0 ∷ 0 ∷ 1 ∷ []

abbrev pub agent₂ : List ℕ
agent₂ = 0 ∷ 0 ∷ 0 ∷ 0 ∷ 0 ∷ 2 ∷ []

-- a table of two agents
abbrev pub two : List (List ℕ) → List ℕ
two r = table (agent₀ ∷ agent₁ ∷ []) r

-- a write of the data
abbrev pub write : List ℕ
write = 1 ∷ 0 ∷ 0 ∷ 0 ∷ 0 ∷ 1 ∷ 0 ∷ 4 ∷ 0 ∷ 0 ∷ 0 ∷ 1 ∷ 255 ∷ 255 ∷ 0 ∷ 0 ∷ []

-- a release of the flag, which makes available
abbrev release : List ℕ
release = 3 ∷ 0 ∷ 2 ∷ 2 ∷ 1 ∷ 3 ∷ 0 ∷ 4 ∷ 0 ∷ 4 ∷ 0 ∷ 2 ∷ 255 ∷ 255 ∷ 0 ∷ 1 ∷ []

-- an acquire of the flag, which makes visible
abbrev acquire : List ℕ
acquire = 2 ∷ 1 ∷ 1 ∷ 2 ∷ 1 ∷ 5 ∷ 0 ∷ 4 ∷ 0 ∷ 4 ∷ 0 ∷ 2 ∷ 0 ∷ 1 ∷ 0 ∷ 0 ∷ []

-- a read of the data
abbrev pub read : List ℕ
read = 0 ∷ 1 ∷ 0 ∷ 0 ∷ 0 ∷ 1 ∷ 0 ∷ 4 ∷ 0 ∷ 0 ∷ 0 ∷ 1 ∷ 0 ∷ 0 ∷ 0 ∷ 0 ∷ []

-- a relaxed write of the flag by the releasing agent
abbrev relaxed : List ℕ
relaxed = 3 ∷ 0 ∷ 0 ∷ 2 ∷ 0 ∷ 1 ∷ 0 ∷ 4 ∷ 0 ∷ 4 ∷ 0 ∷ 2 ∷ 255 ∷ 255 ∷ 0 ∷ 2 ∷ []

-- a relaxed RMW of the flag by a third agent
abbrev relaxed_rmw : List ℕ
relaxed_rmw = 4 ∷ 2 ∷ 0 ∷ 2 ∷ 0 ∷ 1 ∷ 0 ∷ 4 ∷ 0 ∷ 4 ∷ 0 ∷ 2 ∷ 0 ∷ 1 ∷ 0 ∷ 2 ∷ []

abbrev pub P : List ℕ
P = table (agent₀ ∷ agent₁ ∷ []) (write ∷ release ∷ acquire ∷ read ∷ [])

abbrev pub Q : List ℕ
Q = change 2 4 13 0 (change 2 3 13 2 (table (agent₀ ∷ agent₁ ∷ []) (write ∷ release ∷ relaxed ∷ acquire ∷ read ∷ [])))

abbrev pub Q_rmw : List ℕ
Q_rmw = change 3 3 13 2 (table (agent₀ ∷ agent₁ ∷ agent₂ ∷ []) (write ∷ release ∷ relaxed_rmw ∷ acquire ∷ read ∷ []))

-- ---- the starred runs

abbrev pub starred : List Run
starred =
    record { ask = as_check; table = P; gives = checked race_free }
    -- row 1 without make available
    ∷ record { ask = as_check; table = change 2 1 5 1 P; gives = checked (race 0 3 0) }
    -- row 2 without make visible
    ∷ record { ask = as_check; table = change 2 2 5 1 P; gives = checked (race 0 3 0) }
    -- row 3 private
    ∷ record { ask = as_check; table = change 2 3 5 0 P; gives = checked (race 0 3 0) }
    -- row 3 reads the initial value
    ∷ record { ask = as_check; table = change 2 3 12 255 (change 2 3 13 255 P); gives = checked (cyclic (0 ∷ 3 ∷ []) (1 ∷ 4 ∷ [])) }
    -- rows 2 and 3 both do
    ∷ record { ask = as_check; table = change 2 2 12 255 (change 2 2 13 255 (change 2 3 12 255 (change 2 3 13 255 P))); gives = checked (race 0 3 0) }
    -- agents in two workgroups
    ∷ record { ask = as_check; table = set P 17 1; gives = checked (race 0 3 0) }
    -- row 3 blank
    ∷ record { ask = as_fill; table = change 2 3 12 255 (change 2 3 13 254 P); gives = filling (filled (65535 ∷ 65535 ∷ 1 ∷ 0 ∷ [])) }
    -- race-free in document 01; a race since its first change request mended M4's release sequences
    ∷ record { ask = as_check; table = Q; gives = checked (race 0 4 0) }
    ∷ record { ask = as_check; table = Q_rmw; gives = checked race_free }
    ∷ record { ask = as_check; table = table [] []; gives = checked race_free }
    ∷ []

-- the first of them, computed by the prover too
pub P_holds : answer as_check P ≡ checked race_free
unfolding answer
P_holds = refl
