-- What a check answers, and what it leaves in the lent buffers.
use Rattle.std.specs.Prelude.{Bool, false, cond, List, ◌++◌, ℕ, ◌-◌, length, get_or, drop, replicate, ltb}
use Rattle.finite.specs.Lists.{tabulate}
use Rattle.std.specs.declared.result.Result.{Result}
use Rattle.std.specs.declared.result.Result.TheVariants.{Ok, Err}
use Rattle.model.specs.declared.Refusal.{Refusal}
use Rattle.model.specs.declared.CheckAnswer.{CheckAnswer}
use Rattle.model.specs.declared.CheckAnswer.TheVariants.{Cycle, Overwritten, Race, RaceFree}
use Rattle.model.specs.Limits.{WORK, CYCLE, CYCLE_EDGES}
use Rattle.model.specs.Table.{Table, table_under, sources_of}
use Rattle.model.specs.Race.{race_row, race_partner, race_byte}
use Rattle.model.specs.Edge.{cycle_row, cycle_rows, cycle_edges, over_reader, over_writer, over_byte}
use Rattle.model.specs.Refusal.{refusal, buffers_fit, admission, when_admitted}

-- ---- of any kind of answer

-- the first race as `said` of its rows and byte; else what comes next
unfoldable pub race_or : {A : Type 0} → (ℕ → ℕ → ℕ → A) → A → Table → A
race_or said next t =
    let x = race_row t in
    let y = race_partner t x in
    cond (ltb x t.rows) (said x y (race_byte t x y)) next

-- ---- the verdict, in the words of docs/RULES.md and with all that is shown

pub data Verdict : Type 0 where
  -- number and row
  refused : ℕ → ℕ → Verdict
  -- rows, and the edge number of each step
  cyclic : List ℕ → List ℕ → Verdict
  -- Y, Z, b
  overwritten : ℕ → ℕ → ℕ → Verdict
  -- lower row, higher row, byte
  race : ℕ → ℕ → ℕ → Verdict
  race_free : Verdict

-- the least Y, Z, b that break axiom B; else what comes next
unfoldable pub overwritten_or : Verdict → Table → (ℕ → ℕ) → Verdict
overwritten_or next t source =
    let y = over_reader t source in
    let z = over_writer t source y in
    cond (ltb y t.rows) (overwritten y z (over_byte t source y z)) next

-- the cycle that breaks axiom A; else what comes next
unfoldable pub cyclic_or : Verdict → Table → (ℕ → ℕ) → Verdict
cyclic_or next t source = cond (ltb (cycle_row t source) t.rows) (cyclic (cycle_rows t source) (cycle_edges t source)) next

-- of a table that is admitted
unfoldable pub verdict : Table → (ℕ → ℕ) → Verdict
verdict t source = cyclic_or (overwritten_or (race_or race race_free t) t source) t source

-- of any bytes, on a device with or without chains, with a work area and a cycle buffer of such lengths
unfoldable pub check : Bool → List ℕ → ℕ → ℕ → Verdict
check chains s work buffer =
    cond (buffers_fit CYCLE work buffer) (when_admitted refused (admission false s) (verdict (table_under chains s) (sources_of s))) (refused 11 0)

-- ---- what comes back

-- each case of the enum, with the number and values of docs/RULES.md
unfoldable pub check_answer : Verdict → Result CheckAnswer Refusal
check_answer (refused n i) = Err (refusal n i)
check_answer (cyclic rows edges) = Ok (Cycle (length rows))
check_answer (overwritten y z b) = Ok (Overwritten (record { reader = y; writer = z; byte = b }))
check_answer (race x y b) = Ok (Race (record { first = x; second = y; byte = b }))
check_answer race_free = Ok RaceFree

-- the cycle's numbers: its rows from place 0, its edge numbers from place CYCLE_EDGES, other places zero
unfoldable pub cycle_number : List ℕ → List ℕ → ℕ → ℕ
cycle_number rows edges k = cond (ltb k CYCLE_EDGES) (get_or rows k 0) (get_or edges (k - CYCLE_EDGES) 0)

-- the cycle buffer: its first numbers become the cycle's; every other verdict leaves it alone
unfoldable pub cycle_after : Verdict → List ℕ → List ℕ
cycle_after (cyclic rows edges) c = tabulate (cycle_number rows edges) CYCLE ++ drop CYCLE c
cycle_after (refused n i) c = c
cycle_after (overwritten y z b) c = c
cycle_after (race x y b) c = c
cycle_after race_free c = c

-- the work area: its first words become zeros, unless the table is refused
unfoldable pub wiped : List ℕ → List ℕ
wiped w = replicate WORK 0 ++ drop WORK w

unfoldable pub work_after : Verdict → List ℕ → List ℕ
work_after (refused n i) w = w
work_after (cyclic rows edges) w = wiped w
work_after (overwritten y z b) w = wiped w
work_after (race x y b) w = wiped w
work_after race_free w = wiped w
