-- What a fill answers, and what it leaves in the lent buffers. The source of each blank is decided by a test of its own; the
-- filled table is then tested as a check would test it. What a fill promises is `filled-said` and `none_said` of promises/specs/Main: this page is
-- the test that decides it.
use Rattle.std.specs.Prelude.{Bool, true, false, not, cond, List, ◌++◌, ℕ, length, drop, eqb}
use Rattle.finite.specs.Logic.{◌and◌, ◌or◌}
use Rattle.finite.specs.Below.{any_below, least}
use Rattle.finite.specs.Lists.{tabulate}
use Rattle.std.specs.declared.result.Result.{Result}
use Rattle.std.specs.declared.result.Result.TheVariants.{Ok, Err}
use Rattle.model.specs.declared.Refusal.{Refusal}
use Rattle.model.specs.declared.FillAnswer.{FillAnswer}
use Rattle.model.specs.declared.FillAnswer.TheVariants.{Race, None, Filled}
use Rattle.model.specs.Limits.{SOURCES, LONGEST, INITIAL, BLANK}
use Rattle.model.specs.Row.{plain_read, writes, touches}
use Rattle.model.specs.Table.{Table, table_under, sources_of}
use Rattle.model.specs.Scope.{follows}
use Rattle.model.specs.Location.{before}
use Rattle.model.specs.Race.{nth}
use Rattle.model.specs.Edge.{before_some, consistent}
use Rattle.model.specs.Refusal.{refusal, buffers_fit, admission, when_admitted}
use Rattle.model.specs.TableFault.{writer_fits, source_broken}
use Rattle.model.specs.Check.{race_or, wiped}

-- ---- the source of a blank

module _ (t : Table) where
  -- s is not ordered before y at y's k-th byte
  unfoldable pub not_before_at : ℕ → ℕ → ℕ → Bool
  not_before_at y s k = touches (t.row y) (nth t y k) and not (before t s y (nth t y k))

  -- some writer is ordered before y
  unfoldable pub written_by : ℕ → ℕ → Bool
  written_by y z = writes (t.row z) and before_some t z y

  unfoldable pub written : ℕ → Bool
  written y = any_below t.rows (written_by y)

  -- z overwrites s before y at y's k-th byte
  unfoldable pub overwrites_between : ℕ → ℕ → ℕ → ℕ → Bool
  overwrites_between y s z k = before t s z (nth t y k) and before t z y (nth t y k)

  -- the writer z comes between s and y: after s in scoped order and before y at some byte, or between the two at a byte
  unfoldable pub between : ℕ → ℕ → ℕ → Bool
  between y s z = writes (t.row z) and ((follows t s z and before_some t z y) or any_below LONGEST (overwrites_between y s z))

  -- y may have read s: s covers y, comes before y at each byte, and nothing comes between
  unfoldable pub candidate : ℕ → ℕ → Bool
  candidate y s = writer_fits t y s and not (any_below LONGEST (not_before_at y s)) and not (any_below t.rows (between y s))

  -- the source that the blank y must have: the initial value where no writer comes before it; the number of rows where it can have none
  unfoldable pub choice : ℕ → ℕ
  choice y = cond (written y) (least t.rows (candidate y)) INITIAL

  module _ (source : ℕ → ℕ) where
    unfoldable pub blank : ℕ → Bool
    blank i = plain_read (t.row i) and eqb (source i) BLANK

    -- all sources, with each blank's choice
    unfoldable pub chosen : ℕ → ℕ
    chosen i = cond (blank i) (choice i) (source i)

  -- each source is one that a check admits
  unfoldable pub sources_fit : (ℕ → ℕ) → Bool
  sources_fit source = not (any_below t.rows (source_broken false t source))

-- ---- the outcome, in the words of docs/RULES.md and with all that is shown

pub data Outcome : Type 0 where
  -- number and row
  refused : ℕ → ℕ → Outcome
  -- lower row, higher row, byte
  race : ℕ → ℕ → ℕ → Outcome
  none : Outcome
  -- one source per row
  filled : List ℕ → Outcome

-- the filled table's sources if they make it well formed and consistent
unfoldable pub filled_or : Outcome → Table → (ℕ → ℕ) → Outcome
filled_or next t source = cond (sources_fit t source and consistent t source) (filled (tabulate source t.rows)) next

-- of a table that is admitted
unfoldable pub outcome : Table → (ℕ → ℕ) → Outcome
outcome t source = race_or race (filled_or none t (chosen t source)) t

-- of any bytes, on a device with or without chains, with a work area and a source buffer of such lengths
unfoldable pub fill : Bool → List ℕ → ℕ → ℕ → Outcome
fill chains s work buffer =
    cond (buffers_fit SOURCES work buffer) (when_admitted refused (admission true s) (outcome (table_under chains s) (sources_of s))) (refused 11 0)

-- ---- what comes back

-- each case of the enum, with the number and values of docs/RULES.md
unfoldable pub fill_answer : Outcome → Result FillAnswer Refusal
fill_answer (refused n i) = Err (refusal n i)
fill_answer (race x y b) = Ok (Race (record { first = x; second = y; byte = b }))
fill_answer none = Ok None
fill_answer (filled l) = Ok Filled

-- the source buffer: one source per row, the rest kept; untouched unless filled
unfoldable pub sources_after : Outcome → List ℕ → List ℕ
sources_after (filled l) c = l ++ drop (length l) c
sources_after (refused n i) c = c
sources_after (race x y b) c = c
sources_after none c = c

-- the work area: its first words become zeros, unless the table is refused
unfoldable pub work_after : Outcome → List ℕ → List ℕ
work_after (refused n i) w = w
work_after (race x y b) w = wiped w
work_after none w = wiped w
work_after (filled l) w = wiped w
