-- The weekly report: how many pairs of rows conflict, what became of them, and the share that races.
use Rattle.std.specs.Prelude.{Bool, false, not, cond, List, ℕ, eqb, Float}
use Rattle.std.specs.Float.{binary64}
use Rattle.std.specs.Float.Ieee.{round}
use Rattle.finite.specs.Logic.{◌and◌, ◌or◌}
use Rattle.finite.specs.Below.{all_below}
use Rattle.finite.specs.Count.{count_pairs}
use Rattle.std.specs.declared.option.Option.{Option}
use Rattle.std.specs.declared.option.Option.TheVariants.{None, Some}
use Rattle.std.specs.declared.result.Result.{Result}
use Rattle.std.specs.declared.result.Result.TheVariants.{Ok, Err}
use Rattle.model.specs.declared.Refusal.{Refusal}
use Rattle.model.specs.declared.CheckAnswer.{CheckAnswer}
use Rattle.model.specs.declared.CheckAnswer.TheVariants as said
use Rattle.model.specs.declared.Report.{Report}
use Rattle.model.specs.declared.ReportAnswer.{ReportAnswer}
use Rattle.model.specs.declared.ReportAnswer.TheVariants as reports
use Rattle.model.specs.Limits.{LONGEST}
use Rattle.model.specs.Table.{Table, table_under}
use Rattle.model.specs.Scope.{mutually}
use Rattle.model.specs.Location.{common, before}
use Rattle.model.specs.Race.{nth, conflict, races}
use Rattle.model.specs.Refusal.{refusal}
use Rattle.model.specs.Check.{check, check_answer}

-- ---- what becomes of a conflicting pair; races are Race.antt's

-- it is mutually-ordered
unfoldable pub conflict_mutual : Table → ℕ → ℕ → Bool
conflict_mutual t x y = conflict t x y and mutually t x y

-- b is no byte of both, or has location order one way or the other
unfoldable pub ordered_at : Table → ℕ → ℕ → ℕ → Bool
ordered_at t x y b = not (common (t.row x) (t.row y) b) or before t x y b or before t y x b

unfoldable pub ordered_nth : Table → ℕ → ℕ → ℕ → Bool
ordered_nth t x y k = ordered_at t x y (nth t x k)

-- it isn't mutually-ordered but has order at every shared byte
unfoldable pub conflict_ordered : Table → ℕ → ℕ → Bool
conflict_ordered t x y = conflict t x y and not (mutually t x y) and all_below LONGEST (ordered_nth t x y)

-- ---- the four counts, each by its own test

unfoldable pub conflicting : Table → ℕ
conflicting t = count_pairs t.rows (conflict t)

unfoldable pub mutuals : Table → ℕ
mutuals t = count_pairs t.rows (conflict_mutual t)

unfoldable pub ordered : Table → ℕ
ordered t = count_pairs t.rows (conflict_ordered t)

unfoldable pub racing : Table → ℕ
racing t = count_pairs t.rows (races t)

-- ---- the share

-- the exact quotient, rounded once to a 64-bit float
unfoldable pub quotient : ℕ → ℕ → Float
quotient n d = round binary64 false n d

-- n of d; none where d is 0
unfoldable pub share_of : ℕ → ℕ → Option Float
share_of n d = cond (eqb d 0) None (Some (quotient n d))

-- ---- what is told, in the words of docs/RULES.md

pub data Told : Type 0 where
  -- number and row
  refused : ℕ → ℕ → Told
  -- the rows of the cycle
  cyclic : ℕ → Told
  -- Y, Z, b
  overwritten : ℕ → ℕ → ℕ → Told
  no_pairs : Told
  reported : Report → Told

-- the four counts with the share beside them
unfoldable pub report_of : Table → Float → Report
report_of t f = record { conflicting = conflicting t; mutuals = mutuals t; ordered = ordered t; racing = racing t; share = f }

unfoldable pub with_share : Option Float → Table → Told
with_share None t = no_pairs
with_share (Some f) t = reported (report_of t f)

-- of a table that is consistent
unfoldable pub report_on : Table → Told
report_on t = with_share (share_of (racing t) (conflicting t)) t

-- check's answer to a table that is refused or inconsistent; else the report
unfoldable pub report_answer : Result CheckAnswer Refusal → Table → Told
report_answer (Err r) t = refused r.number r.row
report_answer (Ok (said.Cycle rows)) t = cyclic rows
report_answer (Ok (said.Overwritten o)) t = overwritten o.reader o.writer o.byte
report_answer (Ok (said.Race r)) t = report_on t
report_answer (Ok said.RaceFree) t = report_on t

-- of any bytes, on a device with or without chains, with a work area and a cycle buffer of such lengths; both are left as a check
-- leaves them
unfoldable pub report : Bool → List ℕ → ℕ → ℕ → Told
report chains s work buffer = report_answer (check_answer (check chains s work buffer)) (table_under chains s)

-- ---- what comes back

-- each case of the enum, with the number and values of docs/RULES.md
unfoldable pub told_answer : Told → Result ReportAnswer Refusal
told_answer (refused n i) = Err (refusal n i)
told_answer (cyclic rows) = Ok (reports.Cycle rows)
told_answer (overwritten y z b) = Ok (reports.Overwritten (record { reader = y; writer = z; byte = b }))
told_answer no_pairs = Ok reports.NoPairs
told_answer (reported r) = Ok (reports.Report r)
