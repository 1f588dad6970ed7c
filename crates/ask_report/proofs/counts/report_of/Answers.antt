use mathlib.Core.Path.{refl}
use Rattle.ask_report.specs.Counts.{counted_none, counted_some}
use Rattle.ask_report.proofs.counts.report_of.Goals as goal

pub returns-in_default : goal.returns-in_default
returns-in_default c =
    counted_none c.count_pairs-c.ensures refl c.share.ensures c.in_default.is

pub returns : goal.returns
returns c =
    counted_some c.count_pairs-c.ensures refl c.share.ensures _ c.in-Some.is
