use Rattle.ask_report.specs.Whole.{reported_one}
use Rattle.ask_report.proofs.report.Goals as goal

pub returns : goal.returns
returns c =
    let args = c.args in
    reported_one _ args.table.now args.work.now args.cycle.now _ _ _ c.report_both.ensures
