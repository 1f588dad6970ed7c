use mathlib.Core.Path.{ap, ◌∙◌}
use Rattle.stramashly.specs.Packed.{pack_result, report_number, pack_report, share_after}
use Rattle.stramashly.proofs.Laws.{share_left}
use Rattle.stramashly.proofs.stramashly_report2.Goals as goal

pub returns : goal.returns
unfolding pack_report share_after
returns c =
    let told = c.report_both-answer.ensures in
    (c.pack.ensures ∙ ap (pack_result report_number) told.0, told.1, told.2, share_left _ c.put_share.ensures told.0)
