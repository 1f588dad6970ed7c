use borrow.Author.Tests.{eq-eqb}
use Rattle.model.specs.Report.{share_of}
use Rattle.ask_report.specs.Counts.{share_some}
use borrow.Author.Rules.{rules}
use Rattle.ask_report.proofs.counts.share.Goals as goal

pub returns-then-conflicting-eq0 : goal.returns-then-conflicting-eq0
unfolding share_of
returns-then-conflicting-eq0 c = simp (eq-eqb _ _ c.if-conflicting-eq0.true)

pub returns : goal.returns
returns c =
    let a = c.args in
    share_some a.racing a.conflicting (search rules) (search rules) c.if-conflicting-eq0.false
