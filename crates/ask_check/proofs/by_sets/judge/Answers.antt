use Rattle.ask_check.specs.Engine.{to_judge, judges}
use Rattle.ask_check.proofs.by_sets.judge.Goals as goal

pub judge_located-requires : goal.judge_located-requires
judge_located-requires c =
    let pre = c.requires in
    let made = c.locate.ensures in
    (pre.1.numbers, pre.2, to_judge made pre.1.work)

pub returns : goal.returns
returns c =
    judges c.locate.ensures.frame c.judge_located.ensures
