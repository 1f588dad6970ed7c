use Rattle.ask_check.specs.Engine.{located, judges}
use Rattle.ask_check.proofs.by_flags.judge.Goals as goal

pub judge_located-requires : goal.judge_located-requires
judge_located-requires c =
    let pre = c.requires in
    let made = c.locate.ensures in
    (pre.1.numbers, pre.2, located pre.0 pre.1.work made)

pub returns : goal.returns
returns c =
    judges c.locate.ensures.1 c.judge_located.ensures
