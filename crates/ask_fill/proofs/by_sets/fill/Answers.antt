use Rattle.ask_check.specs.Engine.{to_judge}
use Rattle.ask_fill.specs.Parts.{fills}
use Rattle.ask_fill.proofs.by_sets.fill.Goals as goal

pub settle-requires : goal.settle-requires
settle-requires c =
    let pre = c.requires in
    let made = c.locate.ensures in
    (pre.1.numbers, pre.2, to_judge made pre.1.work)

pub returns : goal.returns
returns c =
    fills c.locate.ensures.frame c.settle.ensures
