use Rattle.ask_check.specs.Engine.{located}
use Rattle.ask_fill.specs.Parts.{fills}
use Rattle.ask_fill.proofs.by_flags.fill.Goals as goal

pub settle-requires : goal.settle-requires
settle-requires c =
    let pre = c.requires in
    let made = c.locate.ensures in
    (pre.1.numbers, pre.2, located pre.0 pre.1.work made)

pub returns : goal.returns
returns c =
    fills c.locate.ensures.1 c.settle.ensures
