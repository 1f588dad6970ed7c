use Rattle.std.proofs.Common.{rules, ◌≡◌, ◌-◌, ◌+◌, ◌≤◌, arith, sym, ap, ◌∙◌, length}
use Rattle.bits.specs.Bit.{zeros_filled}
use Rattle.bits.proofs.clear.Goals as goal

pub returns : goal.returns
returns c =
    let a = c.args in
    let filled = c.fill.ensures.after (search rules) in
    search (rules, zeros_filled a.w.now a.from (a.to - a.from) (omega arith), filled)
