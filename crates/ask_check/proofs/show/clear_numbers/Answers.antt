use Rattle.std.proofs.Common.{rules, arith}
use Rattle.bits.specs.Bit.{zeros_filled}
use Rattle.model.specs.Limits.{CYCLE}
use Rattle.ask_check.proofs.show.clear_numbers.Goals as goal

pub returns : goal.returns
returns c =
    let filled = c.fill.ensures.after (search rules) in
    search (rules, zeros_filled c.args.c.now 0 CYCLE (omega arith), filled)
