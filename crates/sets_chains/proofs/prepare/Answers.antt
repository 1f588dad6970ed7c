use Rattle.sets_chains.specs.Availability.{ready_chains, ready_alone}
use Rattle.sets_chains.proofs.prepare.Goals as goal

pub returns-then-chains : goal.returns-then-chains
returns-then-chains c =
    let pre = c.requires in
    ready_chains pre.0 pre.1 pre.2 c.fill_chains.ensures

pub returns-else-chains : goal.returns-else-chains
returns-else-chains c = let pre = c.requires in ready_alone pre.0 c.if-chains.false pre.1 pre.2
