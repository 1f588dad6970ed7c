use mathlib.Core.Path.{sym, ◌∙◌}
use Rattle.flags_location.specs.Reach.{reach_none, reach_first, reach_both}
use Rattle.flags_location.proofs.reach.make_reach.Goals as goal

pub returns-then-not-chains : goal.returns-then-not-chains
returns-then-not-chains c = reach_none (sym c.chains.ensures ∙ c.if-not-chains.true) c.requires

pub fill_in-requires : goal.fill_in-requires
fill_in-requires c =
    reach_first c.requires
    c.fill_out.ensures c.close.ensures

pub returns : goal.returns
returns c =
    reach_both
    c.requires
    c.fill_out.ensures
    c.close.ensures
    c.fill_in.ensures c.close-2.ensures
