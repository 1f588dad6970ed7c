use mathlib.Core.Path.{sym, ◌∙◌}
use native.Mathlib.Omega.{arith}
use Rattle.flags_location.specs.Given.{given_kept}
use Rattle.flags_location.specs.Domains.{given_meeting, given_sources, made_unhosted, made_hosted}
use Rattle.flags_location.proofs.hosted.make_hosted.Goals as goal

pub returns-then-is_unhosted : goal.returns-then-is_unhosted
returns-then-is_unhosted c =
    let pre = c.requires in
    made_unhosted _ _ (sym c.is_unhosted.ensures
    ∙ c.if-is_unhosted.true) pre c.clear.ensures

pub fill_met-requires : goal.fill_met-requires
fill_met-requires c =
    given_kept (omega arith) c.make_system.ensures.frame
    c.requires

pub fill_reached-requires : goal.fill_reached-requires
fill_reached-requires c =
    given_meeting c.requires
    c.make_system.ensures.frame c.fill_met.ensures

pub fill_hosted-requires : goal.fill_hosted-requires
fill_hosted-requires c =
    given_sources
    c.requires
    c.make_system.ensures
    c.fill_met.ensures.frame c.fill_reached.ensures

pub returns : goal.returns
returns c =
    made_hosted (omega arith) c.make_system.ensures.frame c.fill_met.ensures.frame c.fill_reached.ensures.frame
    c.fill_hosted.ensures
