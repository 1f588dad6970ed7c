use mathlib.Core.Path.{sym, ◌∙◌}
use Rattle.sets_of_table.specs.Ask.{few}
use Rattle.sets_location.specs.Seen.{seeing_begin, seeing_turn, seeing_less, seeing_end}
use Rattle.sets_location.proofs.part.seen.Goals as goal

pub loop-v-init : goal.loop-v-init
loop-v-init c = seeing_begin _ _ c.requires.1.rows _ _ c.requires.0 c.none-all.ensures

pub seen_by-requires : goal.seen_by-requires
seen_by-requires c =
    (c.loop-v.invariant.low _ c.in-Some.ensures.hit, c.requires.1)

pub of_agent-requires : goal.of_agent-requires
of_agent-requires c =
    (c.loop-v.invariant.low _ c.in-Some.ensures.hit, c.requires.1)

pub loop-v-smaller : goal.loop-v-smaller
loop-v-smaller c =
    seeing_less _ _ c.requires.1.rows _ _ _ _ _ c.loop-v.invariant c.in-Some.ensures c.seen_by.ensures c.of_agent.ensures c.bitor_assign.ensures.after c.sub-left.ensures

pub loop-v-preserved : goal.loop-v-preserved
loop-v-preserved c =
    seeing_turn _ _ c.requires.1.rows _ _ _ _ _ c.loop-v.invariant c.in-Some.ensures c.seen_by.ensures c.of_agent.ensures c.bitor_assign.ensures.after c.sub-left.ensures

pub returns : goal.returns
returns c =
    seeing_end _ _ c.requires.1.rows _ _ (few c.requires.1) (c.in_default.ensures) c.loop-v.invariant
