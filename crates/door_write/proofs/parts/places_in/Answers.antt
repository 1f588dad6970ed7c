use Rattle.std.proofs.Common.{rules, []}
use Rattle.finite.specs.Lists.{from_fn_tabulates}
use Rattle.model.specs.Limits.{AGENTS}
use Rattle.door_write.specs.Parts.{place_in, places_in}
use Rattle.door_write.proofs.parts.places_in.Goals as goal

pub returns : goal.returns
unfolding places_in
returns c =
    from_fn_tabulates _ _ (place_in c.args.q.now) c.from_fn.result [] (λ k p q y e s. search rules) AGENTS c.from_fn.ensures.items
