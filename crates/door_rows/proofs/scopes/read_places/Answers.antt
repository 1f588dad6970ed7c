use Rattle.std.proofs.Common.{rules, []}
use Rattle.finite.specs.Lists.{from_fn_tabulates}
use Rattle.model.specs.Header.{places_of, slot_at}
use Rattle.model.specs.Limits.{AGENTS}
use Rattle.door_rows.proofs.scopes.read_places.Goals as goal

pub returns : goal.returns
unfolding places_of
returns c =
    from_fn_tabulates _ _ (slot_at c.args.s.now) c.from_fn.result [] (λ k p q y e s. search rules) AGENTS c.from_fn.ensures.items
