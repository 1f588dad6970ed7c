use Rattle.std.proofs.Common.{rules}
use Rattle.finite.specs.Lists.{from_fn_tabulates}
use Rattle.model.specs.Limits.{DEPENDENCIES}
use Rattle.door_write.specs.Parts.{end_in}
use Rattle.door_write.proofs.parts.ends_in.Goals as goal

pub returns : goal.returns
unfolding end_in
returns c =
    from_fn_tabulates _ _ (end_in c.args.q.now c.args.at) c.from_fn.result 0 (λ k p q y e s. search rules) DEPENDENCIES c.from_fn.ensures.items
