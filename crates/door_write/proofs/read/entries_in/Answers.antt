use Rattle.std.proofs.Common.{rules}
use Rattle.finite.specs.Lists.{from_fn_tabulates}
use Rattle.model.specs.Limits.{ROWS}
use Rattle.door_write.specs.Encode.{nothing, entry_of, entries_in}
use Rattle.door_write.proofs.read.entries_in.Goals as goal

pub returns : goal.returns
unfolding entries_in
returns c =
    from_fn_tabulates _ _ (entry_of c.args.rows.now) c.from_fn.result nothing (λ k p q y e s. search rules) ROWS c.from_fn.ensures.items
