use Rattle.std.proofs.Common.{rules}
use Rattle.finite.specs.Lists.{from_fn_tabulates}
use Rattle.door_write.specs.Encode.{entry_byte}
use Rattle.door_write.proofs.encode.entry_bytes.Goals as goal

pub returns : goal.returns
returns c =
    from_fn_tabulates _ _ (entry_byte c.args.entries) c.from_fn.result 0 (λ k p q y e s. search rules) 2048 c.from_fn.ensures.items
