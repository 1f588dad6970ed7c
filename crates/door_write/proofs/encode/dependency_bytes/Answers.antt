use Rattle.std.proofs.Common.{rules}
use Rattle.finite.specs.Lists.{from_fn_tabulates}
use Rattle.door_write.specs.Encode.{dependency_byte}
use Rattle.door_write.proofs.encode.dependency_bytes.Goals as goal

pub returns : goal.returns
returns c =
    from_fn_tabulates _ _ (dependency_byte c.args.d) c.from_fn.result 0 (λ k p q y e s. search rules) 258 c.from_fn.ensures.items
