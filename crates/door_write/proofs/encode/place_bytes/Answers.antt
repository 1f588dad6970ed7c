use Rattle.std.proofs.Common.{rules}
use Rattle.finite.specs.Lists.{from_fn_tabulates}
use Rattle.door_write.specs.Encode.{place_byte}
use Rattle.door_write.proofs.encode.place_bytes.Goals as goal

pub returns : goal.returns
unfolding place_byte
returns c =
    from_fn_tabulates _ _ (place_byte c.args.hosts c.args.p) c.from_fn.result 0 (λ k p q y e s. search rules) 256 c.from_fn.ensures.items
