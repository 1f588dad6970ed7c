use Rattle.std.proofs.Common.{rules}
use Rattle.finite.specs.Lists.{from_fn_tabulates}
use Rattle.model.specs.Limits.{DEPENDENCIES}
use Rattle.model.specs.Table.{dependency_end}
use Rattle.door_rows.proofs.bytes.read_ends.Goals as goal

pub returns : goal.returns
unfolding dependency_end
returns c =
    from_fn_tabulates _ _ (dependency_end c.args.d.now c.args.at) c.from_fn.result 0 (λ k p q y e s. search rules) DEPENDENCIES c.from_fn.ensures.items
