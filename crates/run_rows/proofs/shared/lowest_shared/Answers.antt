use Rattle.run_rows.specs.Shared.{start_shared, ends_apart}
use Rattle.run_rows.proofs.shared.lowest_shared.Goals as goal

pub returns-then-start-end : goal.returns-then-start-end
returns-then-start-end c = start_shared _ _ _ _ _ _ c.max-start.ensures c.min-end.ensures c.if-start-end.true

pub returns : goal.returns
returns c = ends_apart _ _ _ _ _ _ c.max-start.ensures c.min-end.ensures c.if-start-end.false
