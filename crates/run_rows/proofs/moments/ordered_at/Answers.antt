use Rattle.model.specs.Moment.{program_order}
use Rattle.model.specs.Table.{decode}
use Rattle.run_rows.specs.Early.{not_earlier, other_agent}
use mathlib.Core.Path.{ap}
use borrow.Author.Tests.{ne_eqb}
use mathlib.Core.Bool.{not}
use Rattle.run_rows.proofs.moments.ordered_at.Goals as goal

pub returns-then-k-m : goal.returns-then-k-m
returns-then-k-m c = not_earlier _ _ _ _ _ _ c.if-k-m.true

pub returns-then-not-a-b : goal.returns-then-not-a-b
returns-then-not-a-b c = other_agent _ _ _ _ _ _ _ _ c.agent-a.ensures c.agent-b.ensures (ap not (ne_eqb _ _ c.if-not-a-b.true))

pub returns : goal.returns
unfolding program_order decode
returns c = cc
