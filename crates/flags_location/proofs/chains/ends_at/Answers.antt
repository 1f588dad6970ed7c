use mathlib.Core.Path.{sym, ◌∙◌}
use Rattle.model.specs.Table.{decode}
use Rattle.flags_location.specs.Chains.{ends_reader, ends_other}
use Rattle.flags_location.proofs.chains.ends_at.Goals as goal

pub returns-then-reads : goal.returns-then-reads
unfolding decode
returns-then-reads c = ends_reader _ _ _ _ _ _ _ c.row-q.ensures (sym c.reads.ensures ∙ c.if-reads.true) c.some_shown.ensures

pub returns : goal.returns
unfolding decode
returns c = ends_other _ _ _ _ _ _ _ c.row-q.ensures (sym c.reads.ensures ∙ c.if-reads.false) c.met_at.ensures
