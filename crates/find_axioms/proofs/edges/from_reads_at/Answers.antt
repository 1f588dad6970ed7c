use Rattle.find_axioms.specs.Edges.{from_initial, from_source_lem}
use Rattle.finite.specs.Logic.{◌and◌}
use Rattle.model.specs.Table.{decode}
use mathlib.Core.Path.{sym, ◌∙◌}
use Rattle.find_axioms.proofs.edges.from_reads_at.Goals as goal

pub returns-then-is_initial : goal.returns-then-is_initial
unfolding decode ◌and◌
returns-then-is_initial c =
    from_initial _ _ _ _ _ _ _ c.source_at-s.ensures c.row-r.ensures c.row-q.ensures _ _ _
    (sym c.is_initial.ensures ∙ c.if-is_initial.true)
    c.reads.ensures c.writes.ensures c.overlap.ensures

pub returns : goal.returns
unfolding decode ◌and◌
returns c =
    from_source_lem _ _ _ _ _ _ _ c.source_at-s.ensures c.row-r.ensures c.row-q.ensures _ _
    (sym c.is_initial.ensures ∙ c.if-is_initial.false)
    c.reads.ensures c.follows_source.ensures
