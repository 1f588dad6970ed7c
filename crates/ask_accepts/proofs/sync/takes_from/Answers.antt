use mathlib.Core.Path.{sym, ◌∙◌}
use Rattle.finite.specs.Logic.{◌and◌}
use Rattle.run_rows.specs.Forms.{takes_apart, takes_none, takes_on}
use Rattle.ask_accepts.proofs.sync.takes_from.Goals as goal

pub returns-then-not-mutual_at : goal.returns-then-not-mutual_at
returns-then-not-mutual_at c = takes_apart _ _ _ _ _ _ (sym c.mutual_at.ensures ∙ c.if-not-mutual_at.true)

pub returns-then-t-k : goal.returns-then-t-k
returns-then-t-k c = takes_none _ _ _ _ _ _ _ c.atomic_source-k.ensures c.if-t-k.true

pub returns : goal.returns
unfolding ◌and◌
returns c =
    rw (c.writes.ensures, c.reads.ensures)
    (takes_on _ _ _ _ _ _ _ _ _ _ (sym c.mutual_at.ensures ∙ c.if-not-mutual_at.false)
    c.atomic_source-k.ensures c.if-t-k.false c.row-r.ensures c.row-q.ensures
    c.sequence_at.ensures)
