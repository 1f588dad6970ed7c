use mathlib.Core.Path.{sym, ◌∙◌}
use native.Mathlib.Omega.{arith}
use Rattle.bits.specs.Stage.{holds_bit}
use Rattle.finite.specs.Logic.{◌and◌}
use Rattle.run_rows.specs.Forms.{takes_apart, takes_none, takes_on}
use Rattle.flags_sync.proofs.carriers.takes_from_at.Goals as goal

pub returns-then-not-get : goal.returns-then-not-get
returns-then-not-get c =
    takes_apart _ _ _ _ _ _ (sym (holds_bit c.requires.2.mutuals _ c.args.x c.args.y (omega arith) (omega arith)
    (omega arith)) ∙ sym c.get.ensures ∙ c.if-not-get.true)

pub returns-then-t-k : goal.returns-then-t-k
returns-then-t-k c = takes_none _ _ _ _ _ _ _ c.atomic_source-s.ensures c.if-t-k.true

pub returns : goal.returns
unfolding ◌and◌
returns c =
    let m = sym (holds_bit c.requires.2.mutuals _ c.args.x c.args.y (omega arith) (omega arith) (omega arith))
    ∙ sym c.get.ensures ∙ c.if-not-get.false in
    let v = c.get-b.ensures ∙ holds_bit c.requires.2.sequences _ c.args.x _ (omega arith) (omega arith) c.if-t-k.false in
    rw (c.writes.ensures, c.reads.ensures)
    (takes_on _ _ _ _ _ _ _ _ _ _ m c.atomic_source-s.ensures c.if-t-k.false
    c.row-r.ensures c.row-q.ensures v)
