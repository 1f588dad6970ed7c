use Rattle.sets_edges.specs.Edges.{reads_row, reads_none}
use native.Mathlib.Omega.{arith}
use Rattle.sets_edges.proofs.put_reads.Goals as goal

pub returns-then-source-n : goal.returns-then-source-n
returns-then-source-n c =
    let pre = c.requires in
    let below = c.if-source-n.true in
    reads_row _ _ (omega (arith, pre.0, pre.1.few)) (omega (arith, below, pre.1.few)) below c.get.ensures c.without-to.ensures c.join.ensures c.put_bit.ensures

pub returns : goal.returns
returns c =
    let pre = c.requires in
    reads_none _ _ _ _ (omega (arith, pre.0, pre.1.few)) c.if-source-n.false c.get-2.ensures c.rows.ensures c.bitand-over.ensures c.without.ensures c.join-2.ensures
