use mathlib.Core.Path.{◌≡◌, refl, sym, ap, ◌∙◌}
use Prim.Native.Nat.{◌+◌}
use native.Mathlib.Omega.{arith}
use Rattle.finite.specs.Logic.{◌and◌}
use Rattle.finite.specs.Below.{least_none, least_found, least_more}
use Rattle.model.specs.declared.Row.{Row}
use Rattle.model.specs.Table.{decode}
use Rattle.model.specs.Edge.{over_nth}
use Rattle.work_area.specs.Regions.{PAIR}
use Rattle.find_axioms.specs.Overwritten.{may_is, source_row, overwrites_on, over_none}
use borrow.Author.Rules.{rules}
use Rattle.find_axioms.proofs.overwritten.over_nth.Goals as goal

pub returns-then-not-reads-writes : goal.returns-then-not-reads-writes
unfolding decode ◌and◌
returns-then-not-reads-writes c =
    let may =
    may_is _ _ _ _ _ _ _ _ _ _ _ refl c.source_at-s.ensures c.row-r.ensures c.row-q.ensures
    c.reads.ensures c.writes.ensures c.is_row.ensures
    in
    sym (over_none _ _ _ _ (sym may ∙ c.if-not-reads-writes.true))

pub loop-k-init : goal.loop-k-init
unfolding decode ◌and◌
loop-k-init c = (
  search rules,
  sym (may_is _ _ _ _ _ _ _ _ _ _ _ refl c.source_at-s.ensures c.row-r.ensures c.row-q.ensures
      c.reads.ensures c.writes.ensures c.is_row.ensures)
      ∙ c.if-not-reads-writes.false,
  least_none _,
)

pub before_byte-requires : goal.before_byte-requires
unfolding decode
before_byte-requires c =
    let l = source_row _ _ _ _ c.loop-k.invariant.1 in
    let pre = c.requires in
    search rules

pub before_byte-requires-in-loop-k : goal.before_byte-requires-in-loop-k
before_byte-requires-in-loop-k c =
    let pre = c.requires in
    search rules

pub returns-then-before_byte : goal.returns-then-before_byte
unfolding over_nth decode ◌and◌
returns-then-before_byte c =
    let loop = c.loop-k in
    let on =
    overwrites_on _ _ _ _ _ _ _ _ _ loop.invariant.1 c.source_at-s.ensures (ap (λ (v : Row). v.start + loop.k) c.row-r.ensures)
    c.before_byte.ensures c.before_byte-in-loop-k.ensures
    in
    (c.loop-k-test.true, sym (least_found _ _ _ loop.invariant.2 (sym on ∙ c.if-before_byte.true) c.loop-k-test.true))

pub loop-k-preserved : goal.loop-k-preserved
unfolding decode ◌and◌
loop-k-preserved c =
    let loop = c.loop-k in
    let on =
    overwrites_on _ _ _ _ _ _ _ _ _ loop.invariant.1 c.source_at-s.ensures (ap (λ (v : Row). v.start + loop.k) c.row-r.ensures)
    c.before_byte.ensures c.before_byte-in-loop-k.ensures
    in
    (search rules, loop.invariant.1, least_more _ _ loop.invariant.2 (sym on ∙ c.if-before_byte.false))

pub returns : goal.returns
unfolding over_nth
returns c = let e : c.loop-k.k ≡ PAIR = omega arith in rw e at c.loop-k.invariant.2
