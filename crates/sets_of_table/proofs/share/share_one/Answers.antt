use mathlib.Core.Path.{◌≡◌, refl, ◌∙◌}
use native.Mathlib.Omega.{arith}
use Rattle.model.specs.Limits.{AGENTS}
use Rattle.bits.specs.Within.{within_cleared}
use Rattle.sets_of_table.specs.Share.{shared_none, shared_start, shared_more, shared_entry}
use borrow.Author.Rules.{rules}
use Rattle.sets_of_table.proofs.share.share_one.Goals as goal

pub loop-b-init : goal.loop-b-init
loop-b-init c =
    (search rules, refl, λ k o. (c.levels-l.ensures.each k o).bound, λ p h. shared_start (shared_none _ _ _ _ (search rules) c.clear.ensures))

pub join_agent-requires : goal.join_agent-requires
join_agent-requires c =
    let pre = c.requires in
    let inv = c.loop-b.invariant in
    let room = inv.1 in
    let cleared = (within_cleared _ _ (omega arith) c.clear.ensures).len in
    let below = c.loop-b-test.true in
    (omega (arith, room, cleared, pre.0), record { first = pre.1; second = omega (arith, below) }, inv.2 _ (omega (arith, below)))

pub loop-b-preserved : goal.loop-b-preserved
loop-b-preserved c =
    let inv = c.loop-b.invariant in
    let f = c.join_agent.ensures in
    let l = c.loop-b-test.true in
    (search rules, (f _ (c.levels-l.ensures.each _ (omega (arith, l)))).frame.len ∙ inv.1, inv.2, λ p h. shared_more (inv.3 p h) (omega (arith, l)) (f p (h.each _ (omega (arith, l)))))

pub returns : goal.returns
returns c =
    let e : c.loop-b.b ≡ AGENTS = omega arith in
    shared_entry (within_cleared _ _ (omega arith) c.clear.ensures) (rw e at (c.loop-b.invariant.3 _ c.levels-l.ensures))
