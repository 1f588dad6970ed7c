use mathlib.Core.Path.{◌≡◌, refl, sym, ap, ◌∙◌}
use lib.ListN.{length}
use Rattle.run.specs.Layout.{table_of}
use Prim.Native.Nat.{ℕ, ◌+◌}
use Rattle.model.specs.Row.{meets, single}
use Rattle.model.specs.Table.{decode}
use Rattle.sets_of_rows.specs.Rows.{rows_at}
use Rattle.sets_location.specs.Carried.{Carrying, carry_begin, carry_taken, carry_left, carry_end}
use native.Mathlib.Omega.{arith}
use borrow.Author.Rules.{rules}
use Rattle.sets_location.proofs.carry_back.Goals as goal
use Rattle.sets_location.proofs.carry_back.Goals.{then-holds_class, else-holds_class}

pub agent-agent-requires : goal.agent-agent-requires
unfolding decode
agent-agent-requires c = omega (arith, c.requires.1.low, c.requires.0.few)

pub classes-classes-requires : goal.classes-classes-requires
unfolding decode
classes-classes-requires c = omega (arith, c.requires.1.low, c.requires.0.few)

pub get-to-requires : goal.get-to-requires
unfolding decode
get-to-requires c = omega (arith, c.requires.1.low, c.requires.0.few, c.requires.1.room)

pub get-by-requires : goal.get-by-requires
unfolding decode
get-by-requires c =
    omega (arith, c.requires.1.low, c.requires.0.few, c.requires.1.room)

pub loop-q-init : goal.loop-q-init
loop-q-init c =
    (search rules, refl, carry_begin _ _ _ c.requires.2)

pub holds_class-requires : goal.holds_class-requires
unfolding decode
holds_class-requires c =
    (omega (arith, c.classes-classes.ensures, (c.requires.0.coded _ c.requires.1.low).classes), c.loop-q-test.true)

pub overflow_mul-agent : goal.overflow_mul-agent
unfolding decode
overflow_mul-agent c =
    omega (arith, c.agent-agent.ensures, (c.requires.0.coded _ c.requires.1.low).agent)

pub overflow_add-agent : goal.overflow_add-agent
unfolding decode
overflow_add-agent c =
    omega (arith, c.agent-agent.ensures, (c.requires.0.coded _ c.requires.1.low).agent, c.loop-q.invariant.0)

pub join-requires : goal.join-requires
unfolding decode
join-requires c =
    omega (arith, c.agent-agent.ensures, (c.requires.0.coded _ c.requires.1.low).agent, c.loop-q-test.true, c.loop-q.invariant.1, c.requires.2.room)

pub overflow_mul-agent-then-holds_class : goal.overflow_mul-agent-then-holds_class
unfolding decode
overflow_mul-agent-then-holds_class c =
    omega (arith, c.agent-agent.ensures, (c.requires.0.coded _ c.requires.1.low).agent)

pub overflow_add-agent-then-holds_class : goal.overflow_add-agent-then-holds_class
unfolding decode
overflow_add-agent-then-holds_class c =
    omega (arith, c.agent-agent.ensures, (c.requires.0.coded _ c.requires.1.low).agent)

pub overflow_add-agent-then-holds_class-2 : goal.overflow_add-agent-then-holds_class-2
unfolding decode
overflow_add-agent-then-holds_class-2 c =
    omega (arith, c.agent-agent.ensures, (c.requires.0.coded _ c.requires.1.low).agent, c.loop-q.invariant.0)

pub join-requires-then-holds_class : goal.join-requires-then-holds_class
unfolding decode
join-requires-then-holds_class c =
    omega (arith, c.agent-agent.ensures, (c.requires.0.coded _ c.requires.1.low).agent, c.loop-q-test.true, c.loop-q.invariant.1, c.requires.2.room, c.join.ensures.frame.len)

pub loop-q-preserved : goal.loop-q-preserved
unfolding decode
loop-q-preserved c =
    let pre = c.requires in
    let inv = c.loop-q.invariant in
    let held = c.holds_class.ensures in
    let classes = c.classes-classes.ensures in
    let e : (length c.if-holds_class.made ≡ length c.args.made.now) × Carrying (table_of c.args.t.now) c.args.t.now.rows c.args.x (c.loop-q.q + 1) c.if-holds_class.made =
    elim c.if-holds_class.branch [
      | then-holds_class v ↦
          carry_taken _ _ _ _ v.made-is inv.1 pre.1.widely (omega (arith, c.agent-agent.ensures, (pre.0.coded _ pre.1.low).agent)) c.agent-agent.ensures c.loop-q-test.true
          (ap (λ (m : ℕ). meets m (single c.loop-q.q)) (sym classes) ∙ sym held ∙ v.if-holds_class.true) (rows_at c.get-to.ensures (pre.1.available.to.row _ pre.1.low pre.1.widely.available))
          (rows_at c.get-by.ensures (pre.1.available.by.row _ pre.1.low pre.1.widely.available)) v.join.ensures v.join-then-holds_class.ensures inv.2
      | else-holds_class v ↦ carry_left _ _ _ v.made-is inv.1 (ap (λ (m : ℕ). meets m (single c.loop-q.q)) (sym classes) ∙ sym held ∙ v.if-holds_class.false) inv.2
    ]
    in
    (search rules, e.0, e.1)

pub shape_of-made : goal.shape_of-made
shape_of-made c = c.loop-q.invariant.1

pub returns : goal.returns
unfolding decode
returns c =
    let e : c.loop-q.q ≡ 4 = omega (arith, c.loop-q.invariant.0, c.loop-q-test.false) in
    (c.loop-q.invariant.1, carry_end _ _ _ c.requires.1.low (omega (arith, c.loop-q.invariant.1, c.requires.2.room)) (rw e at c.loop-q.invariant.2))
