use mathlib.Core.Path.{◌≡◌, refl, sym, ◌∙◌}
use Prim.Native.Nat.{◌+◌}
use native.Mathlib.Omega.{arith}
use Rattle.flags_order.specs.Steps.{RowsMade, rows_none, rows_more, rows_skip, steps_made}
use borrow.Author.Rules.{rules}
use Rattle.flags_order.proofs.steps.fill_cases.Goals as goal
use Rattle.flags_order.proofs.steps.fill_cases.Goals.{then-holds_at, else-holds_at}

pub loop-j-init : goal.loop-j-init
loop-j-init c = (search rules, refl, rows_none _ _ _ _)

pub loop-j-preserved : goal.loop-j-preserved
loop-j-preserved c =
    let inv = c.loop-j.invariant in
    let made : RowsMade c.args.t.now.bytes c.args.t.now.rows c.args.s (c.loop-j.j + 1) c.clear.new.w c.if-holds_at.w =
    elim c.if-holds_at.branch [
      | then-holds_at v ↦ rows_more _ _ _ _ _ _ c.if-holds_at.w (omega arith) inv.2 (rw v.w-is v.fill_at.ensures)
      | else-holds_at v ↦ rows_skip _ _ _ _ _ _ c.if-holds_at.w (sym c.holds_at.ensures ∙ v.if-holds_at.false) inv.2 v.w-is
    ]
    in
    (search rules, made.grown.frame.len, made)

pub returns : goal.returns
returns c =
    let e : c.loop-j.j ≡ c.args.t.now.rows = omega arith in
    steps_made _ _ _ _ _ _ (omega arith) (omega arith) c.requires.2 c.clear.ensures
    (rw e at c.loop-j.invariant.2)
