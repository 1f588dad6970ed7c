use mathlib.Core.Path.{◌≡◌, sym, ◌∙◌}
use mathlib.Core.Bool.{false}
use native.Mathlib.Omega.{arith}
use Rattle.finite.specs.Below.{any_none, any_more, any_in}
use Rattle.run_rows.specs.Forms.{ends_told}
use borrow.Author.Rules.{rules}
use Rattle.ask_accepts.proofs.sync.is_ended.Goals as goal

pub loop-z-init : goal.loop-z-init
loop-z-init c = (search rules, any_none _)

pub returns-then-is_end : goal.returns-then-is_end
returns-then-is_end c =
    let told = ends_told _ _ _ _ _ _ _ _ _ _ _ _ c.mutual_at-b.ensures
    c.row-h.ensures
    c.row-r.ensures c.row-q.ensures
    (rw c.counted.ensures at c.is_end.ensures) in
    sym (any_in _ _ _ c.loop-z-test.true (told ∙ c.if-is_end.true))

pub loop-z-preserved : goal.loop-z-preserved
loop-z-preserved c =
    let told = ends_told _ _ _ _ _ _ _ _ _ _ _ _ c.mutual_at-b.ensures
    c.row-h.ensures
    c.row-r.ensures c.row-q.ensures
    (rw c.counted.ensures at c.is_end.ensures) in
    (search rules, any_more _ _ c.loop-z.invariant.1 (told ∙ c.if-is_end.false))

pub returns : goal.returns
returns c =
    let e : c.loop-z.z ≡ c.args.t.now.rows = omega arith in
    sym (rw e at c.loop-z.invariant.1)
