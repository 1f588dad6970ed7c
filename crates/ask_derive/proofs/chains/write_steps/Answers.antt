-- `write_steps` meets its contract: i steps are written, and the rest of the chain begins at z. Assumes nothing.
use mathlib.Core.Path.{◌≡◌, refl, sym, ◌∙◌}
use native.Mathlib.Omega.{arith}
use lib.ListN.{length-set}
use Rattle.finite.specs.Lists.{written_none, written_more}
use Rattle.work_walks.specs.Layers.{next_is}
use Rattle.work_walks.specs.Left.{left_none, left_more}
use borrow.Author.Rules.{rules}
use Rattle.ask_derive.proofs.chains.write_steps.Goals as goal

pub loop-i-init : goal.loop-i-init
loop-i-init c =
    (search rules, c.requires.1.from, refl, left_none _ _ _ _ _ c.requires.1.leads, written_none _ _)

pub step_number-requires : goal.step_number-requires
step_number-requires c =
    let inv = c.loop-i.invariant in
    let more = left_more _ _ _ _ _ _ _ _ c.loop-i-test.true inv.3 (c.next-y.ensures ∙ next_is c.requires.1.layers _ _ (omega arith)) in
    (record { first = inv.1; second = more.0 }, c.requires.1.room, c.requires.2)

pub loop-i-preserved : goal.loop-i-preserved
loop-i-preserved c =
    let inv = c.loop-i.invariant in
    let more = left_more _ _ _ _ _ _ _ _ c.loop-i-test.true inv.3
    (c.next-y.ensures ∙ next_is c.requires.1.layers _ _ (omega arith)) in (
      search rules,
      more.0,
      simp length-set inv.2,
      more.2,
      written_more _ _ (omega arith) (more.1 _ ∙ sym c.step_number.ensures) inv.4,
    )

pub returns : goal.returns
returns c =
    let e : c.loop-i.i ≡ c.args.size = omega arith in
    rw e at c.loop-i.invariant.4
