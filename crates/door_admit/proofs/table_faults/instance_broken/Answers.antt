use mathlib.Core.Path.{◌≡◌, sym, ap, ◌∙◌}
use native.Mathlib.Omega.{arith}
use Rattle.finite.specs.Below.{any_none, any_more, any_in}
use Rattle.model.specs.declared.Row.{Row}
use Rattle.model.specs.TableFault.{instance_broken}
use Rattle.door_admit.proofs.Laws.{instance_none}
use borrow.Author.Rules.{rules}
use Rattle.door_admit.proofs.table_faults.instance_broken.Goals as goal

pub returns-then-r-ne-CONTROL : goal.returns-then-r-ne-CONTROL
returns-then-r-ne-CONTROL c = instance_none _ _ _ (λ e. c.if-r-ne-CONTROL.true (ap (λ (q : Row). q.kind) c.requires ∙ e))

pub loop-j-init : goal.loop-j-init
loop-j-init c = (search rules, any_none _, search rules)

pub returns-then-apart_at : goal.returns-then-apart_at
unfolding instance_broken
returns-then-apart_at c = sym (any_in _ _ _ c.loop-j-test.true (sym c.apart_at.ensures ∙ c.if-apart_at.true))

pub loop-j-preserved : goal.loop-j-preserved
loop-j-preserved c =
    let inv = c.loop-j.invariant in
    (search rules, any_more _ _ inv.1 (sym c.apart_at.ensures ∙ c.if-apart_at.false), inv.2)

pub returns : goal.returns
unfolding instance_broken
returns c =
    let done : c.loop-j.j ≡ c.args.i = omega arith in
    sym (rw done at c.loop-j.invariant.1)
