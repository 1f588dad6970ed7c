use mathlib.Core.Path.{◌≡◌, refl, ◌∙◌}
use native.Mathlib.Omega.{arith}
use Rattle.model.specs.Limits.{AGENTS}
use Rattle.sets_of_table.specs.Share.{shares_none, shares_more}
use borrow.Author.Rules.{rules}
use Rattle.sets_of_table.proofs.share.share.Goals as goal

pub loop-a-init : goal.loop-a-init
loop-a-init c = (search rules, refl, shares_none _ _)

pub loop-a-preserved : goal.loop-a-preserved
loop-a-preserved c =
    let inv = c.loop-a.invariant in
    let f = c.share_if.ensures in
    (search rules, f.frame.len ∙ inv.1, shares_more (search rules) inv.2 f)

pub returns : goal.returns
returns c =
    let e : c.loop-a.a ≡ AGENTS = omega arith in
    rw e at c.loop-a.invariant.2
