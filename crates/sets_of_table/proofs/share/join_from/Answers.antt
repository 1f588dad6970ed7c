use mathlib.Core.Path.{◌≡◌, refl, ◌∙◌}
use native.Mathlib.Omega.{arith}
use Rattle.sets_of_table.specs.Share.{SCOPES, took_none, took_more, took_all}
use borrow.Author.Rules.{rules}
use Rattle.sets_of_table.proofs.share.join_from.Goals as goal

pub loop-q-init : goal.loop-q-init
loop-q-init c = (search rules, search rules, refl, took_none _ _ _ _)

pub loop-q-preserved : goal.loop-q-preserved
loop-q-preserved c =
    let inv = c.loop-q.invariant in
    let f = c.join.ensures in
    (search rules, search rules, f.frame.len ∙ inv.2, took_more (search rules) (search rules) inv.3 f)

pub returns : goal.returns
returns c =
    let e : c.loop-q.q ≡ SCOPES = omega arith in
    took_all (rw e at c.loop-q.invariant.3)
