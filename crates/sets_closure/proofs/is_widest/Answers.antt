use mathlib.Core.Path.{◌≡◌}
use Rattle.sets_closure.specs.Widest.{common_none, common_more, widest_is}
use borrow.Author.Rules.{rules}
use native.Mathlib.Omega.{arith}
use Rattle.sets_closure.proofs.is_widest.Goals as goal

pub loop-m-init : goal.loop-m-init
loop-m-init c = (search rules, common_none _ _)

pub get-requires : goal.get-requires
get-requires c = let a = c.requires.1.space in let b = c.loop-m-test.true in omega arith

pub loop-m-preserved : goal.loop-m-preserved
loop-m-preserved c =
    (search rules, common_more _ _ _ _ _ _ _ _ c.loop-m.invariant.1 c.holds-held.ensures c.get.ensures c.has_any-some.ensures c.shared-common.ensures)

pub returns : goal.returns
returns c = let e : c.loop-m.m ≡ 16 = omega arith in widest_is c.requires.1 _ _ (rw e at c.loop-m.invariant.1)
