use mathlib.Core.Path.{◌≡◌}
use Rattle.sets_closure.specs.Classes.{meets_begin, meets_more, meets_rows}
use borrow.Author.Rules.{rules}
use native.Mathlib.Omega.{arith}
use Rattle.sets_closure.proofs.meeting.Goals as goal

pub of_classes-own-requires : goal.of_classes-own-requires
of_classes-own-requires c = c.requires

pub rows-requires : goal.rows-requires
rows-requires c = let a = c.requires.1.space in omega arith

pub loop-q-init : goal.loop-q-init
loop-q-init c = (search rules, meets_begin c.requires.1 _ _)

pub get-requires : goal.get-requires
get-requires c =
    let a = c.requires.1.space in let b = c.loop-q-test.true in omega arith

pub loop-q-preserved : goal.loop-q-preserved
loop-q-preserved c =
    (search rules, meets_more c.requires.1 _ _ _ c.loop-q.invariant.1 c.holds_class-b.ensures c.get.ensures c.only_if.ensures c.bitor_assign.ensures.after)

pub returns : goal.returns
returns c =
    let e : c.loop-q.q ≡ 4 = omega arith in meets_rows c.requires.1 _ _ _ _ _ c.requires.0 c.of_classes-own.ensures c.rows.ensures c.bitand-a.ensures (rw e at c.loop-q.invariant.1)
