use Rattle.sets_closure.specs.Reaching.{close_begin, close_skip, close_turn, close_end}
use native.Mathlib.Omega.{arith}
use borrow.Author.Rules.{rules}
use Rattle.sets_closure.proofs.reach.close.Goals as goal

pub loop-i-init : goal.loop-i-init
loop-i-init c = (search rules, close_begin _ _ _ _)

pub has-requires : goal.has-requires
has-requires c = let a = c.turn-h.ensures.1 in omega (arith, c.requires.0)

pub loop-i-preserved-then-not-has : goal.loop-i-preserved-then-not-has
loop-i-preserved-then-not-has c = (search rules, close_skip _ _ c.loop-i-test.true c.turn-h.ensures.0 c.has.ensures c.if-not-has.true c.loop-i.invariant.1)

pub search-requires : goal.search-requires
search-requires c =
    let a = c.turn-h.ensures.1 in let d = c.loop-i.invariant.1.frame.len in (omega (arith, c.requires.0), omega (arith, c.requires.1))

pub without-waiting-requires : goal.without-waiting-requires
without-waiting-requires c =
    let a = c.turn-h.ensures.1 in omega (arith, c.requires.0)

pub loop-i-preserved : goal.loop-i-preserved
loop-i-preserved c =
    (search rules, close_turn _ _ _ c.loop-i-test.true c.turn-h.ensures.0 c.has.ensures c.if-not-has.false c.loop-i.invariant.1 c.search.ensures c.without-waiting.ensures)

pub shape_of-w : goal.shape_of-w
shape_of-w c = c.loop-i.invariant.1.frame.len

pub returns : goal.returns
returns c = close_end _ _ (search rules) c.loop-i.invariant.1
