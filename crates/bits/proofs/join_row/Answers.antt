use mathlib.Core.Path.{◌≡◌, refl}
use native.Mathlib.Omega.{arith}
use borrow.Author.Rules.{rules}
use lib.ListN.{length-set}
use Rattle.bits.specs.Bit.{join_row, join_row_more}
use Rattle.bits.proofs.join_row.Goals as goal

pub loop-m-init : goal.loop-m-init
unfolding join_row
loop-m-init c = (search rules, refl, refl)

pub loop-m-preserved : goal.loop-m-preserved
loop-m-preserved c =
    let a = c.args in
    let inv = c.loop-m.invariant in
    let apart = c.requires.2 in
    let e = join_row_more a.w.now c.loop-m.w a.dst a.src a.n c.loop-m.m apart (search rules) inv.2 in
    (search rules, simp length-set inv.1, e)

pub returns : goal.returns
returns c =
    let e : c.loop-m.m ≡ c.args.n = omega arith in
    rw e at c.loop-m.invariant.2
