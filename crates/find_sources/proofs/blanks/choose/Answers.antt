use mathlib.Core.Path.{◌≡◌, refl}
use native.Mathlib.Omega.{arith}
use lib.ListN.{length, take, length-set}
use lib.Seq.{length-take-le, get_or-take}
use Rattle.find_sources.specs.Sources.{at, listed_none, listed_more}
use Rattle.find_sources.specs.Choice.{chosen_is}
use borrow.Author.Rules.{rules}
use Rattle.find_sources.proofs.blanks.choose.Goals as goal

pub loop-i-init : goal.loop-i-init
loop-i-init c = (search rules, refl, listed_none _ _ refl)

pub loop-i-preserved : goal.loop-i-preserved
loop-i-preserved c =
    let inv = c.loop-i.invariant in
    let src = c.args.src.now in
    let long : length (take c.args.t.now.rows src) ≡ c.args.t.now.rows = length-take-le c.args.t.now.rows src c.requires.0 in
    let item = get_or-take c.args.t.now.rows src c.loop-i.i 0 (omega arith) in
    let e = chosen_is _ (at src) _ _ (rw item at c.chosen_at.ensures) in
    (search rules, simp length-set inv.1, listed_more _ _ _ _ (omega arith) e inv.2)

pub returns : goal.returns
returns c =
    let long : length (take c.args.t.now.rows c.args.src.now) ≡ c.args.t.now.rows = length-take-le c.args.t.now.rows c.args.src.now c.requires.0 in
    let e : c.loop-i.i ≡ c.args.t.now.rows = omega arith in
    rw e at c.loop-i.invariant.2
