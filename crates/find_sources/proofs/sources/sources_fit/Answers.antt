use mathlib.Core.Path.{◌≡◌, sym, ◌∙◌}
use Prim.Native.Nat.{◌<◌}
use native.Mathlib.Omega.{arith}
use lib.ListN.{length, take}
use lib.Seq.{length-take-le, get_or-take}
use Rattle.finite.specs.Below.{any_none, any_in, any_more}
use Rattle.model.specs.Table.{decode}
use Rattle.find_sources.specs.Sources.{broken_in, broken_some, broken_none}
use borrow.Author.Rules.{rules}
use Rattle.find_sources.proofs.sources.sources_fit.Goals as goal

pub loop-i-init : goal.loop-i-init
loop-i-init c = (search rules, any_none _)

pub returns-then-is_broken : goal.returns-then-is_broken
unfolding broken_in decode
returns-then-is_broken c =
    let src = c.args.src.now in
    let long : length (take c.args.t.now.rows src) ≡ c.args.t.now.rows = length-take-le c.args.t.now.rows src c.requires.1 in
    let low : c.loop-i.i < c.args.t.now.rows = omega arith in
    let item = get_or-take c.args.t.now.rows src c.loop-i.i 0 low in
    broken_some _ src (any_in _ _ _ low (sym (rw item at c.is_broken.ensures) ∙ c.if-is_broken.true))

pub loop-i-preserved : goal.loop-i-preserved
unfolding broken_in
loop-i-preserved c =
    let src = c.args.src.now in
    let long : length (take c.args.t.now.rows src) ≡ c.args.t.now.rows = length-take-le c.args.t.now.rows src c.requires.1 in
    let low : c.loop-i.i < c.args.t.now.rows = omega arith in
    let item = get_or-take c.args.t.now.rows src c.loop-i.i 0 low in
    (omega arith, any_more _ _ c.loop-i.invariant.1 (sym (rw item at c.is_broken.ensures) ∙ c.if-is_broken.false))

pub returns : goal.returns
unfolding decode
returns c =
    let long : length (take c.args.t.now.rows c.args.src.now) ≡ c.args.t.now.rows = length-take-le c.args.t.now.rows c.args.src.now c.requires.1 in
    let e : c.loop-i.i ≡ c.args.t.now.rows = omega arith in
    broken_none _ _ (rw e at c.loop-i.invariant.1)
