use mathlib.Core.Path.{◌≡◌, refl, ◌∙◌}
use Prim.Native.Nat.{◌+◌, ◌-◌}
use Rattle.model.specs.Table.{decode}
use Rattle.bits.specs.Within.{within_refl, within_trans}
use Rattle.sets_grids.specs.Given.{given_kept}
use Rattle.sets_control.specs.Passed.{passing_at, pass_begin, pass_end}
use borrow.Author.Rules.{rules}
use native.Mathlib.Omega.{arith}
use Rattle.sets_control.proofs.pass_up.Goals as goal

pub loop-a-init : goal.loop-a-init
unfolding decode
loop-a-init c = (search rules, refl, refl, pass_begin _ _ _ c.requires.2.opened.rows c.requires.0 c.requires.1, within_refl _ _ _)

pub pass_row-requires : goal.pass_row-requires
pass_row-requires c =
    let inv = c.loop-a.invariant in
    let a = c.loop-a-test.true in
    let e : c.loop-a.a - 1 + 1 ≡ c.loop-a.a = omega arith in
    (omega (arith, inv.0), given_kept inv.4 c.requires.2, passing_at e inv.3)

pub loop-a-preserved : goal.loop-a-preserved
loop-a-preserved c =
    let inv = c.loop-a.invariant in
    let p = c.pass_row.ensures in
    (omega (arith, inv.0), p.agents.len ∙ inv.1, p.frame.len ∙ inv.2, p.to, within_trans inv.4 p.frame)

pub shape_of-passing : goal.shape_of-passing
shape_of-passing c = c.loop-a.invariant.1

pub shape_of-w : goal.shape_of-w
shape_of-w c = c.loop-a.invariant.2

pub returns : goal.returns
returns c =
    let e : 0 ≡ c.loop-a.a = omega (arith, c.loop-a-test.false) in
    pass_end (passing_at e c.loop-a.invariant.3) c.loop-a.invariant.4
