use Rattle.flags_location.specs.Domains.{depends_none, depends_more, made_system}
use Rattle.work_area.specs.Regions.{SYSTEM, SYSTEM_END}
use Rattle.bits.specs.Stage.{holds_cong, holds_added}
use Rattle.bits.specs.Within.{within_refl, within_trans, within_cleared}
use native.Mathlib.Omega.{arith}
use mathlib.Core.Path.{◌≡◌, refl, ◌∙◌}
use Rattle.run.specs.Layout.{mode_in}
use borrow.Author.Rules.{rules}
use Rattle.flags_location.proofs.hosted.make_system.Goals as goal

pub loop-k-init : goal.loop-k-init
loop-k-init c =
    let pre = c.requires in
    (search rules, c.dependencies-k-end.ensures, refl, depends_none _ pre c.clear.ensures, within_refl _ _ _)

pub loop-k-preserved : goal.loop-k-preserved
loop-k-preserved c =
    let added = c.put_dependency.ensures in
    let inv = c.loop-k.invariant in
    (search rules, inv.1, added.frame.len ∙ inv.2, holds_cong (λ i j p q. depends_more _ _ i j) (holds_added inv.3 added), within_trans inv.4 added.frame)

pub returns : goal.returns
returns c =
    let inv = c.loop-k.invariant in
    let e : c.loop-k.k ≡ (mode_in c.args.t.now.bytes).dependencies = omega arith in
    made_system _ c.requires.few e (within_trans
    (within_cleared SYSTEM SYSTEM_END (omega arith) c.clear.ensures)
    inv.4) inv.3 c.close.ensures
