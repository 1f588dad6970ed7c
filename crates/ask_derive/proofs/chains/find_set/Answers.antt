-- `find_set` meets its contract: no lower class set has a chain. Assumes nothing.
use mathlib.Core.Path.{◌≡◌, refl, sym, ◌∙◌}
use native.Mathlib.Omega.{arith}
use Rattle.finite.specs.Below.{least_none}
use Rattle.bits.specs.Within.{within_refl, within_trans}
use Rattle.model.specs.Limits.{CLASS_SETS}
use Rattle.model.specs.Table.{decode}
use Rattle.work_area.specs.Synced.{synced_kept}
use Rattle.ask_derive.specs.Found.{set_found, set_missed}
use borrow.Author.Rules.{rules}
use Rattle.ask_derive.proofs.chains.find_set.Goals as goal

pub loop-c-init : goal.loop-c-init
loop-c-init c = (search rules, refl, least_none _, c.requires.2, within_refl _ _ _)

pub returns-then-j-t : goal.returns-then-j-t
unfolding decode
returns-then-j-t c =
    let inv = c.loop-c.invariant in
    let made = c.make_layers.ensures in (
      set_found refl made.layered _ _ c.requires.0.first c.layer_of-j.ensures.0 inv.2
          c.loop-c-test.true c.if-j-t.true,
      within_trans inv.4 made.frame,
      λ h. made.layered,
    )

pub loop-c-preserved : goal.loop-c-preserved
unfolding decode
loop-c-preserved c =
    let inv = c.loop-c.invariant in
    let made = c.make_layers.ensures in (
      search rules,
      made.frame.len ∙ inv.1,
      set_missed refl made.layered _ _ c.requires.0.first c.layer_of-j.ensures.0 inv.2 c.if-j-t.false,
      synced_kept (omega arith) made.frame inv.3,
      within_trans inv.4 made.frame,
    )

pub returns : goal.returns
returns c =
    let e : c.loop-c.c ≡ CLASS_SETS = omega arith in
    let inv = c.loop-c.invariant in
    (sym (rw e at inv.2), inv.4, λ h. absurd (omega arith))
