-- `derive_moments` meets its contract: the word, none, or the chain that is found. Assumes nothing.
use mathlib.Core.Path.{refl, sym, ◌∙◌}
use native.Mathlib.Omega.{arith}
use Rattle.model.specs.Table.{decode}
use Rattle.work_area.specs.Synced.{synced_kept}
use Rattle.ask_derive.specs.Whole.{told_word, told_none, told_chain, steps_asked}
use borrow.Author.Rules.{rules}
use Rattle.ask_derive.proofs.derive_moments.Goals as goal

pub returns-then-ordered_at : goal.returns-then-ordered_at
returns-then-ordered_at c = told_word _ _ _ _ _ (sym c.ordered_at.ensures ∙ c.if-ordered_at.true)

pub returns-then-set-ge-CLASS_SETS : goal.returns-then-set-ge-CLASS_SETS
returns-then-set-ge-CLASS_SETS c =
    let set = c.find_set-set.ensures in
    told_none _ _ _ (sym c.ordered_at.ensures
    ∙ c.if-ordered_at.false) _ set.0 _ c.if-set-ge-CLASS_SETS.true
    c.make_synced.ensures.frame set.1

pub write_steps-requires : goal.write_steps-requires
unfolding decode
write_steps-requires c =
    let pre = c.requires in
    let set = c.find_set-set.ensures in
    let less = c.if-set-ge-CLASS_SETS.false in
    let held = set.2 less in
    let asked = steps_asked refl pre.2 set.0 less held _ c.layer_of-size.ensures.0 (search rules) in
    (pre.1, asked, synced_kept (omega arith) set.1 c.make_synced.ensures.synced)

pub returns : goal.returns
unfolding decode
returns c =
    let pre = c.requires in
    let set = c.find_set-set.ensures in
    let less = c.if-set-ge-CLASS_SETS.false in
    let made = c.make_synced.ensures in
    told_chain refl pre.2 set.0 less (set.2 less) _
    c.layer_of-size.ensures.0
    (sym c.ordered_at.ensures
    ∙ c.if-ordered_at.false) pre.1 made.frame set.1 c.write_steps.ensures
