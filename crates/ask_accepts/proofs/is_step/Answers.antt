use mathlib.Core.Path.{sym, ◌∙◌}
use Rattle.ask_accepts.specs.Judging.{moment_low, step_off, step_on}
use borrow.Author.Rules.{rules}
use Rattle.ask_accepts.proofs.is_step.Goals as goal

pub returns-then-not-is_there : goal.returns-then-not-is_there
returns-then-not-is_there c = step_off _ _ _ _ _ _ _ (sym c.is_there.ensures ∙ c.if-not-is_there.true)

pub is_direct-requires : goal.is_direct-requires
is_direct-requires c =
    let l = moment_low _ _ _ _ _ (sym c.is_there.ensures ∙ c.if-not-is_there.false) in
    (search rules, search rules, l)

pub returns : goal.returns
returns c = step_on _ _ _ _ _ _ _ _ (sym c.is_there.ensures ∙ c.if-not-is_there.false) c.is_direct.ensures
