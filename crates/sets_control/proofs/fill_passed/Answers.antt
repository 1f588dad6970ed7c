use mathlib.Core.Path.{sym, ◌∙◌}
use Rattle.sets_control.specs.Passed.{blank, pass_none}
use borrow.Author.Rules.{rules}
use native.Mathlib.Omega.{arith}
use Rattle.sets_control.proofs.fill_passed.Goals as goal

pub get-requires : goal.get-requires
get-requires c = let a = c.requires.opened.space in omega arith

pub pass_up-requires : goal.pass_up-requires
pass_up-requires c =
    (search rules, blank 64, c.requires)

pub returns-then-has_any : goal.returns-then-has_any
returns-then-has_any c = c.pass_up.ensures

pub clear-requires : goal.clear-requires
clear-requires c =
    let a = c.requires.room in omega arith

pub returns : goal.returns
returns c =
    pass_none c.requires _ c.get.ensures (sym c.has_any.ensures ∙ c.if-has_any.false) c.clear.ensures
