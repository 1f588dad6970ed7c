use Rattle.door_write.specs.ValueLaws.{after_hosts, after_plain}
use native.Mathlib.Omega.{arith}
use mathlib.Core.Path.{sym, ◌∙◌}
use borrow.Author.Rules.{rules}
use Rattle.door_write.proofs.encode.dependencies_size.Goals as goal

pub returns-then-with_hosts : goal.returns-then-with_hosts
returns-then-with_hosts c = (sym (after_hosts _ _ (sym c.with_hosts.ensures ∙ c.if-with_hosts.true)), search rules)

pub returns : goal.returns
returns c = (sym (after_plain _ _ (sym c.with_hosts.ensures ∙ c.if-with_hosts.false)), omega arith)
