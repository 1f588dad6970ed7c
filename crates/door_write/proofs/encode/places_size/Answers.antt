use Rattle.door_write.specs.ValueLaws.{places_hosts, places_plain}
use mathlib.Core.Path.{sym, ◌∙◌}
use borrow.Author.Rules.{rules}
use Rattle.door_write.proofs.encode.places_size.Goals as goal

pub returns-then-with_hosts : goal.returns-then-with_hosts
returns-then-with_hosts c = (sym (places_hosts _ _ (sym c.with_hosts.ensures ∙ c.if-with_hosts.true)), search rules)

pub returns : goal.returns
returns c = (sym (places_plain _ _ (sym c.with_hosts.ensures ∙ c.if-with_hosts.false)), search rules)
