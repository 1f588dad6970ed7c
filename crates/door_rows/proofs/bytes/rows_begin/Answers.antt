use Rattle.std.proofs.Common.{sym, ◌∙◌, rules}
use Rattle.door_rows.proofs.Laws.{begin_with, begin_without}
use Rattle.door_rows.proofs.bytes.rows_begin.Goals as goal

pub returns-then-has_hosts : goal.returns-then-has_hosts
returns-then-has_hosts c = (begin_with _ _ (sym c.has_hosts.ensures ∙ c.if-has_hosts.true) c.agents_at-agents.ensures, search rules)

pub returns-else-has_hosts : goal.returns-else-has_hosts
returns-else-has_hosts c = (begin_without _ _ (sym c.has_hosts.ensures ∙ c.if-has_hosts.false) c.agents_at-agents.ensures, search rules)
