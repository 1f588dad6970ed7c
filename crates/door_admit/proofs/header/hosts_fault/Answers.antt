use Rattle.door_admit.proofs.Laws.{hosts_16, hosts_17, hosts_18, hosts_pass}
use Rattle.door_admit.proofs.header.hosts_fault.Goals as goal

pub returns-then-any_kind_over : goal.returns-then-any_kind_over
returns-then-any_kind_over c = hosts_16 _ _ _ _ _ c.any_kind_over.ensures c.if-any_kind_over.true

pub returns-then-pair_at-gt-DEPENDENCIES : goal.returns-then-pair_at-gt-DEPENDENCIES
returns-then-pair_at-gt-DEPENDENCIES c =
    hosts_17 _ _ _ _ _ c.any_kind_over.ensures c.if-any_kind_over.false _ c.pair_at.ensures c.if-pair_at-gt-DEPENDENCIES.true

pub returns-then-any_names_none : goal.returns-then-any_names_none
returns-then-any_names_none c =
    hosts_18 _ _ _ _ _ c.any_kind_over.ensures c.if-any_kind_over.false _ c.pair_at.ensures
    c.if-pair_at-gt-DEPENDENCIES.false _ c.any_names_none.ensures c.if-any_names_none.true

pub returns : goal.returns
returns c =
    hosts_pass _ _ _ _ _ c.any_kind_over.ensures c.if-any_kind_over.false _ c.pair_at.ensures
    c.if-pair_at-gt-DEPENDENCIES.false _ c.any_names_none.ensures c.if-any_names_none.false
