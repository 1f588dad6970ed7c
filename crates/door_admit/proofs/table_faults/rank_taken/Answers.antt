use Rattle.door_admit.proofs.Laws.{rank_none, rank_some}
use borrow.Author.Tests.{not-false}
use mathlib.Core.Path.{ap}
use mathlib.Core.Bool.{not}
use Rattle.door_admit.proofs.table_faults.rank_taken.Goals as goal

pub returns-then-not-is_ranked : goal.returns-then-not-is_ranked
returns-then-not-is_ranked c = rank_none _ _ _ _ _ c.requires c.is_ranked.ensures c.if-not-is_ranked.true

pub returns : goal.returns
returns c =
    rank_some _ _ _ _ _ _ c.requires c.is_ranked.ensures (not-false _ (ap not c.if-not-is_ranked.false)) c.any_same_rank.ensures
