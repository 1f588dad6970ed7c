use Rattle.work_area.specs.Synced.{sequenced_made, synced_made}
use borrow.Author.Rules.{rules}
use Rattle.flags_sync.proofs.sync.make_synced.Goals as goal

pub fill_sync-requires : goal.fill_sync-requires
fill_sync-requires c = (
  search rules,
  search rules,
  sequenced_made c.fill_mutual.ensures
      c.fill_sequence.ensures,
)

pub returns : goal.returns
returns c =
    synced_made c.fill_mutual.ensures c.fill_sequence.ensures c.fill_sync.ensures
