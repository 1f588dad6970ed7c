use Rattle.door_write.proofs.Laws.{byte_entry}
use Rattle.door_write.proofs.encode.fn.entry_bytes.from_fn.Goals as goal

pub returns : goal.returns
returns c = byte_entry _ _ _ c.row_bytes.ensures
