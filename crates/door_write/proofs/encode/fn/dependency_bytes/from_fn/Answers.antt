use Rattle.door_write.proofs.Laws.{byte_dependency}
use Rattle.door_write.proofs.encode.fn.dependency_bytes.from_fn.Goals as goal

pub returns : goal.returns
returns c = byte_dependency _ _ _ c.dependency_number.ensures c.half.ensures
