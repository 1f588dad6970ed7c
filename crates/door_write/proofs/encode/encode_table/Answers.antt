use Prim.Native.Nat.{ℕ}
use lib.ListN.{replicate, length-replicate}
use Rattle.door_write.proofs.Laws.{table_made}
use Rattle.door_write.proofs.encode.encode_table.Goals as goal

pub returns : goal.returns
returns c =
    table_made _ _ _ _ _ _ c.requires.0 c.requires.1 c.requires.2 _ _ _
    c.table_size-size.ensures.0
    c.places_size-places.ensures.0
    c.dependencies_size-after.ensures.0
    (replicate 2570 0) _ _ _ _ _ _ _ _ _ c.header_bytes.ensures
    c.put.ensures
    c.with_hosts.ensures
    c.place_bytes.ensures
    c.put-2.ensures
    c.entry_bytes.ensures c.put-3.ensures
    c.dependency_bytes.ensures c.put-4.ensures (length-replicate {A = ℕ} 2570 0)
