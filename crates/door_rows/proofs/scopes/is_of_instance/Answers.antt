use Rattle.std.proofs.Common.{arith, rules}
use Rattle.door_rows.specs.Instances.{instance_last, instance_first, instance_here}
use Rattle.door_rows.proofs.scopes.is_of_instance.Goals as goal

pub returns-then-row_byte-instance : goal.returns-then-row_byte-instance
returns-then-row_byte-instance c = instance_last _ _ _ _ c.row_byte.ensures (search rules) c.if-row_byte-instance.true

pub returns-then-row_byte-instance-2 : goal.returns-then-row_byte-instance-2
returns-then-row_byte-instance-2 c = instance_first _ _ _ _ _ c.row_byte.ensures (omega arith) c.row_byte-2.ensures c.if-row_byte-instance-2.true

pub returns : goal.returns
returns c = instance_here _ _ _ _ _ _ c.row_byte.ensures (omega arith)
    c.row_byte-2.ensures (omega arith) c.read_kind.ensures
