use Rattle.door_write.specs.Encode.{place_number}
use Rattle.door_write.proofs.encode.place_number.Goals as goal

pub returns-then-hosts : goal.returns-then-hosts
unfolding place_number
returns-then-hosts c = rw c.if-hosts.true c.number_of.ensures

pub returns : goal.returns
unfolding place_number
returns c = rw c.if-hosts.false c.number_of-2.ensures
