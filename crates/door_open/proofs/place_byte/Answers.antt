use Rattle.door_open.specs.Laid.{place_byte}
use borrow.Author.Tests.{lt-ltb, le-ltb}
use Rattle.door_open.proofs.place_byte.Goals as goal

pub returns-then-hosts : goal.returns-then-hosts
unfolding place_byte
returns-then-hosts c = rw c.if-hosts.true c.byte_at.ensures

pub returns-then-k-lt6 : goal.returns-then-k-lt6
unfolding place_byte
returns-then-k-lt6 c = rw (c.if-hosts.false, lt-ltb _ _ c.if-k-lt6.true) c.byte_at-then-k-lt6.ensures

pub returns : goal.returns
unfolding place_byte
returns c = simp (c.if-hosts.false, le-ltb _ _ c.if-k-lt6.false)
