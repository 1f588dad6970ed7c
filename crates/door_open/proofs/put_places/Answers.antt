use Rattle.door_open.specs.Laid.{put_none, put_more, places_put}
use lib.ListN.{length-set}
use native.Mathlib.Omega.{arith}
use mathlib.Core.Path.{refl}
use borrow.Author.Rules.{rules}
use Rattle.door_open.proofs.put_places.Goals as goal

pub loop-k-init : goal.loop-k-init
loop-k-init c = (search rules, refl, put_none _ _ _)

pub loop-k-preserved : goal.loop-k-preserved
loop-k-preserved c =
    let inv = c.loop-k.invariant in
    (search rules, simp length-set inv.1, put_more _ _ _ _ _ _ _ inv.2 (omega arith) c.place_byte-b.ensures refl)

pub returns : goal.returns
returns c =
    places_put _ _ _ _ _ _ _ c.loop-k.invariant.2 c.has_hosts-hosts.ensures c.agents_at.ensures c.min-n.ensures (omega arith)
