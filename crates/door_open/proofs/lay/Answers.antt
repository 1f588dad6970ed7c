use Rattle.door_open.specs.Laid.{all_put, blank_long}
use native.Mathlib.Omega.{arith}
use Rattle.door_open.proofs.lay.Goals as goal

pub put_head-requires : goal.put_head-requires
put_head-requires c =
    let long = blank_long _ c.requires in omega arith

pub put_places-requires : goal.put_places-requires
put_places-requires c =
    let long = blank_long _ c.requires in omega (arith, c.put_head.ensures.len)

pub put-requires : goal.put-requires
put-requires c =
    let long = blank_long _ c.requires in
    (omega (arith, c.put_head.ensures.len, c.put_places.ensures.len, c.min-size.ensures), omega (arith, c.min-size.ensures))

pub put_rows-requires : goal.put_rows-requires
put_rows-requires c =
    let long = blank_long _ c.requires in omega (arith, c.put_head.ensures.len, c.put_places.ensures.len)

pub returns : goal.returns
returns c =
    all_put _ _ _ _ _ _ _ _ _ c.requires c.dependency_bytes-d.ensures c.min-size.ensures c.put_head.ensures c.put_places.ensures c.put.ensures c.put_rows.ensures
