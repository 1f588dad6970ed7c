use native.Mathlib.Omega.{arith}
use Rattle.sets_of_table.specs.Makes.{marked_made}
use Rattle.sets_of_table.proofs.tests.make_marked.Goals as goal

pub put-requires-3 : goal.put-requires-3
put-requires-3 c =
    let a = c.put.ensures.frame.len in
    let b = c.put-2.ensures.frame.len in
    let p = c.requires in
    omega arith

pub returns : goal.returns
returns c =
    marked_made _ _ _ _ _ _ c.four-public.ensures c.four.ensures c.four-2.ensures c.get-own.ensures c.sub-available.ensures c.sub-visible.ensures c.put.ensures c.put-2.ensures c.put-3.ensures
