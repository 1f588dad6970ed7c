use Rattle.sets_chains.specs.Wide.{wide_rows}
use native.Mathlib.Omega.{arith}
use Rattle.sets_chains.proofs.visible_by.Goals as goal

pub sharing-domain-requires : goal.sharing-domain-requires
sharing-domain-requires c = (c.requires.0.low, omega (arith, c.requires.1), c.requires.2.given.opened)

pub get-requires : goal.get-requires
get-requires c = omega (arith, c.requires.1, c.requires.2.given.opened.space)

pub broader-requires : goal.broader-requires
broader-requires c = (c.requires.1, c.requires.2.given.opened.space)

pub union-made-requires : goal.union-made-requires
union-made-requires c =
    omega (arith, c.requires.2.given.room)

pub union-ends-requires : goal.union-ends-requires
union-ends-requires c =
    omega (arith, c.requires.2.given.room)

pub returns : goal.returns
returns c =
    wide_rows c.requires.2.given.opened _ _ _ _ _ _ _ _ _ _ _ _ _ _ (omega (arith, c.requires.1)) c.requires.2.after c.requires.2.ins c.requires.0.ends c.sharing-domain.ensures c.get.ensures (c.broader.ensures _ _ c.requires.2.given.opened) c.bitor-wide.ensures c.bitand-inside.ensures c.bitand.ensures c.union-made.ensures c.bitand-met.ensures c.union-ends.ensures c.bitor.ensures c.bitand-2.ensures
