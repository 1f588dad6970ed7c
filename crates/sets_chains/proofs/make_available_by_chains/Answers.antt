use mathlib.Core.Path.{refl, ◌∙◌}
use Rattle.sets_of_rows.specs.Rows.{rows_at}
use Rattle.sets_grids.specs.Given.{given_few}
use Rattle.sets_chains.specs.Alone.{made_one}
use Rattle.sets_chains.specs.Made.{chain_rows, wide_none, wide_more, wide_all}
use native.Mathlib.Omega.{arith}
use Rattle.sets_chains.proofs.make_available_by_chains.Goals as goal

pub get-requires : goal.get-requires
get-requires c = omega (arith, c.requires.0.low, given_few c.requires.1.given, c.requires.1.given.room)

pub bit-requires : goal.bit-requires
bit-requires c = omega (arith, c.requires.0.low, given_few c.requires.1.given)

pub available_to-at-requires : goal.available_to-at-requires
available_to-at-requires c =
    (record { low = c.requires.0.low; ends = chain_rows _ _ _ _ c.requires.1.device c.requires.0.low (rows_at c.get.ensures ((c.requires.1.chained refl).outs.row _ c.requires.0.low c.requires.0.makes)) c.bit.ensures c.bitor-chain.ensures }, c.requires.1.given, c.requires.1.after)

pub loop-q-init : goal.loop-q-init
loop-q-init c = (omega arith, omega arith, wide_none _ _ _ c.none-visible.ensures)

pub visible_by-requires : goal.visible_by-requires
visible_by-requires c =
    (record { low = c.requires.0.low; ends = chain_rows _ _ _ _ c.requires.1.device c.requires.0.low (rows_at c.get.ensures ((c.requires.1.chained refl).outs.row _ c.requires.0.low c.requires.0.makes)) c.bit.ensures c.bitor-chain.ensures }, omega (arith, c.loop-q-test.true), record { given = c.requires.1.given; after = c.requires.1.after; ins = (c.requires.1.chained refl).ins })

pub loop-q-preserved : goal.loop-q-preserved
loop-q-preserved c = (omega (arith, c.loop-q.invariant.0), omega (arith, c.loop-q-test.true), wide_more _ _ _ _ c.loop-q.invariant.0 c.loop-q.invariant.2 c.visible_by.ensures c.bitor_assign.ensures.after)

pub put-requires : goal.put-requires
put-requires c =
    omega (arith, c.requires.0.low, given_few c.requires.1.given, c.requires.1.given.room)

pub put-requires-2 : goal.put-requires-2
put-requires-2 c =
    omega (arith, c.requires.0.low, given_few c.requires.1.given, c.requires.1.given.room, c.put.ensures.frame.len)

pub shape_of-w : goal.shape_of-w
shape_of-w c =
    c.put-2.ensures.frame.len ∙ c.put.ensures.frame.len

pub returns : goal.returns
returns c =
    let f = given_few c.requires.1.given in
    made_one (omega (arith, c.requires.0.low, f)) c.available_to-at.ensures
    (wide_all _ _ _ _ c.requires.1.given.opened c.requires.1.device (omega (arith, c.loop-q-test.false)) c.loop-q.invariant.1 c.loop-q.invariant.2)
    c.put.ensures c.put-2.ensures
