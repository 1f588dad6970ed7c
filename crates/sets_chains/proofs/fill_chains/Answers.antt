use mathlib.Core.Path.{refl, ◌∙◌}
use Rattle.sets_grids.specs.Given.{given_kept}
use Rattle.sets_chains.specs.Filled.{chains_begin, chains_out, chains_in, chains_turn, chains_end}
use native.Mathlib.Omega.{arith}
use Rattle.sets_chains.proofs.fill_chains.Goals as goal

pub loop-k-init : goal.loop-k-init
loop-k-init c = (omega arith, refl, chains_begin c.requires.0.opened c.requires.1)

pub chain_out-requires : goal.chain_out-requires
chain_out-requires c =
    (omega arith, given_kept c.loop-k.invariant.2.frame c.requires.0, chains_out c.requires.0.opened c.loop-k-test.true c.loop-k.invariant.2)

pub chain_in-requires : goal.chain_in-requires
chain_in-requires c =
    (omega (arith, c.loop-k-test.true), given_kept c.chain_out.ensures.frame (given_kept c.loop-k.invariant.2.frame c.requires.0), chains_in c.requires.0.opened c.loop-k.invariant.2 c.chain_out.ensures)

pub loop-k-preserved : goal.loop-k-preserved
loop-k-preserved c =
    (omega (arith, c.loop-k-test.true), c.chain_in.ensures.frame.len ∙ c.chain_out.ensures.frame.len ∙ c.loop-k.invariant.1, chains_turn c.requires.0.opened c.loop-k-test.true c.loop-k.invariant.2 c.chain_out.ensures c.chain_in.ensures)

pub shape_of-w : goal.shape_of-w
shape_of-w c = c.loop-k.invariant.1

pub returns : goal.returns
returns c = chains_end c.requires.0.opened (omega (arith, c.loop-k-test.false)) c.loop-k.invariant.0 c.loop-k.invariant.2
