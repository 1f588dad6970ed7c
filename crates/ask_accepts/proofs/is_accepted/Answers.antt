use Rattle.finite.specs.Logic.{◌and◌}
use Rattle.ask_accepts.specs.Judging.{word_told, chain_off, chain_on}
use mathlib.Core.Path.{ap}
use mathlib.Core.Bool.{not}
use Rattle.ask_accepts.proofs.is_accepted.Goals as goal

pub returns-in_default : goal.returns-in_default
unfolding ◌and◌
returns-in_default c = word_told _ _ _ _ _ _ _ _ _ c.in_default.is c.ordered_at.ensures

pub returns-then-not-s-count : goal.returns-then-not-s-count
unfolding ◌and◌
returns-then-not-s-count c = chain_off _ _ _ _ _ _ _ _ _ c.in-Chain.is (ap not c.if-not-s-count.true)

pub returns : goal.returns
unfolding ◌and◌
returns c = chain_on _ _ _ _ _ _ _ _ _ c.in-Chain.is _ (ap not c.if-not-s-count.false) c.is_chain.ensures
