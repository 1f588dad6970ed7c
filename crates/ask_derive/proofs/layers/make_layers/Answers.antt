-- `make_layers` meets its contract: one law on the lists. Assumes nothing.
use Rattle.ask_derive.specs.Layers.{made_layered}
use Rattle.ask_derive.proofs.layers.make_layers.Goals as goal

pub returns : goal.returns
returns c =
    made_layered c.requires.2.mutuals.fits c.fill_step.ensures c.fill_layers.ensures
