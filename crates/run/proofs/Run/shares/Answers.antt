use Rattle.run.proofs.Run.shares.Goals as goal

pub returns : goal.returns
returns c = c.shares_at.ensures _ c.place-x.ensures c.place-y.ensures
