use Rattle.door_rows.proofs.scopes.shares_scope.Goals as goal

pub returns : goal.returns
returns c = c.shares_at.ensures _ c.place_in-x.ensures c.place_in-y.ensures
