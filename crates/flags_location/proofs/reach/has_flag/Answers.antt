use Rattle.flags_location.proofs.reach.has_flag.Goals as goal

pub returns : goal.returns
returns c = cc
