use Rattle.sets_of_table.specs.Hears.{shares_all}
use Rattle.sets_of_table.proofs.share.fill.Goals as goal

pub returns : goal.returns
returns c =
    shares_all c.share.ensures c.hosted-hosts.ensures c.put.ensures c.hear.ensures
