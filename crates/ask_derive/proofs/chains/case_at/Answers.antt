-- `case_at` meets its contract: on the rows and the order that were read. Assumes nothing.
use Rattle.ask_derive.specs.Cases.{case_small, case_told}
use Rattle.ask_derive.proofs.chains.case_at.Goals as goal

pub returns : goal.returns
returns c =
    let e = c.case_of.ensures in (
      rw e (case_small _ _ _ _ _ _ _),
      case_told _ _ _ _ _ _ _ _ _ _ _ e c.row-r.ensures
          c.row-q.ensures c.ordered_at-ordered.ensures,
    )
