use Rattle.sets_of_rows.specs.Walk.{walk_less}
use Rattle.sets_of_rows.specs.First.{first_any}
use Rattle.sets_of_rows.proofs.MembersIterator.next.Goals as goal

pub but_first-self-requires : goal.but_first-self-requires
but_first-self-requires c = first_any c.in_ok-i.ensures

pub returns-clause-goes : goal.returns-clause-goes
returns-clause-goes c = record { on = λ f. (tt, tt, walk_less c.in_ok-i.ensures c.but_first-self.ensures); keeps = tt; rests = λ f. tt }
