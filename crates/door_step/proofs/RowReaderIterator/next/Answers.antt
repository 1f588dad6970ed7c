use Rattle.door_step.specs.StepLaws.{some_left, some_any, none_any}
use Rattle.door_step.proofs.RowReaderIterator.next.Goals as goal

pub returns-clause-goes : goal.returns-clause-goes
returns-clause-goes c =
    record {
      on = λ f. some_left _ _ c.step_at.ensures c.next_at-self.ensures;
      keeps = some_any _;
      rests = λ f. none_any _;
    }
