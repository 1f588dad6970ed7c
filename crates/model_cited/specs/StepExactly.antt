-- What an answer of a step means. It is given exactly when that holds: proofs/StepExactly.antt.
use Rattle.std.specs.Prelude.{◌≡◌, List, ℕ, ◌+◌, ◌≤◌, ◌<◌}
use Rattle.model.specs.Table.{row_of, source_of}
use Rattle.model.specs.Header.{rows_at, row_bytes}
use Rattle.door_step.specs.Steps.{StepAnswer}
use Rattle.model_promises.specs.Terms.{Fillable, Unfillable}
use Rattle.model_cited.specs.Terms.{source}

module _ (s : List ℕ) (i : ℕ) where
  abbrev pub Means : StepAnswer → Type 0
  Means (StepAnswer.Refused n j) = Unfillable s n j
  Means (StepAnswer.Row r c next) = Fillable s × (i < rows_at s)
      × (r ≡ row_of (row_bytes s) i) × (c ≡ source (source_of (row_bytes s) i)) × (next ≡ i + 1)
  Means (StepAnswer.End next) = Fillable s × (rows_at s ≤ i) × (next ≡ i)
