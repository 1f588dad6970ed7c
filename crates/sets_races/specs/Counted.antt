-- The counts of a report. Assumes nothing.
use Rattle.std.specs.Prelude.{◌≡◌, ◌+◌}
use Rattle.model.specs.Report.{conflicting, mutuals, ordered, racing}
use Rattle.model.specs.Table.{Table}
use Rattle.sets_races.specs.declared.Counts.{Counts}

pub record Counted (t : Table) (c : Counts) : Type 0 where
  pub conflicting : c.conflicting ≡ conflicting t
  pub mutuals : c.mutuals ≡ mutuals t
  pub ordered : c.ordered ≡ ordered t
  -- the rest race
  pub racing : c.mutuals + c.ordered + racing t ≡ c.conflicting
