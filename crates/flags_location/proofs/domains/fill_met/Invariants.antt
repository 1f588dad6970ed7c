use Rattle.run.specs.Layout.{table_of}
use Rattle.flags_location.specs.Domains.{met_by}
use Rattle.work_area.specs.Regions.{MET}
use Rattle.work_area.specs.State.{Ordered}
use Rattle.flags_location.specs.Filling.{RowFilled, GridFilled}
use Rattle.flags_location.proofs.domains.fill_met.Given as goal

abbrev pub invariant-loop-y : goal.invariant-loop-y
invariant-loop-y l = RowFilled (Ordered (table_of l.t) l.t.rows) MET l.t.rows l.m (met_by (table_of l.t) l.m) l.initial.w l.w l.y

abbrev pub invariant-loop-m : goal.invariant-loop-m
invariant-loop-m l = GridFilled (Ordered (table_of l.t) l.t.rows) MET l.t.rows (met_by (table_of l.t)) l.initial.w l.w l.m
