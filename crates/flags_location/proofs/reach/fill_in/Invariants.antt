use Rattle.run.specs.Layout.{table_of}
use Rattle.model.specs.Availability.{narrows}
use Rattle.work_area.specs.Regions.{REACH_IN}
use Rattle.work_area.specs.State.{Ordered}
use Rattle.flags_location.specs.Filling.{RowFilled, GridFilled}
use Rattle.flags_location.proofs.reach.fill_in.Given as goal

abbrev pub invariant-loop-v : goal.invariant-loop-v
invariant-loop-v l = RowFilled (Ordered (table_of l.t) l.t.rows) REACH_IN l.t.rows l.j (narrows (table_of l.t) l.j) l.initial.w l.w l.v

abbrev pub invariant-loop-j : goal.invariant-loop-j
invariant-loop-j l = GridFilled (Ordered (table_of l.t) l.t.rows) REACH_IN l.t.rows (narrows (table_of l.t)) l.initial.w l.w l.j
