use Rattle.run.specs.Layout.{table_of}
use Rattle.model.specs.Availability.{broadens}
use Rattle.work_area.specs.Regions.{REACH_OUT}
use Rattle.work_area.specs.State.{Ordered}
use Rattle.flags_location.specs.Filling.{RowFilled, GridFilled}
use Rattle.flags_location.proofs.reach.fill_out.Given as goal

abbrev pub invariant-loop-c : goal.invariant-loop-c
invariant-loop-c l = RowFilled (Ordered (table_of l.t) l.t.rows) REACH_OUT l.t.rows l.a (broadens (table_of l.t) l.a) l.initial.w l.w l.c

abbrev pub invariant-loop-a : goal.invariant-loop-a
invariant-loop-a l = GridFilled (Ordered (table_of l.t) l.t.rows) REACH_OUT l.t.rows (broadens (table_of l.t)) l.initial.w l.w l.a
