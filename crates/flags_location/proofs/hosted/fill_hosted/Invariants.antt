use Rattle.run.specs.Layout.{table_of}
use Rattle.flags_location.specs.Order.{hosted}
use Rattle.work_area.specs.Regions.{HOSTED}
use Rattle.flags_location.specs.Domains.{Sources}
use Rattle.flags_location.specs.Filling.{RowFilled, GridFilled}
use Rattle.flags_location.proofs.hosted.fill_hosted.Given as goal

abbrev pub invariant-loop-y : goal.invariant-loop-y
invariant-loop-y l = RowFilled (Sources (table_of l.t) l.t.rows) HOSTED l.t.rows l.x (hosted (table_of l.t) l.x) l.initial.w l.w l.y

abbrev pub invariant-loop-x : goal.invariant-loop-x
invariant-loop-x l = GridFilled (Sources (table_of l.t) l.t.rows) HOSTED l.t.rows (hosted (table_of l.t)) l.initial.w l.w l.x
