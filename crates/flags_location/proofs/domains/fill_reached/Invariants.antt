use Rattle.run.specs.Layout.{table_of}
use Rattle.flags_location.specs.Domains.{reached}
use Rattle.work_area.specs.Regions.{REACHED}
use Rattle.flags_location.specs.Domains.{Meeting}
use Rattle.flags_location.specs.Filling.{RowFilled, GridFilled}
use Rattle.flags_location.proofs.domains.fill_reached.Given as goal

abbrev pub invariant-loop-y : goal.invariant-loop-y
invariant-loop-y l = RowFilled (Meeting (table_of l.t) l.t.rows) REACHED l.t.rows l.a (reached (table_of l.t) l.a) l.initial.w l.w l.y

abbrev pub invariant-loop-a : goal.invariant-loop-a
invariant-loop-a l = GridFilled (Meeting (table_of l.t) l.t.rows) REACHED l.t.rows (reached (table_of l.t)) l.initial.w l.w l.a
