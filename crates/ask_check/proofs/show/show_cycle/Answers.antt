use mathlib.Core.Path.{refl}
use native.Mathlib.Omega.{arith}
use Rattle.model.specs.Table.{decode}
use Rattle.ask_check.specs.Shown.{size_asked, layers_asked, rows_below, shown_is}
use Rattle.ask_check.specs.Answers.{known_kept}
use borrow.Author.Rules.{rules}
use Rattle.ask_check.proofs.show.show_cycle.Goals as goal

pub write_rows-requires : goal.write_rows-requires
unfolding decode
write_rows-requires c =
    let pre = c.requires in
    let fill = c.fill_until-size.ensures in
    let asked = size_asked _ _ _ _ _ _ _ refl pre.2.ready.0 pre.2.edges fill pre.2.first pre.2.start in
    let made = layers_asked _ _ _ _ _ _ _ refl pre.2.ready.0 pre.2.edges fill pre.2.first pre.2.start in
    (search rules, record { few = search rules; room = search rules; row = search rules; short = asked.0; made = made; leads = asked.1 })

pub write_edges-requires : goal.write_edges-requires
unfolding decode
write_edges-requires c =
    let pre = c.requires in
    let fill = c.fill_until-size.ensures in
    let asked = size_asked _ _ _ _ _ _ _ refl pre.2.ready.0 pre.2.edges fill pre.2.first pre.2.start in
    let rows = c.write_rows.ensures in (
      record { start = pre.2.start; few = omega (arith, asked.0, pre.2.ready.0); room = search rules; rows = rows_below _ _ _ _ _ _ _ refl pre.2.ready.0 pre.2.edges fill pre.2.first pre.2.start _ _ rows },
      search rules,
      known_kept (omega arith) pre.2.ready fill.1,
    )

pub returns : goal.returns
unfolding decode
returns c =
    let pre = c.requires in
    let fill = c.fill_until-size.ensures in
    let rows = c.write_rows.ensures in
    let clear = c.clear_numbers.ensures in
    let edges = c.write_edges.ensures in
    shown_is _ _ _ _ _ _ _ refl pre.2.ready.0 pre.2.edges fill pre.2.first pre.2.start _ _ rows _ _ pre.0 clear edges
