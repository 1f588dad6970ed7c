use mathlib.Core.Path.{refl, sym}
use native.Mathlib.Omega.{arith}
use Rattle.model.specs.Table.{decode}
use Rattle.ask_check.specs.Answers.{show_asked, rows_few, start_found, judge_cyclic, judge_on, known_kept, edges_held}
use Rattle.ask_check.proofs.by_flags.judge_located.Goals as goal

pub show_cycle-size-requires : goal.show_cycle-size-requires
unfolding decode
show_cycle-size-requires c =
    let pre = c.requires in
    let asked = show_asked _ _ _ _ _ _ _ refl
    c.fill_edges.ensures
    c.in-Some.ensures.0.1
    c.cycle_start.ensures.1 pre.2.ready c.in-Some.ensures.0.0 in
    (pre.0, pre.1, asked)

pub overflow_cast-result : goal.overflow_cast-result
unfolding decode
overflow_cast-result c =
    let few = rows_few _ _ _ _ refl (start_found _ _ _ _ _ _ refl
    c.fill_edges.ensures c.in-Some.ensures.0.1) c.in-Some.ensures.0.0 in
    omega (
      arith,
      few,
      c.show_cycle-size.ensures.0,
      c.requires.2.ready.0,
    )

pub returns-in-Some : goal.returns-in-Some
unfolding decode
returns-in-Some c =
    let show = c.show_cycle-size.ensures in
    judge_cyclic _ _ _ _ _ _ _ refl c.fill_edges.ensures
    c.in-Some.ensures.0.1
    c.cycle_start.ensures.1 _ _ _ _
    c.in-Some.ensures.0.0 show.0 show.1 show.2

pub settle-requires : goal.settle-requires
settle-requires c =
    let pre = c.requires in (
      pre.1,
      record { bounded = pre.2.bounded; ready = known_kept (omega arith) pre.2.ready (edges_held c.fill_edges.ensures c.cycle_start.ensures.1).1 },
    )

pub returns : goal.returns
unfolding decode
returns c =
    judge_on _ _ _ _ _ _ _ refl c.fill_edges.ensures (sym c.in_default.ensures.0)
    c.cycle_start.ensures.1 _ _ (omega arith) c.settle.ensures
