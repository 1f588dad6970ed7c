use mathlib.Core.Path.{sym, ◌∙◌}
use Rattle.model.specs.Table.{decode}
use Rattle.find_axioms.specs.Sources.{source_in}
use Rattle.sets_of_rows.specs.Walk.{walk_less, walk_in, search_begin, search_turn, search_found, search_end}
use Rattle.sets_of_rows.specs.Rows.{rows_at}
use Rattle.sets_of_table.specs.Known.{says_rows}
use Rattle.sets_of_table.specs.Ask.{few}
use Rattle.sets_grids.specs.Filling.{member_in}
use Rattle.sets_overwritten.specs.Over.{reader_off, reader_source, reader_none, reader_hit, reader_found, reader_nothing}
use native.Mathlib.Omega.{arith}
use Rattle.sets_overwritten.proofs.first_overwrite.Goals as goal

pub rows-y-items-requires : goal.rows-y-items-requires
rows-y-items-requires c = let a = c.requires.1.given.opened.space in omega arith

pub loop-y-init : goal.loop-y-init
loop-y-init c = search_begin _ _ (reader_off _ (source_in c.args.src.now) _ (rows_at (c.into_iter-y-iterator.ensures.into_iter_gives ∙ c.rows-y-items.ensures) (says_rows c.requires.1.given.opened.known.tested.accesses.reads)))

pub bounds-src-y : goal.bounds-src-y
bounds-src-y c =
    let m = member_in _ (rows_at (c.into_iter-y-iterator.ensures.into_iter_gives ∙ c.rows-y-items.ensures) (says_rows c.requires.1.given.opened.known.tested.accesses.reads)) (walk_in c.loop-y.invariant.0 c.in-Some.ensures.steps.0) in let l = m.0 in let e = c.requires.0 in omega (arith, l, e)

pub overflow_cast-source : goal.overflow_cast-source
overflow_cast-source c = omega (arith, c.type_inv.src c.in-Some.y)

pub overwritten_by-requires : goal.overwritten_by-requires
unfolding decode
overwritten_by-requires c =
    let m = member_in _ (rows_at (c.into_iter-y-iterator.ensures.into_iter_gives ∙ c.rows-y-items.ensures) (says_rows c.requires.1.given.opened.known.tested.accesses.reads)) (walk_in c.loop-y.invariant.0 c.in-Some.ensures.steps.0) in (c.if-source-t.true, record { low = m.0; is = m.1 }, c.requires.1)

pub loop-y-preserved-in_default : goal.loop-y-preserved-in_default
loop-y-preserved-in_default c =
    search_turn _ _ (reader_off _ (source_in c.args.src.now) _ (rows_at (c.into_iter-y-iterator.ensures.into_iter_gives ∙ c.rows-y-items.ensures) (says_rows c.requires.1.given.opened.known.tested.accesses.reads))) c.loop-y.invariant c.in-Some.ensures.steps.0 c.in-Some.ensures.steps.1 (reader_none _ (source_in c.args.src.now) _ _ _ c.overwritten_by.ensures c.in_default.is)

pub returns-in-Some-overwritten_by : goal.returns-in-Some-overwritten_by
returns-in-Some-overwritten_by c =
    let m = member_in _ (rows_at (c.into_iter-y-iterator.ensures.into_iter_gives ∙ c.rows-y-items.ensures) (says_rows c.requires.1.given.opened.known.tested.accesses.reads)) (walk_in c.loop-y.invariant.0 c.in-Some.ensures.steps.0) in
    let o = c.overwritten_by.ensures in
    let hit = reader_hit _ (source_in c.args.src.now) _ _ _ m.0 m.1 o c.in-Some-overwritten_by.is in
    sym c.in-Some-overwritten_by.is ∙ reader_found _ (source_in c.args.src.now) _ c.requires.1.given.opened.fit.sized c.requires.1.given.opened.rows _ _ m.0 (search_found _ _ (reader_off _ (source_in c.args.src.now) _ (rows_at (c.into_iter-y-iterator.ensures.into_iter_gives ∙ c.rows-y-items.ensures) (says_rows c.requires.1.given.opened.known.tested.accesses.reads))) c.loop-y.invariant c.in-Some.ensures.steps.0 hit) hit o

pub loop-y-preserved : goal.loop-y-preserved
loop-y-preserved c =
    search_turn _ _ (reader_off _ (source_in c.args.src.now) _ (rows_at (c.into_iter-y-iterator.ensures.into_iter_gives ∙ c.rows-y-items.ensures) (says_rows c.requires.1.given.opened.known.tested.accesses.reads))) c.loop-y.invariant c.in-Some.ensures.steps.0 c.in-Some.ensures.steps.1 (reader_source _ (source_in c.args.src.now) _ c.requires.1.given.opened.rows _ c.if-source-t.false)

pub returns : goal.returns
returns c =
    reader_nothing _ (source_in c.args.src.now) _ c.requires.1.given.opened.fit.sized c.requires.1.given.opened.rows (few c.requires.1.given.opened) (search_end _ _ (reader_off _ (source_in c.args.src.now) _ (rows_at (c.into_iter-y-iterator.ensures.into_iter_gives ∙ c.rows-y-items.ensures) (says_rows c.requires.1.given.opened.known.tested.accesses.reads))) _ c.in-None.ensures.steps.0 c.loop-y.invariant.1)
