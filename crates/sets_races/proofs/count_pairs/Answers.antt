use mathlib.Core.Path.{sym, ap, ◌∙◌}
use Prim.Native.Nat.{ℕ, ◌+◌}
use Rattle.model.specs.Limits.{ROWS}
use Rattle.model.specs.Table.{decode}
use Rattle.sets_of_rows.specs.Rows.{rows_at}
use Rattle.sets_of_rows.specs.Walk.{walk_in, walk_less}
use Rattle.sets_of_table.specs.Known.{says_rows}
use Rattle.sets_grids.specs.Filling.{member_in}
use Rattle.sets_grids.specs.Given.{given_few}
use Rattle.sets_grids.specs.Location.{judged}
use Rattle.sets_grids.specs.Grid.{grid_at}
use Rattle.sets_races.specs.Sums.{tally_begin, tally_turn, tally_end, tally_fits, row_fits, row_most}
use Rattle.sets_races.specs.Pair.{open_rows}
use Rattle.sets_races.specs.Search.{conflict_off, mutual_off, ordered_off, row_conflicts, row_mutuals, all_counted}
use native.Mathlib.Omega.{arith}
use Rattle.sets_races.proofs.count_pairs.Goals as goal

pub rows-i-items-requires : goal.rows-i-items-requires
rows-i-items-requires c = let a = c.requires.given.opened.space in omega arith

pub loop-i-init : goal.loop-i-init
loop-i-init c =
    let acc = rows_at (c.into_iter-i-iterator.ensures.into_iter_gives ∙ c.rows-i-items.ensures) (says_rows c.requires.given.opened.known.tested.accesses.access) in
    let x = tally_begin _ _ (conflict_off _ _ acc) in
    let y = tally_begin _ _ (mutual_off _ _ acc) in
    let z = tally_begin _ _ (ordered_off _ _ acc) in
    (x.0, x.1, y.1, z.1)

pub conflicting-others-requires : goal.conflicting-others-requires
unfolding decode
conflicting-others-requires c =
    let acc = rows_at (c.into_iter-i-iterator.ensures.into_iter_gives ∙ c.rows-i-items.ensures) (says_rows c.requires.given.opened.known.tested.accesses.access) in
    let m = member_in _ acc (walk_in c.loop-i.invariant.0 c.in-Some.ensures.steps.0) in (record { low = m.0; is = m.1 }, c.requires)

pub get-mutual-requires : goal.get-mutual-requires
get-mutual-requires c =
    let a = c.requires.given.room in let b = c.in-Some.ensures.steps.0.bound in omega arith

pub overflow_cast-c : goal.overflow_cast-c
overflow_cast-c c = let d = c.count.ensures.1 in omega arith

pub overflow_add-c : goal.overflow_add-c
overflow_add-c c =
    let few = given_few c.requires.given in let f = tally_fits ROWS _ c.loop-i.invariant.1 c.in-Some.ensures.steps.0 (row_fits _ _ few) in let a = f.0 in let b = f.1 in let d = c.count.ensures.1 in omega arith

pub overflow_cast-c-in-loop-i : goal.overflow_cast-c-in-loop-i
overflow_cast-c-in-loop-i c = let d = c.count-in-loop-i.ensures.1 in omega arith

pub overflow_add-c-in-loop-i : goal.overflow_add-c-in-loop-i
overflow_add-c-in-loop-i c =
    let few = given_few c.requires.given in let f = tally_fits ROWS _ c.loop-i.invariant.2 c.in-Some.ensures.steps.0 (row_fits _ _ few) in let a = f.0 in let b = f.1 in let d = c.count-in-loop-i.ensures.1 in omega arith

pub count_ordered-requires : goal.count_ordered-requires
unfolding decode
count_ordered-requires c =
    let acc = rows_at (c.into_iter-i-iterator.ensures.into_iter_gives ∙ c.rows-i-items.ensures) (says_rows c.requires.given.opened.known.tested.accesses.access) in
    let m = member_in _ acc (walk_in c.loop-i.invariant.0 c.in-Some.ensures.steps.0) in
    (m.0, open_rows c.requires.given c.requires.judging m.0 m.1 c.conflicting-others.ensures c.get-mutual.ensures c.sub.ensures, judged c.requires)

pub overflow_add-c-in-loop-i-2 : goal.overflow_add-c-in-loop-i-2
overflow_add-c-in-loop-i-2 c =
    let few = given_few c.requires.given in let f = tally_fits ROWS _ c.loop-i.invariant.3 c.in-Some.ensures.steps.0 (row_fits _ _ few) in let a = f.0 in let b = f.1 in let d = row_most _ _ _ _ few c.count_ordered.ensures in omega arith

pub loop-i-preserved : goal.loop-i-preserved
loop-i-preserved c =
    let acc = rows_at (c.into_iter-i-iterator.ensures.into_iter_gives ∙ c.rows-i-items.ensures) (says_rows c.requires.given.opened.known.tested.accesses.access) in
    let m = member_in _ acc (walk_in c.loop-i.invariant.0 c.in-Some.ensures.steps.0) in
    let few = given_few c.requires.given in
    let inv = c.loop-i.invariant in
    let x = tally_turn _ _ (conflict_off _ _ acc) (inv.0, inv.1) c.in-Some.ensures.steps.0 c.in-Some.ensures.steps.1
    (ap (λ (z : ℕ). c.loop-i.c.conflicting + z) (row_conflicts _ _ _ few c.conflicting-others.ensures c.count.ensures.0)) in
    let y = tally_turn _ _ (mutual_off _ _ acc) (inv.0, inv.2) c.in-Some.ensures.steps.0 c.in-Some.ensures.steps.1
    (ap (λ (z : ℕ). c.loop-i.c.mutuals + z) (row_mutuals _ _ _ _ few c.conflicting-others.ensures (grid_at c.requires.judging.mutuals m.0 c.get-mutual.ensures) c.bitand.ensures c.count-in-loop-i.ensures.0)) in
    let z = tally_turn _ _ (ordered_off _ _ acc) (inv.0, inv.3) c.in-Some.ensures.steps.0 c.in-Some.ensures.steps.1
    (ap (λ (z : ℕ). c.loop-i.c.ordered + z) c.count_ordered.ensures) in
    (x.0, x.1, y.1, z.1)

pub returns : goal.returns
returns c =
    let acc = rows_at (c.into_iter-i-iterator.ensures.into_iter_gives ∙ c.rows-i-items.ensures) (says_rows c.requires.given.opened.known.tested.accesses.access) in
    let done = c.in-None.ensures.steps.0 in
    let inv = c.loop-i.invariant in
    all_counted _ _ c.requires.given.opened.rows (given_few c.requires.given) (tally_end _ _ (conflict_off _ _ acc) _ _ done inv.1) (tally_end _ _ (mutual_off _ _ acc) _ _ done inv.2) (tally_end _ _ (ordered_off _ _ acc) _ _ done inv.3)
