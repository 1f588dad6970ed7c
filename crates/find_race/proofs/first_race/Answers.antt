use Rattle.find_race.specs.First.{Searched, search_ran, search_hit, none_starts, none_more, pair_off, pair_none, pair_on, race_byte_lem}
use Rattle.find_race.specs.First.{race_ends, row_starts, row_off, race_found, race_none}
use Rattle.model.specs.Table.{decode}
use Rattle.run.specs.Layout.{table_of}
use Prim.Native.Nat.{◌+◌}
use Rattle.finite.specs.Below.{least_none, least_more}
use native.Mathlib.Omega.{arith}
use mathlib.Core.Path.{◌≡◌, refl, sym, ap, ◌∙◌}
use Rattle.model.specs.declared.Row.{Row}
use borrow.Author.Rules.{rules}
use Rattle.find_race.proofs.first_race.Goals as goal
use Rattle.find_race.proofs.first_race.Goals.{then-end-b, else-end-b+then-unordered_at}

pub pairs-init : goal.pairs-init
pairs-init c = (search rules, refl, least_none _)

pub loop-y-init : goal.loop-y-init
loop-y-init c = (search rules, search rules, c.pairs.invariant.1, row_starts _ _, search rules)

pub loop-y-preserved-then-not-may_race : goal.loop-y-preserved-then-not-may_race
unfolding decode
loop-y-preserved-then-not-may_race c =
    let inv = c.loop-y.invariant in
    let off = pair_off _ _ _ (sym c.may_race.ensures ∙ c.if-not-may_race.true) in
    (search rules, search rules, inv.2, least_more _ _ inv.3 off, inv.4)

pub loop-b-init : goal.loop-b-init
unfolding decode
loop-b-init c =
    none_starts _ _ _ _ (ap (λ (v : Row). v.start) c.row-r.ensures)

pub loop-b-preserved : goal.loop-b-preserved
loop-b-preserved c = none_more _ _ _ _ c.loop-b.invariant (sym c.unordered_at.ensures ∙ c.if-unordered_at.false)

pub overflow_cast-answer-then-hit-end-2 : goal.overflow_cast-answer-then-hit-end-2
unfolding decode
overflow_cast-answer-then-hit-end-2 c =
    let may = sym c.may_race.ensures ∙ c.if-not-may_race.false in
    let row = c.row-r.ensures in
    let below = c.pairs-test.true in
    let ends = race_ends _ _ _ c.requires.0 _ row below may in
    search rules

pub loop-y-preserved : goal.loop-y-preserved
unfolding decode
loop-y-preserved c =
    let none = c.loop-b.invariant in
    let found : Searched (table_of c.args.t.now) c.pairs.x c.loop-y.y (c.row-r.result.start + c.row-r.result.size) c.if-end-b.hit =
    elim c.if-end-b.branch [ then-end-b v ↦ search_ran _ _ _ _ _ _ none v.if-end-b.true v.hit-is | else-end-b+then-unordered_at v ↦ search_hit _ _ _ _ _ _ none (sym v.unordered_at.ensures ∙ v.if-unordered_at.true) v.hit-is ]
    in
    let inv = c.loop-y.invariant in
    let sized = c.requires.1.2 in
    let row = c.row-r.ensures in
    let below = c.pairs-test.true in
    let off = pair_none _ _ _ sized below _ _ row found.0 c.if-hit-end.false in
    (search rules, search rules, inv.2, least_more _ _ inv.3 off, inv.4)

pub pairs-preserved : goal.pairs-preserved
unfolding decode
pairs-preserved c =
    let e : c.loop-y.y ≡ c.args.t.now.rows = omega arith in
    let off = row_off _ _ _ refl (rw e at c.loop-y.invariant.3) in
    (search rules, c.loop-y.invariant.2, least_more _ _ c.pairs.invariant.2 off)

pub returns-after-pairs : goal.returns-after-pairs
unfolding decode
returns-after-pairs c =
    let e : c.pairs.x ≡ c.args.t.now.rows = omega arith in
    c.pairs.invariant.1 ∙ race_none _ _ refl (rw e at c.pairs.invariant.2)

pub returns-then-hit-end : goal.returns-then-hit-end
unfolding decode
returns-then-hit-end c =
    let none = c.loop-b.invariant in
    let found : Searched (table_of c.args.t.now) c.pairs.x c.loop-y.y (c.row-r.result.start + c.row-r.result.size) c.if-end-b.hit =
    elim c.if-end-b.branch [ then-end-b v ↦ search_ran _ _ _ _ _ _ none v.if-end-b.true v.hit-is | else-end-b+then-unordered_at v ↦ search_hit _ _ _ _ _ _ none (sym v.unordered_at.ensures ∙ v.if-unordered_at.true) v.hit-is ]
    in
    let inv = c.loop-y.invariant in
    let may = sym c.may_race.ensures ∙ c.if-not-may_race.false in
    let sized = c.requires.1.2 in
    let below = c.pairs-test.true in
    let hit = found.1 c.if-hit-end.true in
    race_found _ _ _ _ c.pairs.invariant.2 below inv.3
    c.loop-y-test.true (pair_on _ _ _ sized below _ inv.0 may found.0 hit)
    (race_byte_lem _ _ _ sized below _ found.0 hit)
