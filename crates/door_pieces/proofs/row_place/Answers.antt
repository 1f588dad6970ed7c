use mathlib.Core.Path.{refl, sym}
use native.Mathlib.Omega.{arith}
use Rattle.door_pieces.specs.PiecesLaws.{place_empty, held_passed, held_below, place_first, second_fits, place_second}
use Rattle.door_pieces.proofs.row_place.Goals as goal

pub returns-then-part-eq0 : goal.returns-then-part-eq0
returns-then-part-eq0 c = place_empty _ _ _ _ c.row_part-part.ensures c.if-part-eq0.true

pub returns-then-i-rows : goal.returns-then-i-rows
returns-then-i-rows c =
    let held = held_passed _ _ _ _ c.row_part-part.ensures c.if-part-eq0.false in
    place_first _ _ _ 0 (sym held) refl _ c.rows_at-rows.ensures _ c.rows_begin.ensures.0 c.if-i-rows.true

pub overflow_cast-result-2 : goal.overflow_cast-result-2
overflow_cast-result-2 c =
    let is = c.row_part-part.ensures in
    let held = held_passed _ _ _ _ is c.if-part-eq0.false in
    let l = second_fits _ _ _ 0 (sym held) refl _ c.rows_at-rows.ensures _ refl c.if-i-rows.false (held_below _ _ _ _ is c.if-part-eq0.false) in
    omega arith

pub returns : goal.returns
returns c =
    let is = c.row_part-part.ensures in
    let held = held_passed _ _ _ _ is c.if-part-eq0.false in
    place_second _ _ _ 0 (sym held) refl _ c.rows_at-rows.ensures _ refl c.if-i-rows.false (held_below _ _ _ _ is c.if-part-eq0.false)
