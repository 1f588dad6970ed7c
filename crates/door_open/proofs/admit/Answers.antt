use mathlib.Core.Path.{refl, sym, ap, ◌∙◌}
use mathlib.Core.Bool.{false}
use native.Mathlib.Omega.{arith}
use Rattle.door_pieces.specs.PiecesLaws.{both_fit, early_pieces, early_passed, joined_front, front_length}
use Rattle.door_open.specs.Laid.{laid_rows, laid_places, laid_mode}
use Rattle.model.specs.Table.{Mode}
use Rattle.model_laws.specs.AdmissionLaws.{answer_same}
use Rattle.door_open.proofs.admit.Goals as goal

pub overflow_mul-end : goal.overflow_mul-end
overflow_mul-end c =
    let k = both_fit _ _ (early_pieces _ _ 0 (sym c.requires.0) refl) in
    omega (arith, c.rows_both-n.ensures)

pub slice_bounds-admit_rows-end : goal.slice_bounds-admit_rows-end
slice_bounds-admit_rows-end c =
    let k = both_fit _ _ (early_pieces _ _ 0 (sym c.requires.0) refl) in
    front_length _ _ _ (c.rows_in-all.ensures ∙ laid_rows false _ _ _ c.requires.1) (omega (arith, c.rows_both-n.ensures))

pub overflow_cast-n : goal.overflow_cast-n
overflow_cast-n c =
    let k = both_fit _ _ (early_pieces _ _ 0 (sym c.requires.0) refl) in
    omega (arith, c.rows_both-n.ensures)

pub returns : goal.returns
returns c =
    let early = c.requires.0 in
    let laid = c.requires.1 in
    rw (
      early_passed _ _ 0 (sym early) refl _,
      ← joined_front _ _ _ _ (early_pieces _ _ 0 (sym early) refl) c.rows_both-n.ensures (c.rows_in-all.ensures ∙ laid_rows false _ _ _ laid),
      ← c.rows_both-n.ensures,
      ← c.has_hosts-hosts.ensures,
      ← c.agents_at-agents.ensures,
      ← (c.places_in-p.ensures ∙ laid_places false _ _ _ laid),
      ← (c.counted_in-counted.ensures ∙ ap (λ (g : Mode). g.counted) (laid_mode false _ _ _ laid)),
    )
    (answer_same _ _ (c.of.ensures ∙ c.admit_rows-said.ensures))
