use mathlib.Core.Path.{sym, ◌∙◌}
use borrow.Author.Tests.{not-false}
use Rattle.door_write.proofs.Laws.{given_refused, parts_short, table_refused, places_room, rows_room, ends_room, read_is, given_read}
use mathlib.Core.Path.{ap}
use mathlib.Core.Bool.{not}
use Rattle.model_laws.specs.AdmissionLaws.{answer_same, refusal_is}
use Rattle.door_write.proofs.read.read_parts.Goals as goal

pub returns-then-not-lent_fit : goal.returns-then-not-lent_fit
returns-then-not-lent_fit c =
    rw c.into.ensures (given_refused _ _ _ _ _ _ _ (parts_short _ _ _ _ (sym c.lent_fit.ensures ∙ c.if-not-lent_fit.true)))

pub returns-in_default : goal.returns-in_default
returns-in_default c =
    let said = answer_same _ _ (c.of-a.ensures ∙ c.admit.ensures) in
    given_refused _ _ _ _ _ _ _
    (table_refused _ _ _ _ _ _ (sym c.lent_fit.ensures ∙ not-false _ (ap not c.if-not-lent_fit.false))
    (sym said ∙ refusal_is c.refusal_of.ensures c.in_default.is))

pub put_places-requires : goal.put_places-requires
put_places-requires c =
    places_room _ _ _ _ (sym c.lent_fit.ensures ∙ not-false _ (ap not c.if-not-lent_fit.false))
    _ _ _ (answer_same _ _ (c.of-a.ensures ∙ c.admit.ensures)) c.in-Admitted.is

pub put_entries-requires : goal.put_entries-requires
put_entries-requires c =
    rows_room _ _ _ _ (sym c.lent_fit.ensures ∙ not-false _ (ap not c.if-not-lent_fit.false))
    _ _ _ (answer_same _ _ (c.of-a.ensures ∙ c.admit.ensures)) c.in-Admitted.is

pub put_ends-requires : goal.put_ends-requires
put_ends-requires c =
    ends_room _ _ _ _ (sym c.lent_fit.ensures ∙ not-false _ (ap not c.if-not-lent_fit.false))
    _ _ _ (answer_same _ _ (c.of-a.ensures ∙ c.admit.ensures)) c.in-Admitted.is
    _ c.read_dependencies-d.ensures

pub returns : goal.returns
returns c =
    given_read _ _ _ _ _ _ _ _ _ _ _ _ _ _ _
    (read_is _ _ _ _ (sym c.lent_fit.ensures ∙ not-false _ (ap not c.if-not-lent_fit.false))
    _ _ _ (answer_same _ _ (c.of-a.ensures ∙ c.admit.ensures)) c.in-Admitted.is _ c.read_dependencies-d.ensures _ c.byte_at.ensures)
    c.read_places.ensures c.read_entries.ensures c.read_dependencies-d.ensures
    c.put_places.ensures c.put_entries.ensures c.put_ends.ensures
