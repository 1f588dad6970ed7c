use mathlib.Core.Path.{sym, ◌∙◌}
use Rattle.door_pieces.specs.Entry.{few}
use Rattle.ask_derive.specs.Whole.{two_known, rows_12, rows_derived}
use Rattle.ask_derive.proofs.derive_rows.Goals as goal

pub returns-then-not-two_moments : goal.returns-then-not-two_moments
returns-then-not-two_moments c = rows_12 _ _ _ _ _ (sym c.two_moments.ensures ∙ c.if-not-two_moments.true)

pub derive_moments-r-requires : goal.derive_moments-r-requires
derive_moments-r-requires c =
    let two = two_known _ _ _ _ _ _ (few c.requires.2) (sym c.two_moments.ensures
    ∙ c.if-not-two_moments.false) in
    (c.requires.0, c.requires.1, two)

pub returns : goal.returns
returns c =
    let two = sym c.two_moments.ensures ∙ c.if-not-two_moments.false in
    rows_derived _ _ _ _ _ _ _ _ _ c.requires.0 two
    c.derive_moments-r.ensures c.clear.ensures
