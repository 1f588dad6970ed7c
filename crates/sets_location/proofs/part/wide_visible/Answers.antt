use Rattle.sets_location.specs.Elements.{wide_shown_lem}
use native.Mathlib.Omega.{arith}
use Rattle.sets_location.proofs.part.wide_visible.Goals as goal

pub get-class-requires : goal.get-class-requires
get-class-requires c = let e = c.class.ensures in omega (arith, e, c.requires.1, c.requires.2)

pub returns : goal.returns
returns c =
    wide_shown_lem _ _ _ _ _ _ _ _ c.class.ensures c.get-class.ensures c.rows.ensures c.bitand.ensures c.rows-2.ensures c.sub.ensures
