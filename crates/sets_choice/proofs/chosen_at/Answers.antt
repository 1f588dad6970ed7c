use Rattle.finite.specs.Logic.{◌and◌}
use mathlib.Core.Path.{refl}
use native.Mathlib.Omega.{arith}
use Rattle.model.specs.Table.{decode}
use Rattle.sets_grids.specs.Given.{given_few}
use Rattle.find_sources.specs.Choice.{blank_told, own_told}
use Rattle.sets_choice.specs.Choosing.{plain_has, plain_access}
use Rattle.sets_choice.proofs.chosen_at.Goals as goal

pub get-plain-requires : goal.get-plain-requires
get-plain-requires c = let a = c.requires.1.given.opened.space in omega arith

pub has-requires : goal.has-requires
has-requires c = omega (arith, c.requires.0, given_few c.requires.1.given)

pub choice_of-requires : goal.choice_of-requires
unfolding decode ◌and◌
choice_of-requires c =
    let pre = c.requires in
    let plain = plain_has pre.1.given.opened _ pre.0 c.get-plain.ensures c.has.ensures in
    (record { low = pre.0; is = plain_access _ _ _ plain c.if-has-is_blank.true }, pre.1)

pub returns-then-has-is_blank : goal.returns-then-has-is_blank
unfolding decode ◌and◌
returns-then-has-is_blank c =
    let pre = c.requires in
    let plain = plain_has pre.1.given.opened _ pre.0 c.get-plain.ensures c.has.ensures in
    blank_told _ _ _ _ _ _ _ refl c.from-source.ensures plain c.is_blank.ensures c.if-has-is_blank.true _ c.choice_of.ensures

pub returns : goal.returns
unfolding decode ◌and◌
returns c =
    let pre = c.requires in
    let plain = plain_has pre.1.given.opened _ pre.0 c.get-plain.ensures c.has.ensures in
    own_told _ _ _ _ _ _ _ refl c.from-source.ensures plain c.is_blank.ensures c.if-has-is_blank.false
