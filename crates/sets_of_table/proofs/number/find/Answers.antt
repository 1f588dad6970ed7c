use Rattle.std.proofs.Common.{rules, ◌≡◌, ◌≢◌, take}
use borrow.Author.Tests.{tests}
use Rattle.std.proofs.lemmas.Iterator.{IsFirst-from_position, YieldsList-from_slice}
use Rattle.sets_of_table.specs.Number.{first_key}
use Rattle.sets_of_table.proofs.number.find.Goals as goal

pub returns : goal.returns
returns c =
    let a = c.args in
    let ends = YieldsList-from_slice (take a.l a.keys.now) (search rules) in
    let first = IsFirst-from_position _ _ c.position.result (λ x. x ≡ a.k) (λ x. x ≢ a.k) c.position.ensures.ran ends (λ x q s. search (rules, tests)) (λ x q s. search (rules, tests)) in
    rw c.unwrap_or.ensures (first_key a.keys.now a.l a.k c.requires c.position.result first)
