use Rattle.flags_location.specs.Domains.{added_depends, added_nothing}
use native.Mathlib.Omega.{arith}
use Rattle.flags_location.proofs.hosted.put_dependency.Goals as goal

pub returns-then-t-i : goal.returns-then-t-i
returns-then-t-i c = added_nothing _ _ _ c.first_of-i.ensures c.second_of-j.ensures _ (λ h. absurd (omega arith))

pub returns-then-t-j : goal.returns-then-t-j
returns-then-t-j c = added_nothing _ _ _ c.first_of-i.ensures c.second_of-j.ensures _ (λ h. c.if-t-j.true)

pub returns : goal.returns
returns c =
    let pre = c.requires in
    added_depends _ _ _ c.first_of-i.ensures
    c.second_of-j.ensures pre
    c.if-t-i.false c.if-t-j.false c.put.ensures
