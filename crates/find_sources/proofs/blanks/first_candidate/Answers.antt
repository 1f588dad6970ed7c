use mathlib.Core.Path.{◌≡◌, sym, ◌∙◌}
use native.Mathlib.Omega.{arith}
use Rattle.finite.specs.Below.{least_none, least_found, least_more}
use borrow.Author.Rules.{rules}
use Rattle.find_sources.proofs.blanks.first_candidate.Goals as goal

pub loop-s-init : goal.loop-s-init
loop-s-init c = (search rules, least_none _)

pub returns-then-candidate_at : goal.returns-then-candidate_at
returns-then-candidate_at c = (
  sym (least_found _ _ _ c.loop-s.invariant.1 (sym c.candidate_at.ensures ∙ c.if-candidate_at.true)
      c.loop-s-test.true),
  omega arith,
)

pub loop-s-preserved : goal.loop-s-preserved
loop-s-preserved c = (search rules, least_more _ _ c.loop-s.invariant.1 (sym c.candidate_at.ensures ∙ c.if-candidate_at.false))

pub returns : goal.returns
returns c =
    let e : c.loop-s.s ≡ c.args.t.now.rows = omega arith in
    (sym (rw e at c.loop-s.invariant.1), omega arith)
