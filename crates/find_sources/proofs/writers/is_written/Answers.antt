use mathlib.Core.Path.{◌≡◌, sym, ◌∙◌}
use native.Mathlib.Omega.{arith}
use Rattle.finite.specs.Below.{any_none, any_in, any_more}
use Rattle.model.specs.Table.{decode}
use Rattle.model.specs.Fill.{written}
use borrow.Author.Rules.{rules}
use Rattle.find_sources.proofs.writers.is_written.Goals as goal

pub loop-z-init : goal.loop-z-init
loop-z-init c = (search rules, any_none _)

pub returns-then-written_by : goal.returns-then-written_by
unfolding written decode
returns-then-written_by c = sym (any_in _ _ _ c.loop-z-test.true (sym c.written_by.ensures ∙ c.if-written_by.true))

pub loop-z-preserved : goal.loop-z-preserved
loop-z-preserved c = (search rules, any_more _ _ c.loop-z.invariant.1 (sym c.written_by.ensures ∙ c.if-written_by.false))

pub returns : goal.returns
unfolding written decode
returns c =
    let e : c.loop-z.z ≡ c.args.t.now.rows = omega arith in
    sym (rw e at c.loop-z.invariant.1)
