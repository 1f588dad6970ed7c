use mathlib.Core.Path.{◌≡◌, sym, ◌∙◌}
use native.Mathlib.Omega.{arith}
use Rattle.finite.specs.Below.{least_none, least_more, least_found}
use Rattle.bits.specs.Matrix.{row_apart}
use Rattle.work_walks.specs.Layers.{in_layer_bit}
use borrow.Author.Rules.{rules}
use Rattle.work_walks.proofs.Walks.layer_of.Goals as goal

pub loop-j-init : goal.loop-j-init
loop-j-init g c = (search rules, least_none _)

pub overflow_mul-j : goal.overflow_mul-j
overflow_mul-j g c = let a = c.args in omega (arith, row_apart c.loop-j.j a.n g.row.STRIDE c.loop-j-test.true)

pub overflow_add-self : goal.overflow_add-self
overflow_add-self g c = let a = c.args in omega (arith, row_apart c.loop-j.j a.n g.row.STRIDE c.loop-j-test.true)

pub overflow_add-self-in-loop-j : goal.overflow_add-self-in-loop-j
overflow_add-self-in-loop-j g c = let a = c.args in omega (arith, row_apart c.loop-j.j a.n g.row.STRIDE c.loop-j-test.true)

pub overflow_mul-self : goal.overflow_mul-self
overflow_mul-self g c = let a = c.args in omega (arith, row_apart c.loop-j.j a.n g.row.STRIDE c.loop-j-test.true)

pub overflow_add-self-in-loop-j-2 : goal.overflow_add-self-in-loop-j-2
overflow_add-self-in-loop-j-2 g c = let a = c.args in omega (arith, row_apart c.loop-j.j a.n g.row.STRIDE c.loop-j-test.true)

pub get-requires : goal.get-requires
get-requires g c = let a = c.args in omega (arith, row_apart c.loop-j.j a.n g.row.STRIDE c.loop-j-test.true)

pub returns-then-get : goal.returns-then-get
returns-then-get g c = (
  sym (least_found _ _ _ c.loop-j.invariant.1
      (in_layer_bit _ _ _ _ _ ∙ sym c.get.ensures ∙ c.if-get.true) c.loop-j-test.true),
  search rules,
)

pub loop-j-preserved : goal.loop-j-preserved
loop-j-preserved g c = (search rules, least_more _ _ c.loop-j.invariant.1 (in_layer_bit _ _ _ _ _ ∙ sym c.get.ensures ∙ c.if-get.false))

pub returns : goal.returns
returns g c =
    let e : c.loop-j.j ≡ c.args.n = omega arith in
    (sym (rw e at c.loop-j.invariant.1), search rules)
