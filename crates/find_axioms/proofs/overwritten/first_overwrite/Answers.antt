use Rattle.find_axioms.specs.Overwritten.{shown_none, shown_at, writer_below, byte_below}
use Rattle.model.specs.declared.Row.{Row}
use Rattle.model.specs.Table.{decode}
use Prim.Native.Nat.{◌+◌}
use mathlib.Core.Path.{refl, sym, ap, ◌∙◌}
use native.Mathlib.Omega.{arith}
use borrow.Author.Rules.{rules}
use Rattle.find_axioms.proofs.overwritten.first_overwrite.Goals as goal

pub returns-in_err-y : goal.returns-in_err-y
unfolding decode
returns-in_err-y c = c.from_residual.ensures ∙ shown_none _ _ _ _ refl (sym c.in_err-y.ensures) (omega arith)

pub returns-in_err-z : goal.returns-in_err-z
unfolding decode
returns-in_err-z c = let y = c.in_ok-y.ensures in let l = writer_below _ _ _ _ _ refl y.1 (sym c.in_err-z.ensures) y.0 in absurd (omega arith)

pub over_nth-requires : goal.over_nth-requires
unfolding decode
over_nth-requires c = search rules

pub returns-in_err-k : goal.returns-in_err-k
unfolding decode
returns-in_err-k c =
    let y = c.in_ok-y.ensures in let z = c.in_ok-z.ensures in
    let d = byte_below _ _ c.requires.1 _ _ _ _ refl y.1 z.1 (sym c.in_err-k.ensures) y.0 in
    let l = d.0 in
    absurd (omega arith)

pub overflow_cast-result : goal.overflow_cast-result
unfolding decode
overflow_cast-result c = search rules

pub overflow_cast-result-2 : goal.overflow_cast-result-2
unfolding decode
overflow_cast-result-2 c = search rules

pub overflow_cast-result-3 : goal.overflow_cast-result-3
unfolding decode
overflow_cast-result-3 c = search rules

pub overflow_add-result : goal.overflow_add-result
unfolding decode
overflow_add-result c =
    let y = c.in_ok-y.ensures in let z = c.in_ok-z.ensures in let k = c.in_ok-k.ensures in
    let d = byte_below _ _ c.requires.1 _ _ _ _ refl y.1 z.1 k.1 y.0 in
    let l = d.1 _ c.row-r.ensures in
    search rules

pub returns : goal.returns
unfolding decode
returns c =
    let y = c.in_ok-y.ensures in let z = c.in_ok-z.ensures in let k = c.in_ok-k.ensures in
    shown_at _ _ _ _ _ _ _ refl y.1 z.1 k.1
    (ap (λ (v : Row). v.start + c.in_ok-k.k) c.row-r.ensures) y.0
