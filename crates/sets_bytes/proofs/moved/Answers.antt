use native.Mathlib.Omega.{arith}
use Prim.Native.Nat.{◌-◌}
use Rattle.model.specs.Table.{decode}
use Rattle.sets_bytes.specs.Whole.{all_past, all_before, shift_some, down, up_fits, up}
use Rattle.sets_bytes.proofs.moved.Goals as goal

pub start-a-requires : goal.start-a-requires
unfolding decode
start-a-requires c = let few = c.requires.2.few in omega (arith, few, c.requires.0.first)

pub start-b-requires : goal.start-b-requires
unfolding decode
start-b-requires c = let few = c.requires.2.few in omega (arith, few, c.requires.0.second)

pub returns-then-a-b : goal.returns-then-a-b
unfolding decode
returns-then-a-b c = all_past _ _ _ _ _ _ c.start-a.ensures.0 c.start-b.ensures.0 c.requires.1 c.if-a-b.true

pub returns-then-b-a : goal.returns-then-b-a
unfolding decode
returns-then-b-a c = all_before _ _ _ _ _ _ c.start-a.ensures.0 c.start-b.ensures.0 c.requires.1 c.if-b-a.true

pub nonzero_div-result : goal.nonzero_div-result
unfolding decode
nonzero_div-result c = shift_some _ (omega arith)

pub returns-then-a-b-2 : goal.returns-then-a-b-2
unfolding decode
returns-then-a-b-2 c =
    down _ _ _ _ _ _ c.start-a.ensures.0 c.start-b.ensures.0 c.requires.1 c.if-a-b-2.true (omega arith)

pub overflow_mul-result : goal.overflow_mul-result
unfolding decode
overflow_mul-result c =
    omega (arith, up_fits c.args.m (c.start-a.result - c.start-b.result) c.requires.1 (omega arith))

pub returns : goal.returns
unfolding decode
returns c =
    up _ _ _ _ _ _ c.start-a.ensures.0 c.start-b.ensures.0 c.requires.1 (omega arith) (omega arith)
