use native.Mathlib.Omega.{arith}
use Prim.Native.Nat.{◌+◌, ◌≤◌}
use Rattle.model.specs.Table.{decode}
use Rattle.sets_bytes.specs.Whole.{shared_empty, below_sixteen, less_fits, shared_bits}
use Rattle.sets_bytes.proofs.shared.Goals as goal

pub start-start-requires : goal.start-start-requires
unfolding decode
start-start-requires c = let few = c.requires.2.few in omega (arith, few, c.requires.0)

pub end-end-requires : goal.end-end-requires
unfolding decode
end-end-requires c = let few = c.requires.2.few in omega (arith, few, c.requires.0)

pub start-a-requires : goal.start-a-requires
unfolding decode
start-a-requires c = let few = c.requires.2.few in omega (arith, few, c.requires.1)

pub end-b-requires : goal.end-b-requires
unfolding decode
end-b-requires c = let few = c.requires.2.few in omega (arith, few, c.requires.1)

pub returns-then-high-low : goal.returns-then-high-low
unfolding decode
returns-then-high-low c =
    shared_empty _ _ _ _ _ _ _ _ _ c.start-start.ensures.0 c.end-end.ensures.0 c.start-a.ensures.0 c.end-b.ensures.0 c.max-low.ensures c.min-high.ensures c.if-high-low.true

pub overflow_shl-result : goal.overflow_shl-result
unfolding decode
overflow_shl-result c =
    let few : c.end-end.result ≤ c.start-start.result + 16 = omega (arith, c.requires.2.sized _ c.requires.0, c.start-start.ensures.0, c.end-end.ensures.0) in
    let fits = below_sixteen c.start-start.result c.end-end.result c.start-a.result c.end-b.result c.max-low.result c.min-high.result c.max-low.ensures c.min-high.ensures few (omega arith) in
    omega (arith, fits.0, fits.1)

pub overflow_shl-result-2 : goal.overflow_shl-result-2
unfolding decode
overflow_shl-result-2 c =
    let few : c.end-end.result ≤ c.start-start.result + 16 = omega (arith, c.requires.2.sized _ c.requires.0, c.start-start.ensures.0, c.end-end.ensures.0) in
    let fits = below_sixteen c.start-start.result c.end-end.result c.start-a.result c.end-b.result c.max-low.result c.min-high.result c.max-low.ensures c.min-high.ensures few (omega arith) in
    omega (arith, fits.0, fits.1)

pub overflow_sub-result-3 : goal.overflow_sub-result-3
unfolding decode
overflow_sub-result-3 c =
    let few : c.end-end.result ≤ c.start-start.result + 16 = omega (arith, c.requires.2.sized _ c.requires.0, c.start-start.ensures.0, c.end-end.ensures.0) in
    less_fits c.start-start.result c.end-end.result c.start-a.result c.end-b.result c.max-low.result c.min-high.result c.max-low.ensures c.min-high.ensures few (omega arith)

pub returns : goal.returns
unfolding decode
returns c =
    shared_bits _ _ _ _ _ _ _ _ _ c.start-start.ensures.0 c.end-end.ensures.0 c.start-a.ensures.0 c.end-b.ensures.0 c.max-low.ensures c.min-high.ensures (c.requires.2.sized _ c.requires.0) (omega arith)
