use native.Mathlib.Omega.{arith}
use mathlib.Core.Path.{refl}
use Rattle.sets_bytes.specs.Whole.{add_fits, adds}
use Rattle.sets_bytes.proofs.add.Goals as goal

pub overflow_mul-w-2 : goal.overflow_mul-w-2
overflow_mul-w-2 c = omega (arith, add_fits c.args.m c.args.y c.requires.1)

pub returns : goal.returns
returns c =
    let pre = c.requires in
    adds c.args.w.now _ _ _ _ pre.0.first pre.0.second pre.1 pre.2 refl
