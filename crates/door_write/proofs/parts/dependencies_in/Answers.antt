use mathlib.Core.Path.{refl}
use Rattle.std.proofs.Common.{◌/◌, length}
use Rattle.door_write.proofs.Laws.{min_capped}
use Rattle.door_write.specs.Parts.{dependencies_in}
use Rattle.door_write.proofs.parts.dependencies_in.Goals as goal

pub returns : goal.returns
unfolding dependencies_in
returns c = rw (← min_capped (length c.args.q.now / 2) 65535, ← c.min.ensures, ← c.ends_in.ensures, ← c.ends_in-2.ensures) refl
