use mathlib.Core.Path.{refl}
use Rattle.sets_of_table.proofs.share.fn.levels.from_fn.Goals as goal

pub returns : goal.returns
returns c = c.level.ensures c.captures.p c.captures.a c.args.b refl refl refl
