use mathlib.Core.Path.{◌≡◌, ap, ◌∙◌}
use Prim.Native.Nat.{◌+◌, ◌*◌}
use native.Mathlib.Omega.{arith}
use Rattle.sets_of_rows.specs.Kept.{set_at}
use Rattle.sets_of_table.proofs.rows.Goals as goal

pub returns : goal.returns
returns c = c.get.ensures ∙ ap (set_at _) (let e : c.args.at + 2 * 0 ≡ c.args.at = omega arith in e)
