use Rattle.std.proofs.Common.{◌≤◌, [], length, refl, rules}
use lib.ListN.{get_or-eq_default}
use Rattle.door_rows.proofs.scopes.place_number.Goals as goal

pub returns-else-i-lt-AGENTS : goal.returns-else-i-lt-AGENTS
returns-else-i-lt-AGENTS c =
    let p = c.args.p in
    let past : length p ≤ c.args.a = search rules in
    rw (get_or-eq_default p [] past) refl
