use mathlib.Core.Path.{◌∙◌}
use Rattle.sets_chains.proofs.make.Goals as goal

pub make_available_by_chains-requires : goal.make_available_by_chains-requires
make_available_by_chains-requires c =
    let pre = c.requires in
    let r = pre.1 in
    let on = c.if-chains.true in
    (pre.0, record { device = r.device ∙ on; given = r.given; after = r.after; chained = λ e. r.chained on })

pub make_available-requires : goal.make_available-requires
make_available-requires c =
    let pre = c.requires in
    let r = pre.1 in
    let off = c.if-chains.false in
    (pre.0, record { device = r.device ∙ off; given = r.given; after = r.after; chained = λ e. r.chained (off ∙ e) })
