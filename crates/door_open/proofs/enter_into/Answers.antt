use Rattle.std.proofs.Math.Path.{refl}
use Rattle.std.proofs.Common.{sym, ap, ◌∙◌}
use Rattle.finite.specs.Logic.{◌and◌}
use Rattle.door_admit.proofs.Laws.{fault_counts}
use Rattle.door_pieces.specs.PiecesLaws.{early_refused}
use Rattle.door_pieces.specs.Entry.{door_short, door_wide}
use Rattle.door_open.specs.Laid.{laid_open}
use Rattle.door_open.specs.Opened.{opens_refused, opens_laid}
use mathlib.Core.Bool.{not}
use Rattle.door_open.proofs.enter_into.Goals as goal

pub returns-then-not-work-needs : goal.returns-then-not-work-needs
unfolding ◌and◌
returns-then-not-work-needs c = (door_short _ _ _ _ _ _ (ap not c.if-not-work-needs.true), opens_refused _ _ _ _ _ _ _ _ _ refl)

pub returns-in-Err : goal.returns-in-Err
unfolding ◌and◌
returns-in-Err c =
    let refused = early_refused _ _ _ _ c.in-Err.ensures (fault_counts _) in
    rw c.number.ensures (sym refused ∙ door_wide _ _ _ _ _ _ (ap not c.if-not-work-needs.false), opens_refused _ _ _ _ _ _ _ _ _ refl)

pub returns : goal.returns
unfolding ◌and◌
returns c =
    let e = c.admit-a.ensures ∙ door_wide _ _ _ _ _ _ (ap not c.if-not-work-needs.false) in
    (e, opens_laid _ _ _ _ _ _ _ _ _ e (laid_open c.args.chains _ _ _ _ _ _ c.lay.ensures c.either.ensures refl))
