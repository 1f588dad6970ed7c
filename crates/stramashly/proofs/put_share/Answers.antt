use mathlib.Core.Path.{◌≡◌, sym, ap, ◌∙◌}
use lib.Ieee.{Float}
use Rattle.std.specs.declared.result.Result.{Result}
use Rattle.model.specs.declared.{Refusal.Refusal, ReportAnswer.ReportAnswer}
use Rattle.stramashly.specs.Packed.{share_put}
use Rattle.stramashly.proofs.Laws.{share_told, share_kept, share_refused}
use Rattle.stramashly.proofs.put_share.Goals as goal

-- an answer that was taken out
told : {a b : Result ReportAnswer Refusal} (x : Float) {y : Float} → a ≡ b → y ≡ share_put b x → y ≡ share_put a x
told x e h = h ∙ sym (ap (λ (z : Result ReportAnswer Refusal). share_put z x) e)

pub returns-in_default : goal.returns-in_default
returns-in_default c = share_refused _ _ c.in_default.not-Ok

pub returns-in-Report : goal.returns-in-Report
returns-in-Report c = told _ c.in-Ok.is (share_told _ _ c.in-Report.is)

pub returns-in_default-told : goal.returns-in_default-told
returns-in_default-told c = told _ c.in-Ok.is (share_kept _ _ c.in_default-told.not-Report)
