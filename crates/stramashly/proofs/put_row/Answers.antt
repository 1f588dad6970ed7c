use mathlib.Core.Path.{◌≡◌, sym, ap, ◌∙◌}
use mathlib.Core.List.{List}
use Prim.Native.Nat.{ℕ}
use Rattle.std.specs.declared.result.Result.{Result}
use Rattle.model.specs.declared.Refusal.{Refusal}
use Rattle.door_step.specs.declared.Stepped.{Stepped}
use Rattle.stramashly.specs.Packed.{row_put}
use Rattle.stramashly.proofs.Laws.{row_written, row_kept, row_refused}
use Rattle.stramashly.proofs.put_row.Goals as goal

-- a step that was taken out
told : {a b : Result Stepped Refusal} (x : List ℕ) {y : List ℕ} → a ≡ b → y ≡ row_put b x → y ≡ row_put a x
told x e h = h ∙ sym (ap (λ (z : Result Stepped Refusal). row_put z x) e)

pub returns-in_default : goal.returns-in_default
returns-in_default c = row_refused _ _ c.in_default.not-Ok

pub returns-in-Row : goal.returns-in-Row
returns-in-Row c = told _ c.in-Ok.is (row_written _ _ c.in-Row.is c.row_bytes.ensures c.put.ensures)

pub returns-in_default-stepped : goal.returns-in_default-stepped
returns-in_default-stepped c = told _ c.in-Ok.is (row_kept _ _ c.in_default-stepped.not-Row)
