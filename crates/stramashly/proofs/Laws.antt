-- Laws that the proofs of the exported functions cite. Assumes nothing.
use mathlib.Core.Path.{◌≡◌, refl, ap, ◌∙◌}
use mathlib.Core.List.{List, [], ◌∷◌, ◌++◌}
use Prim.Native.Nat.{ℕ, ◌+◌, ◌≤◌, ◌<◌}
use native.Mathlib.Omega.{arith}
use lib.ListN.{length, take, drop}
use lib.Seq.{paste, take_all}
use borrow.Author.Tests.{le-leb, lt-leb}
use lib.Ieee.{Float}
use Rattle.std.specs.Prelude.{MatchResult, IsOkAnd}
use Rattle.std.specs.declared.result.Result.{Result}
use Rattle.std.specs.declared.result.Result.TheVariants.{Ok, Err}
use Rattle.model.specs.declared.{Refusal.Refusal, Entry.Entry, Report.Report, ReportAnswer.ReportAnswer}
use Rattle.model.specs.declared.ReportAnswer.TheVariants as reported
use Rattle.door_step.specs.declared.Stepped.{Stepped}
use Rattle.door_step.specs.declared.Stepped.TheVariants as step
use Rattle.model.specs.declared.Row.{Row}
use Rattle.model.specs.declared.Source.{Source}
use Rattle.model.specs.Header.{ROW_BYTES}
use Rattle.door_write.specs.Encode.{row_list}
use Rattle.door_step.specs.Steps.{stepped_at, step_result}
use Rattle.stramashly.specs.Packed.{packed, pack_result, step_number, pack_step, row_put, step_put, row_answer, row_after, share_put}

-- a buffer whose front is replaced by a row's bytes
nothing : (o : List ℕ) → take 0 o ≡ []
nothing [] = refl
nothing (x ∷ o) = refl

sixteen : (r : Row) (n : ℕ) → length (row_list r n) ≡ 16
unfolding row_list
sixteen r n = refl

front : (o b l : List ℕ) → b ≡ l → length l ≡ 16 → paste o 0 b 16 ≡ l ++ drop 16 o
front o b l e n = rw e (ap (λ (x : List ℕ). x ++ take 16 l ++ drop (0 + 16) o) (nothing o) ∙ ap (λ (x : List ℕ). x ++ drop 16 o) (take_all 16 l (omega arith)))

pub row_written : (x : Stepped) (o : List ℕ) {e : Entry} {n : ℕ} {b u : List ℕ} → x ≡ step.Row e n → b ≡ row_list e.row e.source.0 → u ≡ paste o 0 b 16
    → u ≡ row_put (Ok x) o
unfolding row_put
row_written x o {e} {n} {b} {u} row_is bytes_are pasted =
    rw row_is (pasted ∙ front o b (row_list e.row e.source.0) bytes_are (sixteen e.row e.source.0))

-- what gives no row leaves the buffer alone
pub row_kept : (x : Stepped) (o : List ℕ) → ((e : Entry) (n : ℕ) → x ≡ step.Row e n → ⊥) → o ≡ row_put (Ok x) o
unfolding row_put
row_kept (step.Row e n) o k = absurd (k e n refl)
row_kept (step.End n) o k = refl

pub row_refused : (x : Result Stepped Refusal) (o : List ℕ) → ((y : Stepped) → x ≡ Ok y → ⊥) → o ≡ row_put x o
unfolding row_put
row_refused (Ok y) o k = absurd (k y refl)
row_refused (Err r) o k = refl

module _ (s : List ℕ) (i : ℕ) (out : List ℕ) where
  -- a buffer that is too short
  pub row_short : (r : ℕ) → length out < ROW_BYTES → r ≡ packed 4 11 0 0 → (r ≡ row_answer s i (length out)) × (out ≡ row_after s i out)
  unfolding row_answer row_after
  row_short r h e = rw (lt-leb ROW_BYTES (length out) h) (e, refl)

  pub row_stepped : ROW_BYTES ≤ length out → (x : Result Stepped Refusal) → x ≡ step_result (stepped_at s i) → (r : ℕ) (u : List ℕ)
      → r ≡ pack_result step_number x → u ≡ row_put x out → (r ≡ row_answer s i (length out)) × (u ≡ row_after s i out)
  unfolding row_answer row_after pack_step step_put
  row_stepped h x e r u p q =
      rw (le-leb ROW_BYTES (length out) h) (p ∙ ap (pack_result step_number) e, q ∙ ap (λ (z : Result Stepped Refusal). row_put z out) e)

-- what is not told leaves the number lent for the share alone
pub share_told : (a : ReportAnswer) (x : Float) {r : Report} → a ≡ reported.Report r → r.share ≡ share_put (Ok a) x
unfolding share_put
share_told a x e = rw e refl

pub share_kept : (a : ReportAnswer) (x : Float) → ((r : Report) → a ≡ reported.Report r → ⊥) → x ≡ share_put (Ok a) x
unfolding share_put
share_kept (reported.Cycle l) x k = refl
share_kept (reported.Overwritten o) x k = refl
share_kept reported.NoPairs x k = refl
share_kept (reported.Report r) x k = absurd (k r refl)

pub share_refused : (a : Result ReportAnswer Refusal) (x : Float) → ((y : ReportAnswer) → a ≡ Ok y → ⊥) → x ≡ share_put a x
unfolding share_put
share_refused (Ok y) x k = absurd (k y refl)
share_refused (Err r) x k = refl

-- an answer in a wrapper, with its own number
pub mapped : {A B : Type 0} (number : A → ℕ) (other : B → ℕ) (P : A → B → Type 0) → ((a : A) (b : B) → P a b → other b ≡ number a)
    → (x : Result A Refusal) (y : Result B Refusal) → MatchResult x (λ a. IsOkAnd y (P a)) (λ e. y ≡ Err e)
    → pack_result other y ≡ pack_result number x
unfolding pack_result
mapped number other P same (Ok a) (Ok b) h = same a b h
mapped number other P same (Ok a) (Err e) h = absurd h
mapped number other P same (Err e) y h = rw h refl

-- what is left of the number lent for the share, of an answer that is another by name
pub share_left : {a b : Result ReportAnswer Refusal} (x : Float) {y : Float} → y ≡ share_put a x → a ≡ b → y ≡ share_put b x
share_left x e q = e ∙ ap (λ (z : Result ReportAnswer Refusal). share_put z x) q
