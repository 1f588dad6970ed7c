-- What the reader's calls come to: direct cases by their number, a chain, and the answer from the bytes of a table. Assumes nothing.
use Rattle.std.specs.Prelude.{◌≡◌, Bool, true, false, cond, List, ℕ, ◌+◌, ◌-◌, ◌*◌, ◌/◌, ◌%◌, ◌<◌, length, get_or, ltb, leb, eqb}
use Rattle.std.proofs.Math.Path.{refl, sym}
use Rattle.std.proofs.Common.{ap, ◌∙◌}
use Rattle.std.proofs.Math.Bool.{not}
use native.Mathlib.Omega.{arith}
use borrow.Author.Tests.{ltb-true, ne_eqb, not-false}
use Rattle.finite.specs.Logic.{◌and◌, ◌or◌, split, and_false_left, and_false_right, not_out, and_on, and_on_right}
use Rattle.finite.specs.Below.{any_below, any_in}
use Rattle.std.specs.declared.result.Result.{Result}
use Rattle.std.specs.declared.result.Result.TheVariants.{Ok, Err}
use Rattle.model.specs.declared.Counts.{Counts}
use Rattle.model.specs.declared.Row.{Row}
use Rattle.model.specs.declared.Reason.{Reason}
use Rattle.model.specs.declared.Reason.TheVariants as reason
use Rattle.model.specs.Limits.{WORK, STEPS, CASE, CLASS_SETS}
use Rattle.model.specs.Table.{Mode, Table, row_of, depends_of, decode}
use Rattle.model.specs.Moment.{AT, moment, moment_in, program_ordered, program_order}
use Rattle.model.specs.Synchronizes.{synchronizes}
use Rattle.model.specs.Happens.{by_system, CASES, direct}
use Rattle.model.specs.Reason.{Judged, stands, step_holds, broken, chain_holds, accepts, two_moments, judged, accept_answer}
use Rattle.model.specs.declared.Refusal.{Refusal}
use Rattle.model.specs.Refusal.{refusal, buffers_fit, admission_answer}
use Rattle.door_pieces.specs.Pieces.{joined, admission_both, judge_both}
use Rattle.door_pieces.specs.Entry.{door_both, when_refused, when_admitted_lem, table_false}
use Rattle.run.specs.Layout.{table_in}
use Rattle.door_open.specs.Opened.{Entered}
use Rattle.door_pieces.specs.Answers.{not_judged, judge_both_lem}
use Rattle.run_rows.specs.Cases.{case_rows, direct_is, asked_once}

-- ---- definitions

-- the steps lead from moment m to moment k, and each holds for the class set s
unfoldable pub leads_to : Table → ℕ → ℕ → ℕ → List ℕ → Bool
leads_to t s m k steps = eqb (stands m steps (length steps)) k and not (any_below (length steps) (broken t s m steps))

-- ---- laws: a direct case by its number

-- on rows that were read; only of the first it was asked whether one synchronizes-with the other
module _ (b : List ℕ) (p : List (List ℕ)) (mode : Mode) (n s case m k : ℕ) where
  pub direct_told : (r q : Row) (v o d e : Bool) → r ≡ row_of b (m / 3) → q ≡ row_of b (k / 3)
      → v ≡ (eqb case 1 and synchronizes (decode b p mode n) (m / 3) (k / 3))
      → o ≡ program_ordered n m k r q → d ≡ case_rows case s (m % 3) (k % 3) r q v o → e ≡ (eqb case CASES and by_system (decode b p mode n) m k)
      → (d or e) ≡ direct (decode b p mode n) s case m k
  unfolding program_order decode
  direct_told r q v o d e first_is second_is sync_is order_is case_is system_is =
      rw (
        direct_is b p mode n s case m k,
        case_is,
        system_is,
        sync_is,
        order_is,
        first_is,
        second_is,
        asked_once s (m % 3) (k % 3) (row_of b (m / 3)) (row_of b (k / 3)) (synchronizes (decode b p mode n) (m / 3) (k / 3))
            (program_ordered n m k (row_of b (m / 3)) (row_of b (k / 3))) case,
      ) refl

-- of dependencies that were read
pub system_on : (b : List ℕ) (p : List (List ℕ)) (mode : Mode) (n case m k : ℕ) (z : Bool) → z ≡ depends_of mode (m / 3) (k / 3)
    → eqb case CASES ≡ true → (eqb (m % 3) AT and eqb (k % 3) AT and z) ≡ (eqb case CASES and by_system (decode b p mode n) m k)
unfolding by_system decode
system_on b p mode n case m k z told last = rw told (sym (and_on _ _ last))

-- ---- laws: a chain

module _ (b : List ℕ) (p : List (List ℕ)) (mode : Mode) (n : ℕ) where
  -- a moment that is there is one of so many
  pub moment_low : (m : ℕ) → moment (decode b p mode n) m ≡ true → m < 3 * n
  unfolding moment moment_in decode
  moment_low m e = let l : m / 3 < n = ltb-true (m / 3) n (split e).0 in omega arith

  -- the first of two moments that are there, and the second
  pub first_low : (m k : ℕ) (x y : Bool) → x ≡ moment (decode b p mode n) m → not (x and y and not (eqb m k)) ≡ false → m < 3 * n
  first_low m k x y e f = moment_low m (sym e ∙ (split (split (not-false (x and y and not (eqb m k)) f)).0).0)

  pub second_low : (m k : ℕ) (x y : Bool) → y ≡ moment (decode b p mode n) k → not (x and y and not (eqb m k)) ≡ false → k < 3 * n
  second_low m k x y e f = moment_low k (sym e ∙ (split (split (not-false (x and y and not (eqb m k)) f)).0).1)

  module _ (s : ℕ) where
    pub step_off : (m x : ℕ) → moment (decode b p mode n) (x % CASE) ≡ false → false ≡ step_holds (decode b p mode n) s m x
    unfolding step_holds
    step_off m x e = sym (and_false_left _ _ e)

    pub step_on : (m x : ℕ) (d : Bool) → moment (decode b p mode n) (x % CASE) ≡ true → d ≡ direct (decode b p mode n) s (x / CASE) m (x % CASE)
        → d ≡ step_holds (decode b p mode n) s m x
    unfolding step_holds
    step_on m x d e f = f ∙ sym (and_on _ _ e)

    -- a step that holds reaches a moment that is there
    pub step_low : (m x : ℕ) → step_holds (decode b p mode n) s m x ≡ true → x % CASE < 3 * n
    unfolding step_holds
    step_low m x e = moment_low (x % CASE) (split e).0

    module _ (m : ℕ) (steps : List ℕ) where
      -- step i, from where the one before it ends, as code tests it
      pub broken_is : (i a : ℕ) (v : Bool) → a ≡ stands m steps i → v ≡ step_holds (decode b p mode n) s a (get_or steps i 0)
          → broken (decode b p mode n) s m steps i ≡ not v
      unfolding broken
      broken_is i a v e f = rw (f, e) refl

      pub leads_broken : (k i : ℕ) → i < length steps → broken (decode b p mode n) s m steps i ≡ true → false ≡ leads_to (decode b p mode n) s m k steps
      unfolding leads_to
      leads_broken k i l e = sym (and_false_right _ _ (ap not (any_in _ _ i l e)))

      pub leads_whole : (k i a : ℕ) → i ≡ length steps → a ≡ stands m steps i → any_below i (broken (decode b p mode n) s m steps) ≡ false
          → eqb a k ≡ leads_to (decode b p mode n) s m k steps
      unfolding leads_to
      leads_whole k i a l e f = rw (← l, ← e, f) (sym (and_on_right _ _ refl))

pub stands_first : (m : ℕ) (steps : List ℕ) → m ≡ stands m steps 0
unfolding stands
stands_first m steps = refl

pub stands_next : (m : ℕ) (steps : List ℕ) (i : ℕ) → get_or steps i 0 % CASE ≡ stands m steps (i + 1)
unfolding stands
stands_next m steps i =
    let o : eqb (i + 1) 0 ≡ false = ne_eqb (i + 1) 0 (λ z. omega arith) in
    let j : i + 1 - 1 ≡ i = omega arith in
    rw (o, j) refl

-- ---- laws: a derivation

module _ (b : List ℕ) (p : List (List ℕ)) (mode : Mode) (n m k : ℕ) (r : Reason) (steps : List ℕ) where
  pub word_told : (o : Bool) → r ≡ reason.ProgramOrder → o ≡ program_order (decode b p mode n) m k
      → (eqb (length steps) 0 and o) ≡ accepts (decode b p mode n) m k r steps
  unfolding accepts
  word_told o e f = rw (e, f) refl

  module _ (s : ℕ) (h : r ≡ reason.Chain s) where
    abbrev fits : Bool
    fits = ltb 0 s and leb s CLASS_SETS and ltb 0 (length steps) and leb (length steps) STEPS

    pub chain_off : not fits ≡ true → false ≡ accepts (decode b p mode n) m k r steps
    unfolding accepts chain_holds
    chain_off f = rw h (sym (and_false_left _ _ (and_false_left _ _ (not_out fits f))))

    pub chain_on : (d : Bool) → not fits ≡ false → d ≡ leads_to (decode b p mode n) s m k steps → d ≡ accepts (decode b p mode n) m k r steps
    unfolding accepts chain_holds leads_to
    chain_on d f g = rw h (g ∙ sym (ap (λ (z : Bool). z and not (any_below (length steps) (broken (decode b p mode n) s m steps)))
        (and_on _ _ (not-false fits f))))

-- ---- laws: the rows of an admitted table

module _ (b : List ℕ) (p : List (List ℕ)) (mode : Mode) (n m k : ℕ) (r : Reason) (steps : List ℕ) (x y : Bool)
    (ex : x ≡ moment (decode b p mode n) m) (ey : y ≡ moment (decode b p mode n) k) where
  abbrev two : Bool
  two = x and y and not (eqb m k)

  pub judged_absent : not two ≡ true → Err (refusal 12 0) ≡ accept_answer (judged (decode b p mode n) m k r steps)
  unfolding judged two_moments accept_answer
  judged_absent f = rw (← ex, ← ey, not_out two f) refl

  module _ (f : not two ≡ false) (d : Bool) (e : d ≡ accepts (decode b p mode n) m k r steps) where
    pub judged_told : Ok d ≡ accept_answer (judged (decode b p mode n) m k r steps)
    unfolding judged two_moments accept_answer
    judged_told = rw (← ex, ← ey, not-false two f, ← e) (told d)
      where
        told : (d : Bool) → Ok d ≡ accept_answer (cond d Judged.accepted Judged.not_accepted)
        told true = refl
        told false = refl

    pub judged_accepted : d ≡ true → Ok true ≡ accept_answer (judged (decode b p mode n) m k r steps)
    judged_accepted g = ap Ok (sym g) ∙ judged_told

    pub judged_other : d ≡ false → Ok false ≡ accept_answer (judged (decode b p mode n) m k r steps)
    judged_other g = ap Ok (sym g) ∙ judged_told

-- ---- laws: the entry point

-- the reader takes no buffers, so that no length is short
no_buffers : (f s : List ℕ) → door_both 0 true f s WORK 0 ≡ admission_both true f s
unfolding door_both buffers_fit ◌and◌
no_buffers f s = refl

module _ (f s : List ℕ) (a : Result Counts Refusal) (e : a ≡ admission_answer (door_both 0 true f s WORK 0)) (m k : ℕ) (r : Reason) (steps : List ℕ) where
  pub both_refused : {x : Refusal} → a ≡ Err x → Err x ≡ accept_answer (judge_both f s m k r steps)
  unfolding accept_answer
  both_refused h =
      sym (ap accept_answer (judge_both_lem m k r steps f s ∙ when_refused not_judged _ a _ (e ∙ ap admission_answer (no_buffers f s)) h))

  pub both_judged : {counts : Counts} (h : a ≡ Ok counts) (t : List ℕ) → Entered 0 true false f s WORK 0 t counts.rows
      → (x : Result Bool Refusal) → x ≡ accept_answer (judged (table_in t counts.rows) m k r steps) → x ≡ accept_answer (judge_both f s m k r steps)
  both_judged admitted t opened x judged_is =
      judged_is
      ∙ ap accept_answer (ap (λ (y : Table). judged y m k r steps) (opened.table ∙ table_false (joined f s)) ∙ sym (judge_both_lem m k r steps f s
      ∙ when_admitted_lem not_judged _ a _ (e ∙ ap admission_answer (no_buffers f s)) admitted))
