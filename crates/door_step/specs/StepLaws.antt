-- What the steps of a reader at place 0 come to. Assumes nothing.
use Rattle.std.specs.Prelude.{◌≡◌, refl, true, List, ℕ, zero, suc, ◌+◌, ◌-◌, ◌≤◌, ◌<◌, OnSome, IfNone}
use Rattle.std.proofs.Common.{sym, ◌∙◌, arith, add-one, le-leb}
use Rattle.std.proofs.Math.Decide.{dec_lt}
use Rattle.std.proofs.lemmas.Bool.{lt-leb}
use Rattle.model.specs.Header.{agents_at, rows_at}
use Rattle.model.specs.declared.Admission.{Admission}
use Rattle.model.specs.declared.Admission.TheVariants.{Admitted, Refused}
use Rattle.model.specs.Refusal.{admission, admission_answer}
use Rattle.door_step.specs.declared.RowReader.{RowReader}
use Rattle.std.specs.declared.option.Option.{Option}
use Rattle.std.specs.declared.option.Option.TheVariants.{None, Some}
use Rattle.model.specs.declared.Entry.{Entry}
use Rattle.std.specs.declared.result.Result.{Result}
use Rattle.std.specs.declared.result.Result.TheVariants.{Ok, Err}
use Rattle.model.specs.declared.Counts.{Counts}
use Rattle.model.specs.declared.Refusal.{Refusal}
use Rattle.model_laws.specs.AdmissionLaws.{sound_admitted, admitted_sound, answer_admitted}
use Rattle.door_step.specs.declared.Stepped.TheVariants as answer
use Rattle.door_step.specs.Steps.{StepAnswer, entry_at, step_at, next_at, opened_part, moved, moved_by, steps_of, stepped, stepped_at, step_result}

-- ---- one step

pub step_end : (s : List ℕ) (i n : ℕ) → n ≡ rows_at s → n ≤ i → step_at s i ≡ None
unfolding step_at
step_end s i n e l = rw (← e, le-leb n i l) refl

pub step_row : (s : List ℕ) (i n : ℕ) → n ≡ rows_at s → i < n → step_at s i ≡ Some (entry_at s i)
unfolding step_at
step_row s i n e l = rw (← e, lt-leb n i l) refl

pub next_stays : (s : List ℕ) (i n : ℕ) → n ≡ rows_at s → n ≤ i → next_at s i ≡ i
unfolding next_at
next_stays s i n e l = rw (← e, le-leb n i l) refl

pub next_moves : (s : List ℕ) (i n : ℕ) → n ≡ rows_at s → i < n → next_at s i ≡ i + 1
unfolding next_at
next_moves s i n e l = rw (← e, lt-leb n i l) refl

-- what is left, when a step gives a row
pub some_left : (s : List ℕ) (i : ℕ) {r : Option Entry} {next : ℕ} → r ≡ step_at s i → next ≡ next_at s i
    → OnSome r (Unit {0} × Unit {0} × (rows_at s - next < rows_at s - i))
some_left s i {r} {next} given moves = go (dec_lt i (rows_at s))
  where
    go : Dec (i < rows_at s) → OnSome r (Unit {0} × Unit {0} × (rows_at s - next < rows_at s - i))
    go (yes l) =
        let e = moves ∙ next_moves s i (rows_at s) refl l in
        rw (given, step_row s i (rows_at s) refl l) (tt, tt, omega arith)
    go (no l) = rw (given, step_end s i (rows_at s) refl (omega arith)) tt

pub some_any : (r : Option Entry) → OnSome r (Unit {0})
some_any None = tt
some_any (Some e) = tt

pub none_any : (r : Option Entry) → IfNone r (Unit {0})
none_any None = tt
none_any (Some e) = tt

-- ---- all steps

-- a reader's table stays
pub moved_table : (n : ℕ) (r : RowReader) → (moved_by n r).table ≡ r.table
unfolding moved_by
moved_table zero r = refl
moved_table (suc n) r = moved_table n r

-- from place 0, n steps lead to place n, or to the end where that comes first
pub moved_at : (n : ℕ) (r : RowReader) → r.at ≡ 0 → n ≤ rows_at r.table.now → (moved_by n r).at ≡ n
unfolding moved_by
moved_at zero r z l = z
moved_at (suc n) r z l =
    let e : (moved_by n r).at ≡ n = moved_at n r z (omega arith) in
    let t : (moved_by n r).table ≡ r.table = moved_table n r in
    rw (t, e) (next_moves r.table.now n (rows_at r.table.now) refl (omega arith) ∙ add-one n)

pub moved_past : (n m : ℕ) (r : RowReader) → r.at ≡ 0 → n ≡ rows_at r.table.now → n ≤ m → (moved_by m r).at ≡ n
unfolding moved_by
moved_past n zero r z e l = let h : 0 ≡ n = omega arith in z ∙ h
moved_past n (suc m) r z e l = go (dec_lt m n) (moved_past n m r z e)
  where
    go : Dec (m < n) → (n ≤ m → (moved_by m r).at ≡ n) → (moved (moved_by m r)).at ≡ n
    go (yes h) ih = let q : suc m ≡ n = omega arith in moved_at (suc m) r z (omega arith) ∙ q
    go (no h) ih =
        let k : (moved_by m r).at ≡ n = ih (omega arith) in
        let t : (moved_by m r).table ≡ r.table = moved_table m r in
        rw (t, k) (next_stays r.table.now n n e (omega arith))

-- the steps of a reader at place 0: rows 0 onward, each once
pub steps_rows : (n : ℕ) (r : RowReader) → r.at ≡ 0 → n < rows_at r.table.now
    → steps_of r n ≡ Some (entry_at r.table.now n)
unfolding steps_of
steps_rows n r z l =
    let e : (moved_by n r).at ≡ n = moved_at n r z (omega arith) in
    let t : (moved_by n r).table ≡ r.table = moved_table n r in
    rw (t, e) (step_row r.table.now n (rows_at r.table.now) refl l)

-- then the end, at every further call
pub steps_end : (n : ℕ) (r : RowReader) → r.at ≡ 0 → rows_at r.table.now ≤ n → steps_of r n ≡ None
unfolding steps_of
steps_end n r z l =
    let m : ℕ = rows_at r.table.now in
    let e : (moved_by n r).at ≡ m = moved_past m n r z refl l in
    let t : (moved_by n r).table ≡ r.table = moved_table n r in
    rw (t, e) (step_end r.table.now m m refl (omega arith))

-- ---- a reader is opened

-- the counts that an admission names are the table's
pub opened_counts : (s : List ℕ) {g n : ℕ} → admission true s ≡ Admitted g n → admission true s ≡ Admitted (agents_at s) (rows_at s)
opened_counts s h = sound_admitted true s (admitted_sound true s h)

pub opened : (s : List ℕ) {a : Result Counts Refusal} {k : Counts} → a ≡ admission_answer (admission true s) → a ≡ Ok k
    → (admission true s ≡ Admitted (agents_at s) (rows_at s)) × (s ≡ opened_part (admission true s) s)
unfolding opened_part
opened s e h =
    let q = opened_counts s (answer_admitted _ (sym e ∙ h)) in
    (q, rw q refl)

-- ---- one answer of what was opened and what its step gave

pub stepped_refused : (s : List ℕ) (i : ℕ) {x : Refusal} → admission true s ≡ Refused x.number x.row → Err x ≡ step_result (stepped_at s i)
unfolding stepped_at stepped step_result
stepped_refused s i e = rw e refl

pub stepped_is : (r : StepAnswer) (a : Admission) (t : List ℕ) (x : Option Entry) (s : List ℕ) (i : ℕ) → a ≡ admission true s
    → t ≡ opened_part (admission true s) s → x ≡ step_at t i → r ≡ stepped a x (next_at t i) → r ≡ stepped_at s i
unfolding stepped_at
stepped_is r a t x s i admitted opened given answered = answered ∙ rw (given, opened, admitted) refl

module _ (s : List ℕ) (i : ℕ) {t : List ℕ} {x : Option Entry} {next : ℕ} (admits : admission true s ≡ Admitted (agents_at s) (rows_at s))
    (whole : t ≡ opened_part (admission true s) s) (given : x ≡ step_at t i) (moves : next ≡ next_at t i) where
  stepped_whole : stepped_at s i ≡ stepped (Admitted (agents_at s) (rows_at s)) x next
  unfolding stepped_at
  stepped_whole = rw (← whole, ← given, ← moves, admits) refl

  pub stepped_row : {e : Entry} → x ≡ Some e → Ok (answer.Row e next) ≡ step_result (stepped_at s i)
  unfolding stepped step_result
  stepped_row h = rw (stepped_whole, h) refl

  pub stepped_end : x ≡ None → Ok (answer.End next) ≡ step_result (stepped_at s i)
  unfolding stepped step_result
  stepped_end h = rw (stepped_whole, h) refl
