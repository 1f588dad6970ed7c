-- The cases of a writer's answer, and that its refusals are told apart by their numbers. Assumes nothing.
use Rattle.std.specs.Prelude.{◌≡◌, Bool, true, false, cond, ◌⊎◌, ◌↔◌, List, ℕ, ◌≤◌, ◌<◌, ltb, leb, eqb}
use Rattle.std.proofs.Math.Path.{refl}
use Rattle.std.proofs.Common.{sym, ap, ◌∙◌, subst, inl, inr, ⊎_elim, arith, eqb-true, ltb-true, leb-true, leb-false, eq-eqb, ne_eqb, le-leb}
use Rattle.std.proofs.lemmas.Bool.{eqb-false, lt-leb}
use Rattle.finite.specs.Logic.{◌and◌, ◌or◌, which, not_both, not_out, or_cases}
use Rattle.finite.specs.Below.{least, least_is}
use Rattle.model.specs.declared.Admission.{Admission}
use Rattle.model.specs.declared.Admission.TheVariants.{Admitted, Refused}
use Rattle.model.specs.declared.Row.{Row}
use Rattle.model.specs.Scope.{agent_kind}
use Rattle.model.specs.Table.{row_of, source_of, table_of, sources_of, Table}
use Rattle.model.specs.Header.{agents_at, rows_at, has_hosts, row_bytes, places_of}
use Rattle.model.specs.TableFault.{class_taken, source_broken, rank_taken}
use Rattle.model.specs.RowFault.{codes_fit, agent_fits, operation_fits, kind_fits, extent_fits, form_fault, row_fault}
use Rattle.model.specs.Refusal.{faulty, first_fault, row_fault_at, header_fault, admission, when_admitted}
use Rattle.model.specs.TableFault.{instance_broken, unfit, table_fault}
use Rattle.model.specs.Row.{operation}
use Rattle.model_laws.specs.AdmissionLaws.{not_admitted}
use Rattle.model.specs.declared.Entry.{Entry}
use Rattle.door_write.specs.declared.Dependencies.{Dependencies}
use Rattle.door_write.specs.Answer.{WriteAnswer}
use Rattle.door_write.specs.Answer as Answer
use Rattle.door_write.specs.Encode.{table_size, encode}
use Rattle.door_write.specs.Answer.{version_known, counts_fit, numbers_fit, dependencies_fit, values_fault, room_answer, write_answer}

-- ---- definitions

-- the numbers that the rows and dependencies of a table are refused with: 5 to 10, 14, 15, 18 to 20
unfoldable pub of_table : ℕ → Bool
of_table k = (leb 5 k and leb k 10) or eqb k 14 or eqb k 15 or (leb 18 k and leb k 20)

-- a fill admits the table s, its buffers aside
abbrev pub Admits : List ℕ → Type 0
Admits s = (a : ℕ) × (n : ℕ) × (admission true s ≡ Admitted a n)

-- ---- each fault of a row is 0 or one of them

unfoldable numbered : ℕ → Bool
numbered k = eqb k 0 or of_table k

form_number : (a b c d : Bool) → numbered (cond a (cond b 0 20) (cond c (cond d 0 7) 6)) ≡ true
unfolding numbered of_table ◌and◌ ◌or◌
form_number true true c d = refl
form_number true false c d = refl
form_number false b true true = refl
form_number false b true false = refl
form_number false b false d = refl

row_number : (a b : Bool) (n : ℕ) → numbered n ≡ true → numbered (cond a (cond b n 19) 5) ≡ true
unfolding numbered of_table ◌and◌ ◌or◌
row_number true true n e = e
row_number true false n e = refl
row_number false b n e = refl

among_number : (a b c d e : Bool) → numbered (cond a 8 (cond b 9 (cond c 10 (cond d 14 (cond e 15 0))))) ≡ true
unfolding numbered of_table ◌and◌ ◌or◌
among_number true b c d e = refl
among_number false true c d e = refl
among_number false false true d e = refl
among_number false false false true e = refl
among_number false false false false true = refl
among_number false false false false false = refl

row_numbered : (s : List ℕ) (i : ℕ) → numbered (row_fault_at s i) ≡ true
unfolding row_fault_at row_fault form_fault
row_numbered s i =
    row_number (codes_fit (has_hosts s) (agents_at s) r) (agent_fits (agent_kind (places_of s) r.agent) r) _
    (form_number (operation r) (operation_fits r (source_of (row_bytes s) i)) (kind_fits r (source_of (row_bytes s) i)) (extent_fits r))
  where
    r : Row
    r = row_of (row_bytes s) i

among_numbered : (blanks : Bool) (t : Table) (source : ℕ → ℕ) (i : ℕ) → numbered (table_fault blanks t source i) ≡ true
unfolding table_fault
among_numbered blanks t source i =
    among_number (class_taken t i) (source_broken blanks t source i) (rank_taken t i) (instance_broken t i) (unfit t i)

-- ---- and so is that of an admission

abbrev number_of : Admission → ℕ
number_of (Refused k i) = k
number_of (Admitted a n) = 0

numbered_out : (k : ℕ) → numbered k ≡ true → eqb k 0 ≡ false → of_table k ≡ true
unfolding numbered
numbered_out k e n = ⊎_elim (λ z. not_both z n) (λ t. t) (or_cases (eqb k 0) (of_table k) e)

fault_out : (f : ℕ → ℕ) (j : ℕ) → faulty f j ≡ true → eqb (f j) 0 ≡ false
unfolding faulty
fault_out f j q = not_out _ q

first_number : (f : ℕ → ℕ) (n : ℕ) (next : Admission) (k i : ℕ) → ((j : ℕ) → numbered (f j) ≡ true) → first_fault f n next ≡ Refused k i
    → (of_table k ≡ true) ⊎ (next ≡ Refused k i)
unfolding first_fault
first_number f n next k i h e = go (which (ltb (least n (faulty f)) n))
  where
    m : ℕ
    m = least n (faulty f)

    T : Bool → Type 0
    T b = cond b (Refused (f m) m) next ≡ Refused k i

    go : (ltb m n ≡ true) ⊎ (ltb m n ≡ false) → (of_table k ≡ true) ⊎ (next ≡ Refused k i)
    go (inl l) = inl (subst (λ (x : ℕ). of_table x ≡ true) (ap number_of (subst T l e))
        (numbered_out (f m) (h m) (fault_out f m ((least_is (faulty f) n).hit (ltb-true m n l)))))
    go (inr l) = inr (subst T l e)

pub admission_number : (blanks : Bool) (s : List ℕ) (k i : ℕ) → of_table (header_fault s) ≡ true ⊎ header_fault s ≡ 0 → admission blanks s ≡ Refused k i
    → of_table k ≡ true
unfolding admission
admission_number blanks s k i h e = go (which (eqb (header_fault s) 0))
  where
    among : Admission
    among = first_fault (table_fault blanks (table_of s) (sources_of s)) (rows_at s) (Admitted (agents_at s) (rows_at s))

    T : Bool → Type 0
    T b = cond b (first_fault (row_fault_at s) (rows_at s) among) (Refused (header_fault s) 0) ≡ Refused k i

    late : (of_table k ≡ true) ⊎ (among ≡ Refused k i) → of_table k ≡ true
    late (inl t) = t
    late (inr q) =
        ⊎_elim (λ t. t) (λ r. not_admitted (sym r))
        (first_number (table_fault blanks (table_of s) (sources_of s)) (rows_at s) (Admitted (agents_at s) (rows_at s)) k i
        (among_numbered blanks (table_of s) (sources_of s)) q)

    go : (eqb (header_fault s) 0 ≡ true) ⊎ (eqb (header_fault s) 0 ≡ false) → of_table k ≡ true
    go (inl z) = late (first_number (row_fault_at s) (rows_at s) among k i (row_numbered s) (subst T z e))
    go (inr z) =
        let n : header_fault s ≡ k = ap number_of (subst T z e) in
        ⊎_elim (λ t. subst (λ (x : ℕ). of_table x ≡ true) n t) (λ q. not_both (eq-eqb (header_fault s) 0 q) z) h

-- ---- the number of a fault of values, by the tests

module _ (a b c d : Bool) where
  abbrev fault : ℕ
  fault = cond a (cond b (cond c (cond d 0 17) 16) 3) 2

fault_other : (a b c d : Bool) → (of_table (fault a b c d) ≡ false) × (eqb (fault a b c d) 13 ≡ false)
unfolding of_table ◌and◌ ◌or◌
fault_other true true true true = (refl, refl)
fault_other true true true false = (refl, refl)
fault_other true true false d = (refl, refl)
fault_other true false c d = (refl, refl)
fault_other false b c d = (refl, refl)

fault_2 : (a b c d : Bool) → fault a b c d ≡ 2 ↔ a ≡ false
fault_2 false b c d = (λ e. refl, λ e. refl)
fault_2 true b c d = (λ e. absurd (no b c d e), λ e. not_both refl e)
  where
    no : (b c d : Bool) → fault true b c d ≡ 2 → ⊥
    no true true true e = omega arith
    no true true false e = omega arith
    no true false d e = omega arith
    no false c d e = omega arith

fault_3 : (a b c d : Bool) → fault a b c d ≡ 3 ↔ (a ≡ true) × (b ≡ false)
fault_3 true false c d = (λ e. (refl, refl), λ e. refl)
fault_3 false b c d = (λ e. absurd (omega arith), λ e. not_both e.0 refl)
fault_3 true true c d = (λ e. absurd (no c d e), λ e. not_both refl e.1)
  where
    no : (c d : Bool) → fault true true c d ≡ 3 → ⊥
    no true true e = omega arith
    no true false e = omega arith
    no false d e = omega arith

fault_16 : (a b c d : Bool) → fault a b c d ≡ 16 ↔ (a ≡ true) × (b ≡ true) × (c ≡ false)
fault_16 true true false d = (λ e. (refl, refl, refl), λ e. refl)
fault_16 false b c d = (λ e. absurd (omega arith), λ e. not_both e.0 refl)
fault_16 true false c d = (λ e. absurd (omega arith), λ e. not_both e.1 refl)
fault_16 true true true true = (λ e. absurd (omega arith), λ e. not_both refl e.2)
fault_16 true true true false = (λ e. absurd (omega arith), λ e. not_both refl e.2)

fault_17 : (a b c d : Bool) → fault a b c d ≡ 17 ↔ (a ≡ true) × (b ≡ true) × (c ≡ true) × (d ≡ false)
fault_17 true true true false = (λ e. (refl, refl, refl, refl), λ e. refl)
fault_17 true true true true = (λ e. absurd (omega arith), λ e. not_both refl e.3)
fault_17 false b c d = (λ e. absurd (omega arith), λ e. not_both e.0 refl)
fault_17 true false c d = (λ e. absurd (omega arith), λ e. not_both e.1 refl)
fault_17 true true false d = (λ e. absurd (omega arith), λ e. not_both e.2 refl)

-- ---- an answer taken apart

pub not_written : {A : Type 0} {k i m : ℕ} → Answer.Refused k i ≡ Answer.Written m → A
not_written e = let z : ◌≡◌ {A = ℕ} 0 1 = ap which_one e in absurd (omega arith)
  where
    which_one : WriteAnswer → ℕ
    which_one (Answer.Refused k i) = 0
    which_one (Answer.Written m) = 1

abbrev said_number : WriteAnswer → ℕ
said_number (Answer.Refused k i) = k
said_number (Answer.Written m) = 0

abbrev said_row : WriteAnswer → ℕ
said_row (Answer.Refused k i) = i
said_row (Answer.Written m) = 0

abbrev said_bytes : WriteAnswer → ℕ
said_bytes (Answer.Refused k i) = 0
said_bytes (Answer.Written m) = m

module _ (size room : ℕ) where
  pub room_short : room < size → room_answer size room ≡ Answer.Refused 13 0
  unfolding room_answer
  room_short h = rw (lt-leb size room h) refl

  pub room_long : size ≤ room → room_answer size room ≡ Answer.Written size
  unfolding room_answer
  room_long h = rw (le-leb size room h) refl

  room_written : (m : ℕ) → room_answer size room ≡ Answer.Written m → (m ≡ size) × (size ≤ room)
  room_written m e = ⊎_elim (λ h. let l = leb-true size room h in
      (sym (ap said_bytes (sym (room_long l) ∙ e)), l)) (λ h. not_written (sym (room_short (leb-false size room h)) ∙ e)) (which (leb size room))

  room_refused : (k i : ℕ) → room_answer size room ≡ Answer.Refused k i → (room < size) × (k ≡ 13) × (i ≡ 0)
  room_refused k i e =
      ⊎_elim (λ h. not_written (sym e ∙ room_long (leb-true size room h)))
      (λ h. let l = leb-false size room h in let q = sym e ∙ room_short l in (l, ap said_number q, ap said_row q)) (which (leb size room))

-- values that are refused; a table that is; or one that is admitted
judged : (f : ℕ) (a : Admission) (v w : WriteAnswer) → w ≡ cond (eqb f 0) (when_admitted Answer.Refused a v) (Answer.Refused f 0)
    → ((f ≡ 0 → ⊥) × (w ≡ Answer.Refused f 0))
    ⊎ (((f ≡ 0) × ((k : ℕ) × (i : ℕ) × (a ≡ Refused k i) × (w ≡ Answer.Refused k i)))
    ⊎ ((f ≡ 0) × ((x : ℕ) × (n : ℕ) × (a ≡ Admitted x n)) × (w ≡ v)))
unfolding when_admitted
judged f (Refused k i) v w e = ⊎_elim (λ z. inr (inl (eqb-true f 0 z, (k, i, refl, e ∙ rw z refl))))
    (λ z. inl (eqb-false f 0 z, e ∙ rw z refl)) (which (eqb f 0))
judged f (Admitted x n) v w e = ⊎_elim (λ z. inr (inr (eqb-true f 0 z, (x, n, refl), e ∙ rw z refl)))
    (λ z. inl (eqb-false f 0 z, e ∙ rw z refl)) (which (eqb f 0))

module _ (version agents : ℕ) (p : List (List ℕ)) (rows : ℕ) (l : List Entry) (d : Dependencies) (room : ℕ) where
  abbrev F : ℕ
  F = values_fault version agents p rows d.count

  abbrev t : List ℕ
  t = encode version agents p rows l d

  abbrev size : ℕ
  size = table_size version agents rows d.count

  answer_is : write_answer version agents p rows l d room
      ≡ cond (eqb F 0) (when_admitted Answer.Refused (admission true t) (room_answer size room)) (Answer.Refused F 0)
  unfolding write_answer
  answer_is = refl

  -- where values are refused, where their table is, where it is admitted
  pub values_in : (F ≡ 0 → ⊥) → write_answer version agents p rows l d room ≡ Answer.Refused F 0
  values_in n = answer_is ∙ rw (ne_eqb F 0 n) refl

  pub table_in_lem : (k i : ℕ) → F ≡ 0 → admission true t ≡ Refused k i → write_answer version agents p rows l d room ≡ Answer.Refused k i
  unfolding when_admitted
  table_in_lem k i z q = answer_is ∙ rw (eq-eqb F 0 z, q) refl

  pub admitted_in : F ≡ 0 → Admits t → write_answer version agents p rows l d room ≡ room_answer size room
  unfolding when_admitted
  admitted_in z a = answer_is ∙ rw (eq-eqb F 0 z, a.2) refl

  pub written_out : (m : ℕ) → write_answer version agents p rows l d room ≡ Answer.Written m → (F ≡ 0) × Admits t × (m ≡ size) × (size ≤ room)
  written_out m w =
      ⊎_elim (λ c. not_written (sym c.1 ∙ w))
      (⊎_elim (λ c. not_written (sym c.1.3 ∙ w)) (λ c. let r = room_written size room m (sym c.2 ∙ w) in (c.0, c.1, r.0, r.1)))
      (judged F (admission true t) (room_answer size room) (write_answer version agents p rows l d room) answer_is)

  pub refused_out : (k i : ℕ) → write_answer version agents p rows l d room ≡ Answer.Refused k i
      → ((F ≡ 0 → ⊥) × (F ≡ k)) ⊎ (((F ≡ 0) × (admission true t ≡ Refused k i)) ⊎ ((F ≡ 0) × Admits t × (room < size) × (k ≡ 13) × (i ≡ 0)))
  refused_out k i w =
      ⊎_elim (λ c. inl (c.0, ap said_number (sym c.1 ∙ w)))
      (⊎_elim (λ c. let q = sym c.1.3 ∙ w in inr (inl (c.0, c.1.2 ∙ same (ap said_number q) (ap said_row q)))) (λ c.
      let r = room_refused size room k i (sym c.2 ∙ w) in inr (inr (c.0, c.1, r.0, r.1, r.2))))
      (judged F (admission true t) (room_answer size room) (write_answer version agents p rows l d room) answer_is)
    where
      same : {a b x y : ℕ} → a ≡ x → b ≡ y → Refused a b ≡ Refused x y
      same e f = rw (e, f) refl

  -- the number of values that are refused
  pub fault_apart : (of_table F ≡ false) × (eqb F 13 ≡ false)
  unfolding values_fault
  fault_apart = fault_other (version_known version) (counts_fit agents rows) (numbers_fit version agents p) (dependencies_fit version d.count)

  pub fault_version : F ≡ 2 ↔ version_known version ≡ false
  unfolding values_fault
  fault_version = fault_2 (version_known version) (counts_fit agents rows) (numbers_fit version agents p) (dependencies_fit version d.count)

  pub fault_limits : F ≡ 3 ↔ (version_known version ≡ true) × (counts_fit agents rows ≡ false)
  unfolding values_fault
  fault_limits = fault_3 (version_known version) (counts_fit agents rows) (numbers_fit version agents p) (dependencies_fit version d.count)

  pub fault_numbers : F ≡ 16 ↔ (version_known version ≡ true) × (counts_fit agents rows ≡ true) × (numbers_fit version agents p ≡ false)
  unfolding values_fault
  fault_numbers = fault_16 (version_known version) (counts_fit agents rows) (numbers_fit version agents p) (dependencies_fit version d.count)

  pub fault_dependencies : F ≡ 17
      ↔ (version_known version ≡ true) × (counts_fit agents rows ≡ true) × (numbers_fit version agents p ≡ true) × (dependencies_fit version d.count ≡ false)
  unfolding values_fault
  fault_dependencies = fault_17 (version_known version) (counts_fit agents rows) (numbers_fit version agents p) (dependencies_fit version d.count)
