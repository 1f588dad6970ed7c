-- What a table that is admitted is known to be. Assumes nothing.
use Rattle.std.specs.Prelude.{◌≡◌, refl, true, false, cond, List, ◌⊎◌, length, ltb, eqb}
use Rattle.std.proofs.Common.{ap, ◌∙◌, subst, inl, inr}
use Rattle.std.proofs.Math.Bool.{Bool, not}
use Rattle.std.proofs.Math.Logic.{⊎_elim}
use Prim.Native.Nat.{ℕ, ◌+◌, ◌≤◌, ◌<◌}
use native.Mathlib.Omega.{arith}
use Rattle.std.proofs.Math.Dec.{leb}
use borrow.Author.Tests.{eqb-true, leb-true, ltb-false, eq-eqb, le-ltb}
use Rattle.finite.specs.Logic.{◌and◌, ◌or◌, split, which, not_both, not_out, or_cases}
use Rattle.finite.specs.Below.{least, least_is, least_off}
use Rattle.model.specs.declared.Row.{Row}
use Rattle.std.specs.declared.result.Result.{Result}
use Rattle.std.specs.declared.result.Result.TheVariants.{Ok, Err}
use Rattle.model.specs.declared.Counts.{Counts}
use Rattle.model.specs.declared.Refusal.{Refusal}
use Rattle.model.specs.declared.Admission.{Admission}
use Rattle.model.specs.declared.Admission.TheVariants.{Admitted, Refused}
use Rattle.model.specs.Refusal.{refusal, refusal_of, admission_answer}
use Rattle.model.specs.Limits.{AGENTS, ROWS, DEPENDENCIES, LONGEST, BYTES}
use Rattle.model.specs.Row.{RMW, CONTROL, AVAILABLE_HOST, BOTH, access, control, operation}
use Rattle.model.specs.Scope.{DEVICE, agent_kind}
use Rattle.model.specs.Table.{row_of, source_of, dependency_count}
use Rattle.model.specs.Header.{HEADER, agents_at, rows_at, has_hosts, size_of, row_bytes, dependency_bytes, places_of}
use Rattle.model.specs.Table.{table_of, sources_of}
use Rattle.model.specs.Refusal.{shape_or, header_fault, version_fits, limits_fit, length_fits, agents_known, dependencies_few}
use Rattle.model.specs.RowFault.{MOST_CLASSES, MOST_FLAGS, MOST_CLASS}
use Rattle.model.specs.Refusal.{dependencies_named, hosts_fault}
use Rattle.model.specs.RowFault.{agent_fits, operation_fits, form_fault, codes_fit, kind_fits, bytes_fit}
use Rattle.model.specs.Refusal.{faulty, first_fault}
use Rattle.model.specs.TableFault.{class_taken, source_broken, rank_taken, instance_broken, unfit, table_fault}
use Rattle.model.specs.RowFault.{extent_fits, row_fault}
use Rattle.model.specs.Refusal.{row_fault_at, admission}

-- ---- definitions

-- no refusal from 1 to 10, nor from 14 to 20, holds
pub record Sound (blanks : Bool) (s : List ℕ) : Type 0 where
  pub header : header_fault s ≡ 0
  pub row : (i : ℕ) → i < rows_at s → row_fault_at s i ≡ 0
  pub among : (i : ℕ) → i < rows_at s → table_fault blanks (table_of s) (sources_of s) i ≡ 0

-- what a header that passed has, a field for each refusal: 2, 3, 4; then 16, 17, 18
pub record HeaderRight (s : List ℕ) : Type 0 where
  pub version : version_fits s ≡ true
  pub limits : limits_fit s ≡ true
  pub size : length_fits s ≡ true
  pub hosts : hosts_fault s ≡ 0

pub record HostsRight (s : List ℕ) : Type 0 where
  pub agents : agents_known s ≡ true
  pub few : dependencies_few s ≡ true
  pub named : dependencies_named s ≡ true

-- what 5 asks of a row's numbers
pub record CodesRight (hosts : Bool) (agents : ℕ) (r : Row) : Type 0 where
  pub kind : (leb r.kind CONTROL or (hosts and operation r)) ≡ true
  pub agent : ltb r.agent agents ≡ true
  pub order : leb r.order BOTH ≡ true
  pub scope : leb r.scope DEVICE ≡ true
  pub classes : leb r.classes MOST_CLASSES ≡ true
  pub flags : leb r.flags MOST_FLAGS ≡ true
  pub class : leb r.class (cond (control r) DEVICE MOST_CLASS) ≡ true

-- what a row that passed has: 5, 19, and 20 or 6 and 7
pub record RowRight (s : List ℕ) (r : Row) (source : ℕ) : Type 0 where
  pub codes : CodesRight (has_hosts s) (agents_at s) r
  pub agent : agent_fits (agent_kind (places_of s) r.agent) r ≡ true
  pub form : form_fault r source ≡ 0

-- what a row that passed among the others has: 8, 9, 10, 14, 15
pub record AmongRight (blanks : Bool) (s : List ℕ) (i : ℕ) : Type 0 where
  pub class : class_taken (table_of s) i ≡ false
  pub source : source_broken blanks (table_of s) (sources_of s) i ≡ false
  pub rank : rank_taken (table_of s) i ≡ false
  pub instance : instance_broken (table_of s) i ≡ false
  pub run : unfit (table_of s) i ≡ false

-- ---- an admission and its faults

-- an admission as a program has it, read back
abbrev admitted_in : Result Counts Refusal → Counts
admitted_in (Ok k) = k
admitted_in (Err r) = record { agents = 0; rows = 0 }

abbrev refused_in : Result Counts Refusal → Refusal
refused_in (Ok k) = refusal 0 0
refused_in (Err r) = r

abbrev is_admitted : Result Counts Refusal → ℕ
is_admitted (Ok k) = 1
is_admitted (Err r) = 0

pub answer_admitted : (a : Admission) {k : Counts} → admission_answer a ≡ Ok k → a ≡ Admitted k.agents k.rows
unfolding admission_answer
answer_admitted (Admitted g n) e = ap (λ (k : Counts). Admitted k.agents k.rows) (ap admitted_in e)
answer_admitted (Refused n i) e = let z : ◌≡◌ {A = ℕ} 0 1 = ap is_admitted e in absurd (omega arith)

pub answer_refused : (a : Admission) {r : Refusal} → admission_answer a ≡ Err r → a ≡ Refused r.number r.row
unfolding admission_answer
answer_refused (Admitted g n) e = let z : ◌≡◌ {A = ℕ} 1 0 = ap is_admitted e in absurd (omega arith)
answer_refused (Refused n i) e = ap (λ (r : Refusal). Refused r.number r.row) (ap refused_in e)

-- a program's answer says all that an admission does
pub answer_same : (a b : Admission) → admission_answer a ≡ admission_answer b → a ≡ b
unfolding admission_answer
answer_same a (Admitted g n) e = answer_admitted a e
answer_same a (Refused n i) e = answer_refused a e

-- a refusal as it is taken out of an admission
pub refusal_is : {a : Admission} {x : Refusal} {n i : ℕ} → x ≡ refusal_of a → a ≡ Refused n i → a ≡ Refused x.number x.row
unfolding refusal_of
refusal_is e h = rw (e, h) refl

-- a refusal is no admission
pub not_admitted : {A : Type 0} {n i a r : ℕ} → Refused n i ≡ Admitted a r → A
not_admitted e = let z : ◌≡◌ {A = ℕ} 0 1 = ap which_one e in absurd (omega arith)
  where
    which_one : Admission → ℕ
    which_one (Refused n i) = 0
    which_one (Admitted a r) = 1

not-false : (b : Bool) → not b ≡ false → b ≡ true
not-false true q = refl
not-false false q = not_both refl q

module _ (f : ℕ → ℕ) (n : ℕ) where
  first_none : (next : Admission) → ((i : ℕ) → i < n → f i ≡ 0) → first_fault f n next ≡ next
  unfolding first_fault faulty
  first_none next h =
      let stop = least_off (λ i. not (eqb (f i) 0)) n (λ i l. rw (eq-eqb (f i) 0 (h i l)) refl) in
      rw stop (simp (le-ltb n n (omega arith)))

  first_admits : (next : Admission) {a r : ℕ} → first_fault f n next ≡ Admitted a r → ((i : ℕ) → i < n → f i ≡ 0) × (next ≡ Admitted a r)
  unfolding first_fault faulty
  first_admits next {a} {r} e = go (which (ltb (least n p) n))
    where
      p : ℕ → Bool
      p i = not (eqb (f i) 0)

      clean : ltb (least n p) n ≡ false → (i : ℕ) → i < n → f i ≡ 0
      clean h i l =
          let b : n ≤ least n p = ltb-false (least n p) n h in
          eqb-true (f i) 0 (not-false (eqb (f i) 0) ((least_is p n).miss i (omega arith)))

      go : (ltb (least n p) n ≡ true) ⊎ (ltb (least n p) n ≡ false) → ((i : ℕ) → i < n → f i ≡ 0) × (next ≡ Admitted a r)
      go (inl h) = not_admitted (subst (λ (b : Bool). cond b (Refused (f (least n p)) (least n p)) next ≡ Admitted a r) h e)
      go (inr h) = (clean h, subst (λ (b : Bool). cond b (Refused (f (least n p)) (least n p)) next ≡ Admitted a r) h e)

-- ---- sound is admitted

pub sound_admitted : (blanks : Bool) (s : List ℕ) → Sound blanks s → admission blanks s ≡ Admitted (agents_at s) (rows_at s)
unfolding admission
sound_admitted blanks s h =
    rw h.header
    (first_none (row_fault_at s) (rows_at s) _ h.row ∙ first_none (table_fault blanks (table_of s) (sources_of s)) (rows_at s) _ h.among)

pub admitted_sound : (blanks : Bool) (s : List ℕ) {a r : ℕ} → admission blanks s ≡ Admitted a r → Sound blanks s
unfolding admission
admitted_sound blanks s {a} {r} e = go (which (eqb (header_fault s) 0))
  where
    next : Admission
    next = first_fault (table_fault blanks (table_of s) (sources_of s)) (rows_at s) (Admitted (agents_at s) (rows_at s))

    T : Bool → Type 0
    T b = cond b (first_fault (row_fault_at s) (rows_at s) next) (Refused (header_fault s) 0) ≡ Admitted a r

    go : (eqb (header_fault s) 0 ≡ true) ⊎ (eqb (header_fault s) 0 ≡ false) → Sound blanks s
    go (inl h) =
        let x = first_admits (row_fault_at s) (rows_at s) next (subst T h e) in
        let y = first_admits (table_fault blanks (table_of s) (sources_of s)) (rows_at s) (Admitted (agents_at s) (rows_at s)) x.1 in
        record { header = eqb-true (header_fault s) 0 h; row = x.0; among = y.0 }
    go (inr h) = not_admitted (subst T h e)

-- ---- a fault number that is 0: every test of its cascade passed

header_passed : (a b c d : Bool) (n : ℕ) → ◌≡◌ {A = ℕ} (cond a (cond b (cond c (cond d n 4) 3) 2) 1) 0 → (b ≡ true) × (c ≡ true) × (d ≡ true) × (n ≡ 0)
header_passed true true true true n e = (refl, refl, refl, e)
header_passed true true true false n e = absurd (omega arith)
header_passed true true false d n e = absurd (omega arith)
header_passed true false c d n e = absurd (omega arith)
header_passed false b c d n e = absurd (omega arith)

hosts_passed : (a b c : Bool) → ◌≡◌ {A = ℕ} (cond a (cond b (cond c 0 18) 17) 16) 0 → (a ≡ true) × (b ≡ true) × (c ≡ true)
hosts_passed true true true e = (refl, refl, refl)
hosts_passed true true false e = absurd (omega arith)
hosts_passed true false c e = absurd (omega arith)
hosts_passed false b c e = absurd (omega arith)

row_passed : (a b : Bool) (n : ℕ) → ◌≡◌ {A = ℕ} (cond a (cond b n 19) 5) 0 → (a ≡ true) × (b ≡ true) × (n ≡ 0)
row_passed true true n e = (refl, refl, e)
row_passed true false n e = absurd (omega arith)
row_passed false b n e = absurd (omega arith)

codes_right : (hosts : Bool) (agents : ℕ) (r : Row) → codes_fit hosts agents r ≡ true → CodesRight hosts agents r
unfolding codes_fit
codes_right hosts agents r e =
    let g = split e in
    let f = split g.0 in
    let c = split f.0 in
    let s = split c.0 in
    let o = split s.0 in
    let k = split o.0 in
    record { kind = k.0; agent = k.1; order = o.1; scope = s.1; classes = c.1; flags = f.1; class = g.1 }

form_passed : (a b c d : Bool) → ◌≡◌ {A = ℕ} (cond a (cond b 0 20) (cond c (cond d 0 7) 6)) 0 → ((a ≡ true) × (b ≡ true))
    ⊎ ((a ≡ false) × (c ≡ true) × (d ≡ true))
form_passed true true c d e = inl (refl, refl)
form_passed true false c d e = absurd (omega arith)
form_passed false b true true e = inr (refl, refl, refl)
form_passed false b true false e = absurd (omega arith)
form_passed false b false d e = absurd (omega arith)

-- an operation is no access and no barrier
operation_kind : (r : Row) → operation r ≡ true → AVAILABLE_HOST ≤ r.kind
unfolding operation
operation_kind r e = leb-true AVAILABLE_HOST r.kind (split e).0

access_kind : (r : Row) → access r ≡ true → r.kind ≤ RMW
unfolding access
access_kind r e = leb-true r.kind RMW e

pub access_no_operation : (r : Row) → access r ≡ true → operation r ≡ true → ⊥
access_no_operation r a o = let k = access_kind r a in let m = operation_kind r o in omega arith

table_passed : (a b c d e : Bool) → ◌≡◌ {A = ℕ} (cond a 8 (cond b 9 (cond c 10 (cond d 14 (cond e 15 0))))) 0
    → (a ≡ false) × (b ≡ false) × (c ≡ false) × (d ≡ false) × (e ≡ false)
table_passed true b c d e q = absurd (omega arith)
table_passed false true c d e q = absurd (omega arith)
table_passed false false true d e q = absurd (omega arith)
table_passed false false false true e q = absurd (omega arith)
table_passed false false false false true q = absurd (omega arith)
table_passed false false false false false q = (refl, refl, refl, refl, refl)

module _ {blanks : Bool} {s : List ℕ} (h : Sound blanks s) where
  header_right : HeaderRight s
  unfolding header_fault shape_or
  header_right =
      let p = header_passed (leb HEADER (length s)) (version_fits s) (limits_fit s) (length_fits s) (hosts_fault s) h.header in
      record { version = p.0; limits = p.1; size = p.2; hosts = p.3 }

  pub hosts_right : HostsRight s
  unfolding hosts_fault
  hosts_right =
      let p = hosts_passed (agents_known s) (dependencies_few s) (dependencies_named s) header_right.hosts in
      record { agents = p.0; few = p.1; named = p.2 }

  pub agents_fit : agents_at s ≤ AGENTS
  unfolding limits_fit
  agents_fit = leb-true (agents_at s) AGENTS (split header_right.limits).0

  pub dependencies_fit_lem : dependency_count (dependency_bytes s) ≤ DEPENDENCIES
  unfolding dependencies_few
  dependencies_fit_lem = leb-true (dependency_count (dependency_bytes s)) DEPENDENCIES hosts_right.few

  pub rows_fit : rows_at s ≤ ROWS
  unfolding limits_fit
  rows_fit = leb-true (rows_at s) ROWS (split header_right.limits).1

  pub length_is : length s ≡ size_of s
  unfolding length_fits
  length_is = eqb-true (length s) (size_of s) (split header_right.size).1

  module _ (i : ℕ) (l : i < rows_at s) where
    abbrev r : Row
    r = row_of (row_bytes s) i

    pub row_right : RowRight s r (source_of (row_bytes s) i)
    unfolding row_fault_at row_fault
    row_right =
        let p = row_passed (codes_fit (has_hosts s) (agents_at s) r) (agent_fits (agent_kind (places_of s) r.agent) r)
        (form_fault r (source_of (row_bytes s) i)) (h.row i l) in
        record { codes = codes_right (has_hosts s) (agents_at s) r p.0; agent = p.1; form = p.2 }

    -- 20; or 6 and 7
    pub form_right : ((operation r ≡ true) × (operation_fits r (source_of (row_bytes s) i) ≡ true))
        ⊎ ((operation r ≡ false) × (kind_fits r (source_of (row_bytes s) i) ≡ true) × (extent_fits r ≡ true))
    unfolding form_fault
    form_right = form_passed (operation r) (operation_fits r (source_of (row_bytes s) i)) (kind_fits r (source_of (row_bytes s) i)) (extent_fits r) row_right.form

    -- 6, 7 of a row that is no operation
    pub kind_right : (operation r ≡ true → ⊥) → (kind_fits r (source_of (row_bytes s) i) ≡ true) × (extent_fits r ≡ true)
    kind_right n = ⊎_elim (λ o. absurd (n o.0)) (λ k. (k.1, k.2)) form_right

    -- an operation has no bytes
    operation_size : operation r ≡ true → r.size ≡ 0
    unfolding operation_fits
    operation_size o = ⊎_elim (λ f. eqb-true r.size 0 (split (split (split (split (split f.1).0).0).0).0).1) (λ k. not_both o k.0) form_right

    pub among_right : AmongRight blanks s i
    unfolding table_fault
    among_right =
        let p = table_passed (class_taken (table_of s) i) (source_broken blanks (table_of s) (sources_of s) i) (rank_taken (table_of s) i)
        (instance_broken (table_of s) i)
        (unfit (table_of s) i) (h.among i l) in
        record { class = p.0; source = p.1; rank = p.2; instance = p.3; run = p.4 }

    -- an access has 1 to LONGEST bytes
    pub access_size : access r ≡ true → (1 ≤ r.size) × (r.size ≤ LONGEST)
    unfolding extent_fits
    access_size a =
        ⊎_elim (λ n. not_both a (not_out (access r) n))
        (λ t. (leb-true 1 r.size (split (split t).0).0, leb-true r.size LONGEST (split (split t).0).1))
        (or_cases (not (access r)) (leb 1 r.size and leb r.size LONGEST and leb (r.start + r.size) BYTES)
        (split (kind_right (access_no_operation r a)).1).0)

    -- and they end where a byte's number does
    pub access_end : access r ≡ true → r.start + r.size ≤ BYTES
    unfolding extent_fits
    access_end a =
        ⊎_elim (λ n. not_both a (not_out (access r) n)) (λ t. leb-true (r.start + r.size) BYTES (split t).1)
        (or_cases (not (access r)) (leb 1 r.size and leb r.size LONGEST and leb (r.start + r.size) BYTES)
        (split (kind_right (access_no_operation r a)).1).0)

    -- so no row has more than LONGEST bytes: 20 of an operation, 6 of any other that is no access
    pub size_fits : r.size ≤ LONGEST
    unfolding kind_fits bytes_fit
    size_fits =
        ⊎_elim (λ o. none (operation_size o.0))
        (λ k. ⊎_elim (λ a. (access_size a).1) (λ z. none (eqb-true r.size 0 z)) (or_cases (access r) (eqb r.size 0) (split k.1).1))
        form_right
      where
        none : r.size ≡ 0 → r.size ≤ LONGEST
        none e = omega arith
