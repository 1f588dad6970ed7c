-- What values that pass refusals 2, 3, 16 and 17 are known to be, and how long the parts of their table are. Assumes nothing.
use Rattle.std.specs.Prelude.{◌≡◌, Bool, true, false, cond, List, ◌++◌, ℕ, ◌+◌, ◌*◌, ◌≤◌, ◌<◌, length}
use Rattle.std.proofs.Math.Path.{refl}
use Rattle.std.proofs.Common.{subst, length-append}
use Rattle.std.proofs.Math.Logic.{⊎_elim}
use native.Mathlib.Omega.{arith}
use Rattle.std.proofs.Math.Dec.{ltb, leb}
use borrow.Author.Tests.{leb-true, ltb-false}
use Rattle.finite.specs.Logic.{split, which, not_out}
use Rattle.finite.specs.Below.{any_off}
use Rattle.finite.specs.Lists.{length_tabulate}
use Rattle.model.specs.Limits.{AGENTS, ROWS, DEPENDENCIES}
use Rattle.model.specs.Scope.{SHADER, QUEUE, agent_kind}
use Rattle.model.specs.Header.{HEADER, VERSION_PLAIN, VERSION_HOSTS, PLACE_BYTES, HOSTS_PLACE_BYTES, DEPENDENCY_BYTES, ROW_BYTES}
use Rattle.model.specs.declared.Entry.{Entry}
use Rattle.door_write.specs.declared.Dependencies.{Dependencies}
use Rattle.door_write.specs.Encode.{with_hosts, places_size, dependencies_size, table_size, header_list, place_byte, entry_byte, dependency_byte, places_part}
use Rattle.door_write.specs.Encode.{rows_part, dependencies_part, encode}
use Rattle.door_write.specs.Answer.{version_known, counts_fit, number_over, numbers_fit, dependencies_fit, values_fault}

-- ---- definitions

-- none of 2, 3, 16 and 17 holds
pub record Fits (version agents : ℕ) (p : List (List ℕ)) (rows n : ℕ) : Type 0 where
  pub known : version_known version ≡ true
  pub counts : counts_fit agents rows ≡ true
  pub numbers : numbers_fit version agents p ≡ true
  pub dependencies : dependencies_fit version n ≡ true

-- ---- sizes, with host agents and without

module _ (version : ℕ) where
  pub places_hosts : (agents : ℕ) → with_hosts version ≡ true → places_size version agents ≡ HOSTS_PLACE_BYTES * agents
  unfolding places_size
  places_hosts agents h = rw h refl

  pub places_plain : (agents : ℕ) → with_hosts version ≡ false → places_size version agents ≡ PLACE_BYTES * agents
  unfolding places_size
  places_plain agents h = rw h refl

  pub after_hosts : (n : ℕ) → with_hosts version ≡ true → dependencies_size version n ≡ 2 + DEPENDENCY_BYTES * n
  unfolding dependencies_size
  after_hosts n h = rw h refl

  pub after_plain : (n : ℕ) → with_hosts version ≡ false → dependencies_size version n ≡ 0
  unfolding dependencies_size
  after_plain n h = rw h refl

  pub places_most : (agents : ℕ) → agents ≤ AGENTS → places_size version agents ≤ 256
  places_most agents a = ⊎_elim (λ h. let e = places_hosts agents h in omega arith) (λ h. let e = places_plain agents h in
      omega arith) (which (with_hosts version))

  pub after_most : (n : ℕ) → n ≤ DEPENDENCIES → dependencies_size version n ≤ 258
  after_most n a = ⊎_elim (λ h. let e = after_hosts n h in omega arith) (λ h. let e = after_plain n h in omega arith) (which (with_hosts version))

  pub size_most : (agents rows n : ℕ) → agents ≤ AGENTS → rows ≤ ROWS → n ≤ DEPENDENCIES → table_size version agents rows n ≤ 2570
  unfolding table_size
  size_most agents rows n a r d = let x = places_most agents a in let y = after_most n d in omega arith

  pub size_least : (agents rows n : ℕ) → HEADER ≤ table_size version agents rows n
  unfolding table_size
  size_least agents rows n = omega arith

-- where the rows begin, and where the table ends, with host agents or without
pub begin_either : (hosts : Bool) (agents : ℕ)
    → ◌≡◌ {A = ℕ} (cond hosts (HEADER + HOSTS_PLACE_BYTES * agents) (HEADER + PLACE_BYTES * agents))
    (HEADER + cond hosts (HOSTS_PLACE_BYTES * agents) (PLACE_BYTES * agents))
begin_either true agents = refl
begin_either false agents = refl

pub end_either : (hosts : Bool) (end n : ℕ) → ◌≡◌ {A = ℕ} (cond hosts (end + 2 + DEPENDENCY_BYTES * n) end) (end + cond hosts (2 + DEPENDENCY_BYTES * n) 0)
end_either true end n = omega arith
end_either false end n = omega arith

-- ---- the lengths of the parts

pub header_length : (version agents rows size : ℕ) → length (header_list version agents rows size) ≡ HEADER
unfolding header_list
header_length version agents rows size = refl

pub places_length : (version agents : ℕ) (p : List (List ℕ)) → length (places_part version agents p) ≡ places_size version agents
unfolding places_part
places_length version agents p = length_tabulate (place_byte (with_hosts version) p) (places_size version agents)

pub rows_length : (rows : ℕ) (l : List Entry) → length (rows_part rows l) ≡ ROW_BYTES * rows
unfolding rows_part
rows_length rows l = length_tabulate (entry_byte l) (ROW_BYTES * rows)

pub after_length : (version : ℕ) (d : Dependencies) → length (dependencies_part version d) ≡ dependencies_size version d.count
unfolding dependencies_part
after_length version d = length_tabulate (dependency_byte d) (dependencies_size version d.count)

pub encode_length : (version agents : ℕ) (p : List (List ℕ)) (rows : ℕ) (l : List Entry) (d : Dependencies)
    → length (encode version agents p rows l d) ≡ table_size version agents rows d.count
unfolding encode table_size
encode_length version agents p rows l d =
    let h : List ℕ = header_list version agents rows (HEADER + places_size version agents + ROW_BYTES * rows + dependencies_size version d.count) in
    let s : List ℕ = places_part version agents p in
    rw (
      length-append (h ++ s ++ rows_part rows l) (dependencies_part version d),
      length-append (h ++ s) (rows_part rows l),
      length-append h s,
      header_length version agents rows (HEADER + places_size version agents + ROW_BYTES * rows + dependencies_size version d.count),
      places_length version agents p,
      rows_length rows l,
      after_length version d,
    )
    refl

-- ---- values that pass

values_passed : (a b c d : Bool) → ◌≡◌ {A = ℕ} (cond a (cond b (cond c (cond d 0 17) 16) 3) 2) 0 → (a ≡ true) × (b ≡ true) × (c ≡ true) × (d ≡ true)
values_passed true true true true e = (refl, refl, refl, refl)
values_passed true true true false e = absurd (omega arith)
values_passed true true false d e = absurd (omega arith)
values_passed true false c d e = absurd (omega arith)
values_passed false b c d e = absurd (omega arith)

pub values_fit : (version agents : ℕ) (p : List (List ℕ)) (rows n : ℕ) → values_fault version agents p rows n ≡ 0 → Fits version agents p rows n
unfolding values_fault
values_fit version agents p rows n z =
    let h = values_passed (version_known version) (counts_fit agents rows) (numbers_fit version agents p) (dependencies_fit version n) z in
    record { known = h.0; counts = h.1; numbers = h.2; dependencies = h.3 }

pub fit_values : {version agents : ℕ} {p : List (List ℕ)} {rows n : ℕ} → Fits version agents p rows n → values_fault version agents p rows n ≡ 0
unfolding values_fault
fit_values f = rw (f.known, f.counts, f.numbers, f.dependencies) refl

module _ {version agents : ℕ} {p : List (List ℕ)} {rows n : ℕ} (f : Fits version agents p rows n) where
  pub version_first : VERSION_PLAIN ≤ version
  unfolding version_known
  version_first = leb-true VERSION_PLAIN version (split f.known).0

  pub version_last : version ≤ VERSION_HOSTS
  unfolding version_known
  version_last = leb-true version VERSION_HOSTS (split f.known).1

  pub agents_few : agents ≤ AGENTS
  unfolding counts_fit
  agents_few = leb-true agents AGENTS (split f.counts).0

  pub rows_few : rows ≤ ROWS
  unfolding counts_fit
  rows_few = leb-true rows ROWS (split f.counts).1

  pub number_hosts : with_hosts version ≡ true → (a : ℕ) → a < agents → agent_kind p a ≤ QUEUE
  unfolding numbers_fit number_over
  number_hosts h a l =
      ltb-false QUEUE (agent_kind p a)
      (subst (λ (b : Bool). ltb (cond b QUEUE SHADER) (agent_kind p a) ≡ false) h (any_off (number_over version p) agents (not_out _ f.numbers) a l))

  -- without host agents each is a shader agent
  pub number_plain : with_hosts version ≡ false → (a : ℕ) → a < agents → agent_kind p a ≡ SHADER
  unfolding numbers_fit number_over
  number_plain h a l =
      let k : agent_kind p a ≤ SHADER = ltb-false SHADER (agent_kind p a)
      (subst (λ (b : Bool). ltb (cond b QUEUE SHADER) (agent_kind p a) ≡ false) h (any_off (number_over version p) agents (not_out _ f.numbers) a l))
      in
      omega arith

  pub after_none : with_hosts version ≡ false → n ≡ 0
  unfolding dependencies_fit
  after_none h = let k : n ≤ 0 = leb-true n 0 (subst (λ (b : Bool). leb n (cond b DEPENDENCIES 0) ≡ true) h f.dependencies) in omega arith

  pub after_few : n ≤ DEPENDENCIES
  unfolding dependencies_fit
  after_few =
      ⊎_elim (λ h. leb-true n DEPENDENCIES (subst (λ (b : Bool). leb n (cond b DEPENDENCIES 0) ≡ true) h f.dependencies))
      (λ h. let k = after_none h in omega arith) (which (with_hosts version))
