-- Values past their counts make no difference to the table that is written, nor to the answer. Assumes nothing.
use Rattle.std.specs.Prelude.{◌≡◌, true, false, cond, List, [], get_or, ltb}
use Rattle.std.proofs.Math.Path.{refl, ap}
use Rattle.std.proofs.Common.{◌∙◌, arith, lt-ltb, le-ltb}
use Rattle.std.proofs.Math.Bool.{not}
use Rattle.std.proofs.Math.Logic.{⊎_elim}
use Prim.Native.Nat.{ℕ, ◌+◌, ◌-◌, ◌*◌, ◌/◌, ◌%◌, ◌<◌}
use Rattle.std.proofs.Math.Decide.{dec_lt}
use Rattle.finite.specs.Logic.{which}
use Rattle.finite.specs.Below.{any_cong}
use Rattle.finite.specs.Lists.{tabulate, tabulate_cong}
use Rattle.model.specs.Scope.{agent_kind}
use Rattle.model.specs.Header.{PLACE_BYTES, HOSTS_PLACE_BYTES, DEPENDENCY_BYTES, ROW_BYTES}
use Rattle.model.specs.declared.Entry.{Entry}
use Rattle.door_write.specs.declared.Dependencies.{Dependencies}
use Rattle.door_write.specs.Encode.{half, with_hosts, places_size, dependencies_size, number_of, place_number, place_byte, entry_at, entry_byte}
use Rattle.door_write.specs.Encode.{dependency_number, dependency_byte, places_part, rows_part, dependencies_part, encode}
use Rattle.door_write.specs.Answer.{number_over, numbers_fit, values_fault, write_answer}
use Rattle.door_write.specs.ValueLaws.{places_hosts, places_plain, after_hosts, after_plain}

-- ---- definitions

-- the same values, as far as they are counted
pub record Alike (agents : ℕ) (p q : List (List ℕ)) (rows : ℕ) (l m : List Entry) (d e : Dependencies) : Type 0 where
  pub place : (a : ℕ) → a < agents → get_or p a [] ≡ get_or q a []
  pub entry : (i : ℕ) → i < rows → entry_at l i ≡ entry_at m i
  pub count : d.count ≡ e.count
  pub first : (k : ℕ) → k < d.count → get_or d.first k 0 ≡ get_or e.first k 0
  pub second : (k : ℕ) → k < d.count → get_or d.second k 0 ≡ get_or e.second k 0

-- ---- laws

module _ (version agents : ℕ) (p q : List (List ℕ)) (rows : ℕ) (l m : List Entry) (d e : Dependencies) (same : Alike agents p q rows l m d e) where
  number_same : (a n : ℕ) → a < agents → number_of p a n ≡ number_of q a n
  unfolding number_of
  number_same a n h = rw (same.place a h) refl

  byte_hosts : (k : ℕ) → k < HOSTS_PLACE_BYTES * agents → place_byte true p k ≡ place_byte true q k
  unfolding place_byte place_number
  byte_hosts k h = rw (number_same (k / HOSTS_PLACE_BYTES) (k % HOSTS_PLACE_BYTES / 2) (omega arith)) refl

  byte_plain : (k : ℕ) → k < PLACE_BYTES * agents → place_byte false p k ≡ place_byte false q k
  unfolding place_byte place_number
  byte_plain k h = rw (number_same (k / PLACE_BYTES) (k % PLACE_BYTES / 2) (omega arith)) refl

  places_same : places_part version agents p ≡ places_part version agents q
  unfolding places_part
  places_same = tabulate_cong (place_byte (with_hosts version) p) (place_byte (with_hosts version) q) (places_size version agents) (λ k h. byte k h)
    where
      byte : (k : ℕ) → k < places_size version agents → place_byte (with_hosts version) p k ≡ place_byte (with_hosts version) q k
      byte k h =
          ⊎_elim (λ w. rw w (byte_hosts k (let n = places_hosts version agents w in omega arith)))
          (λ w. rw w (byte_plain k (let n = places_plain version agents w in omega arith)))
          (which (with_hosts version))

  entry_same : (k : ℕ) → k < ROW_BYTES * rows → entry_byte l k ≡ entry_byte m k
  unfolding entry_byte
  entry_same k h = rw (same.entry (k / ROW_BYTES) (omega arith)) refl

  rows_same : rows_part rows l ≡ rows_part rows m
  unfolding rows_part
  rows_same = tabulate_cong (entry_byte l) (entry_byte m) (ROW_BYTES * rows) entry_same

  dependency_same : (k : ℕ) → k < 2 + DEPENDENCY_BYTES * d.count → dependency_byte d k ≡ dependency_byte e k
  unfolding dependency_byte dependency_number
  dependency_same k h = go (dec_lt k 2)
    where
      i : ℕ
      i = (k - 2) / DEPENDENCY_BYTES

      go : Dec (k < 2)
          → half (cond (ltb k 2) d.count (cond (ltb ((k - 2) % DEPENDENCY_BYTES) 2) (get_or d.first ((k - 2) / DEPENDENCY_BYTES) 0)
          (get_or d.second ((k - 2) / DEPENDENCY_BYTES) 0))) k
          ≡ half (cond (ltb k 2) e.count (cond (ltb ((k - 2) % DEPENDENCY_BYTES) 2) (get_or e.first ((k - 2) / DEPENDENCY_BYTES) 0)
          (get_or e.second ((k - 2) / DEPENDENCY_BYTES) 0))) k
      go (yes a) = rw (lt-ltb k 2 a, same.count) refl
      go (no a) = rw (
        le-ltb k 2 (omega arith),
        same.first ((k - 2) / DEPENDENCY_BYTES) (omega arith),
        same.second ((k - 2) / DEPENDENCY_BYTES) (omega arith),
      ) refl

  after_same : dependencies_part version d ≡ dependencies_part version e
  unfolding dependencies_part
  after_same =
      tabulate_cong (dependency_byte d) (dependency_byte e) (dependencies_size version d.count) (λ k h. byte k h)
      ∙ ap (λ (n : ℕ). tabulate (dependency_byte e) (dependencies_size version n)) same.count
    where
      byte : (k : ℕ) → k < dependencies_size version d.count → dependency_byte d k ≡ dependency_byte e k
      byte k h =
          ⊎_elim (λ w. dependency_same k (let n = after_hosts version d.count w in omega arith))
          (λ w. absurd (let n = after_plain version d.count w in omega arith))
          (which (with_hosts version))

  pub encode_alike : encode version agents p rows l d ≡ encode version agents q rows m e
  unfolding encode
  encode_alike = rw (places_same, rows_same, after_same, same.count) refl

  numbers_alike : numbers_fit version agents p ≡ numbers_fit version agents q
  unfolding numbers_fit number_over agent_kind
  numbers_alike = ap not (any_cong (number_over version p) (number_over version q) agents (λ a h. rw (same.place a h) refl))

  pub answer_alike : (room : ℕ) → write_answer version agents p rows l d room ≡ write_answer version agents q rows m e room
  unfolding write_answer values_fault
  answer_alike room = rw (encode_alike, numbers_alike, same.count) refl
