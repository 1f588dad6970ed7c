-- What a writer refuses, in its order, and what it leaves in the lent buffer.
use Rattle.std.specs.Prelude.{Bool, true, not, cond, List, ◌++◌, ℕ, drop, ltb, leb, eqb}
use Rattle.finite.specs.Logic.{◌and◌}
use Rattle.finite.specs.Below.{any_below}
use Rattle.model.specs.Limits.{AGENTS, ROWS, DEPENDENCIES}
use Rattle.model.specs.Scope.{SHADER, QUEUE, agent_kind}
use Rattle.model.specs.Header.{VERSION_PLAIN, VERSION_HOSTS}
use Rattle.std.specs.declared.result.Result.{Result}
use Rattle.std.specs.declared.result.Result.TheVariants.{Ok, Err}
use Rattle.model.specs.declared.Refusal.{Refusal}
use Rattle.model.specs.Refusal.{refusal, admission, when_admitted}
use Rattle.model.specs.declared.Entry.{Entry}
use Rattle.door_write.specs.declared.Dependencies.{Dependencies}
use Rattle.door_write.specs.Encode.{with_hosts, table_size, encode}

-- ---- the answer

pub data WriteAnswer : Type 0 where
  -- number and row
  Refused : ℕ → ℕ → WriteAnswer
  -- how many bytes
  Written : ℕ → WriteAnswer

-- ---- 2, 3, 16, 17: values that no bytes are made of

-- 2: versions VERSION_PLAIN to VERSION_HOSTS
unfoldable pub version_known : ℕ → Bool
version_known version = leb VERSION_PLAIN version and leb version VERSION_HOSTS

-- 3
unfoldable pub counts_fit : ℕ → ℕ → Bool
counts_fit agents rows = leb agents AGENTS and leb rows ROWS

-- 16: an agent's fourth number is over that of a queue agent; without host agents, over a shader agent's, which is 0
unfoldable pub number_over : ℕ → List (List ℕ) → ℕ → Bool
number_over version p a = ltb (cond (with_hosts version) QUEUE SHADER) (agent_kind p a)

unfoldable pub numbers_fit : ℕ → ℕ → List (List ℕ) → Bool
numbers_fit version agents p = not (any_below agents (number_over version p))

-- 17: too many dependencies; without host agents, any
unfoldable pub dependencies_fit : ℕ → ℕ → Bool
dependencies_fit version n = leb n (cond (with_hosts version) DEPENDENCIES 0)

-- the number of the refusal, 0 for none
unfoldable pub values_fault : ℕ → ℕ → List (List ℕ) → ℕ → ℕ → ℕ
values_fault version agents p rows n =
    cond (version_known version) (cond (counts_fit agents rows) (cond (numbers_fit version agents p) (cond (dependencies_fit version n) 0 17) 16) 3) 2

-- ---- then what a fill refuses the table for, 18 before the rows' own; last 13, where the buffer has too little room

-- 13
unfoldable pub room_answer : ℕ → ℕ → WriteAnswer
room_answer size room = cond (leb size room) (Written size) (Refused 13 0)

unfoldable pub write_answer : ℕ → ℕ → List (List ℕ) → ℕ → List Entry → Dependencies → ℕ → WriteAnswer
write_answer version agents p rows l d room =
    cond (eqb (values_fault version agents p rows d.count) 0)
    (when_admitted Refused (admission true (encode version agents p rows l d)) (room_answer (table_size version agents rows d.count) room))
    (Refused (values_fault version agents p rows d.count) 0)

-- the buffer: the table, then what was there; untouched where the writing is refused
unfoldable pub buffer_after : WriteAnswer → List ℕ → List ℕ → List ℕ
buffer_after (Written n) t out = t ++ drop n out
buffer_after (Refused k i) t out = out

-- the bytes that are written, else the refusal, as a program has them
unfoldable pub write_result : WriteAnswer → Result ℕ Refusal
write_result (Refused k i) = Err (refusal k i)
write_result (Written n) = Ok n
