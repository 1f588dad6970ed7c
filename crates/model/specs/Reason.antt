-- Reasons: derivations that one moment happens before another, when one is accepted, and the one that is found.
-- A derivation is the word program order, or a class set and a chain of steps; each step names the direct case of M6 that it uses
-- and the moment that it reaches.
use Rattle.std.specs.Prelude.{Bool, true, false, not, cond, List, ◌++◌, ℕ, suc, ◌+◌, ◌-◌, ◌*◌, ◌/◌, ◌%◌, length, get_or, drop, ltb, leb, eqb}
use Rattle.finite.specs.Logic.{◌and◌}
use Rattle.finite.specs.Below.{any_below, least}
use Rattle.finite.specs.Walk.{walk, trail, along}
use Rattle.model.specs.declared.Reason.{Reason}
use Rattle.model.specs.declared.Reason.TheVariants as reason
use Rattle.std.specs.declared.result.Result.{Result}
use Rattle.std.specs.declared.result.Result.TheVariants.{Ok, Err}
use Rattle.model.specs.declared.Refusal.{Refusal}
use Rattle.model.specs.declared.DeriveAnswer.{DeriveAnswer}
use Rattle.model.specs.declared.DeriveAnswer.TheVariants as derived
use Rattle.model.specs.Limits.{STEPS, CASE, CLASS_SETS}
use Rattle.model.specs.Table.{Table, table_of}
use Rattle.model.specs.Moment.{moment, program_order}
use Rattle.model.specs.Happens.{ROW_CASES, direct, nth_case, step}
use Rattle.model.specs.Refusal.{refusal, buffers_fit, admission, when_admitted}
use Rattle.model.specs.Check.{wiped}

-- ---- a step is one number: CASE × its case, 1 to 3 in M6's order, 4 for system synchronization, + the moment that it reaches

abbrev pub case_in : ℕ → ℕ
case_in x = x / CASE

abbrev pub reached : ℕ → ℕ
reached x = x % CASE

-- the number of a step by this case to moment k
abbrev pub step_to : ℕ → ℕ → ℕ
step_to case k = CASE * case + k

-- the moment that step i of a chain from m starts at; after all steps, where the chain ends
unfoldable pub stands : ℕ → List ℕ → ℕ → ℕ
stands m steps i = cond (eqb i 0) m (reached (get_or steps (i - 1) 0))

-- ---- when a derivation is accepted

module _ (t : Table) where
  -- the step x from moment m holds for the class set s: the moment that it reaches is there, and its case leads to it
  unfoldable pub step_holds : ℕ → ℕ → ℕ → Bool
  step_holds s m x = moment t (reached x) and direct t s (case_in x) m (reached x)

  -- step i doesn't hold
  unfoldable pub broken : ℕ → ℕ → List ℕ → ℕ → Bool
  broken s m steps i = not (step_holds s (stands m steps i) (get_or steps i 0))

  -- a chain of steps that hold for one class set leads from moment m to moment k
  unfoldable pub chain_holds : ℕ → ℕ → ℕ → List ℕ → Bool
  chain_holds s m k steps =
      ltb 0 s and leb s CLASS_SETS and ltb 0 (length steps) and leb (length steps) STEPS and eqb (stands m steps (length steps)) k
      and not (any_below (length steps) (broken s m steps))

  -- the reader accepts the derivation that moment m happens before moment k
  unfoldable pub accepts : ℕ → ℕ → Reason → List ℕ → Bool
  accepts m k reason.ProgramOrder steps = eqb (length steps) 0 and program_order t m k
  accepts m k (reason.Chain s) steps = chain_holds s m k steps

  -- 12: each number names a moment of the table, and they are two
  unfoldable pub two_moments : ℕ → ℕ → Bool
  two_moments m k = moment t m and moment t k and not (eqb m k)

-- ---- what the reader answers

pub data Judged : Type 0 where
  -- number and row
  refused : ℕ → ℕ → Judged
  accepted : Judged
  not_accepted : Judged

-- of a table that is admitted
unfoldable pub judged : Table → ℕ → ℕ → Reason → List ℕ → Judged
judged t m k r steps = cond (two_moments t m k) (cond (accepts t m k r steps) accepted not_accepted) (refused 12 0)

-- of any bytes and any derivation: a fill's refusals come first
unfoldable pub judge : List ℕ → ℕ → ℕ → Reason → List ℕ → Judged
judge s m k r steps = when_admitted Judged.refused (admission true s) (judged (table_of s) m k r steps)

-- whether it is accepted
unfoldable pub accept_answer : Judged → Result Bool Refusal
accept_answer (refused n i) = Err (refusal n i)
accept_answer accepted = Ok true
accept_answer not_accepted = Ok false

-- ---- the derivation that is found: docs/RULES.md leaves it open, so this is ours

module _ (t : Table) where
  -- some chain for the class set s leads from moment m to moment k
  unfoldable pub has_chain : ℕ → ℕ → ℕ → Bool
  has_chain s m k = any_below (3 * t.rows) (λ j. walk (3 * t.rows) (step t s) k (suc j) m)

  -- the fewest steps of such a chain
  unfoldable pub chain_size : ℕ → ℕ → ℕ → ℕ
  chain_size s m k = suc (least (3 * t.rows) (λ j. walk (3 * t.rows) (step t s) k (suc j) m))

  -- the lowest case that leads from moment m to moment k; taken where a step is known to hold, so the last isn't asked
  unfoldable pub lowest_case : ℕ → ℕ → ℕ → ℕ
  lowest_case s m k = suc (least ROW_CASES (nth_case t s m k))

  unfoldable pub step_number : ℕ → ℕ → ℕ → ℕ
  step_number s m k = step_to (lowest_case s m k) k

  -- a chain of the fewest steps: the least next moment each time, by the lowest case
  unfoldable pub chain : ℕ → ℕ → ℕ → List ℕ
  chain s m k = along (step_number s) k (trail (3 * t.rows) (step t s) k (chain_size s m k) m)

  -- class set c + 1
  unfoldable pub has_chain_by : ℕ → ℕ → ℕ → Bool
  has_chain_by m k c = has_chain (suc c) m k

pub data Derived : Type 0 where
  -- number and row
  refused : ℕ → ℕ → Derived
  -- the word program order
  word : Derived
  -- class set and steps
  chained : ℕ → List ℕ → Derived
  not_before : Derived

-- the chain of class set c + 1; none where c is past the class sets
unfoldable pub chain_or : Derived → Table → ℕ → ℕ → ℕ → Derived
chain_or next t m k c = cond (ltb c CLASS_SETS) (chained (suc c) (chain t (suc c) m k)) next

-- of two moments of a table that is admitted: the word, else a chain for the lowest class set that has one
unfoldable pub ours : Table → ℕ → ℕ → Derived
ours t m k = cond (program_order t m k) word (chain_or not_before t m k (least CLASS_SETS (has_chain_by t m k)))

-- of two numbers and a table that is admitted
unfoldable pub derived_of : Table → ℕ → ℕ → Derived
derived_of t m k = cond (two_moments t m k) (ours t m k) (refused 12 0)

-- of any bytes and numbers, with a work area and a chain buffer of such lengths
unfoldable pub derive : List ℕ → ℕ → ℕ → ℕ → ℕ → Derived
derive s m k work buffer =
    cond (buffers_fit STEPS work buffer) (when_admitted Derived.refused (admission true s) (derived_of (table_of s) m k)) (refused 11 0)

-- ---- what comes back

unfoldable pub derive_answer : Derived → Result DeriveAnswer Refusal
derive_answer (refused n i) = Err (refusal n i)
derive_answer word = Ok derived.ProgramOrder
derive_answer (chained s l) = Ok (derived.Chain s (length l))
derive_answer not_before = Ok derived.NotBefore

-- the chain buffer: its steps from place 0, the rest kept; untouched unless there is a chain
unfoldable pub chain_after : Derived → List ℕ → List ℕ
chain_after (chained s l) c = l ++ drop (length l) c
chain_after (refused n i) c = c
chain_after word c = c
chain_after not_before c = c

-- the work area: its first words become zeros, unless the table is refused
unfoldable pub work_after : Derived → List ℕ → List ℕ
work_after (refused n i) w = w
work_after word w = wiped w
work_after (chained s l) w = wiped w
work_after not_before w = wiped w
