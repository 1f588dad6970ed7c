-- A row by itself: refusals 5 to 7, 19 and 20. The first that holds is the row's number.
use Rattle.std.specs.Prelude.{Bool, not, cond, List, ℕ, ◌+◌, ◌%◌, ltb, leb, eqb}
use Rattle.std.specs.Bool.{beq}
use Rattle.finite.specs.Logic.{◌and◌, ◌or◌}
use Rattle.model.specs.declared.Row.{Row}
use Rattle.model.specs.Limits.{LONGEST, BYTES, ATOMIC_SHORT, ATOMIC_LONG, INITIAL}
use Rattle.model.specs.Row.{CONTROL, ATOMIC_READ, ATOMIC_WRITE, RELAXED, ACQUIRE, RELEASE, BOTH, plain, atomic, access, barrier, control}
use Rattle.model.specs.Row.{operation, reads, writes, ranked, acquires, releases, non_private, makes_available, makes_visible}
use Rattle.model.specs.Scope.{INVOCATION, DEVICE, HOST, QUEUE, agent_kind}

-- ---- 5: codes

-- the greatest set of classes, of flags, and the greatest class
abbrev pub MOST_CLASSES : ℕ
MOST_CLASSES = 15

abbrev pub MOST_FLAGS : ℕ
MOST_FLAGS = 7

abbrev pub MOST_CLASS : ℕ
MOST_CLASS = 3

-- 5: each code is in range; `hosts` says whether there are kinds of queue agents. A control barrier has a scope in the place of its class
unfoldable pub codes_fit : Bool → ℕ → Row → Bool
codes_fit hosts agents r =
    (leb r.kind CONTROL or (hosts and operation r)) and ltb r.agent agents and leb r.order BOTH and leb r.scope DEVICE and leb r.classes MOST_CLASSES
    and leb r.flags MOST_FLAGS and leb r.class (cond (control r) DEVICE MOST_CLASS)

-- 19: a host agent has plain rows, a queue agent operations, a shader agent the rest
unfoldable pub agent_fits : ℕ → Row → Bool
agent_fits kind r = cond (eqb kind HOST) (plain r) (cond (eqb kind QUEUE) (operation r) (not (operation r)))

-- 20: an operation has zeros in bytes 2 to 11 and as its rank, and source 65535
unfoldable pub operation_fits : Row → ℕ → Bool
operation_fits r source =
    eqb r.order 0 and eqb r.scope 0 and eqb r.classes 0 and eqb r.flags 0 and eqb r.class 0 and eqb r.size 0
    and eqb r.start 0 and eqb r.reference 0 and eqb r.rank 0 and eqb source INITIAL

-- 6, plain rows: a read may not make available, a write may not make visible; either flag needs non-private; without either, scope 0
unfoldable pub plain_fits : Row → Bool
plain_fits r =
    eqb r.order RELAXED and eqb r.classes 0 and not (reads r and makes_available r) and not (writes r and makes_visible r)
    and cond (makes_available r or makes_visible r) (non_private r) (eqb r.scope INVOCATION)

-- 6, atomic rows are non-private, and each kind has its orders
unfoldable pub atomic_fits : Row → Bool
atomic_fits r =
    non_private r and (not (eqb r.kind ATOMIC_READ) or eqb r.order RELAXED or eqb r.order ACQUIRE)
    and (not (eqb r.kind ATOMIC_WRITE) or eqb r.order RELAXED or eqb r.order RELEASE)

-- 6, barriers: order 1 to 3, not non-private, bytes 6 and 8 to 11 zero; a control barrier may have order 0, a scope in byte 6, and a start
unfoldable pub barrier_fits : Row → Bool
barrier_fits r =
    (control r or (not (eqb r.order RELAXED) and eqb r.class 0 and eqb r.start 0)) and not (non_private r)
    and eqb r.reference 0

-- 6, atomics and barriers: make available needs a release, make visible an acquire; classes are empty exactly when order is 0
unfoldable pub semantics_fit : Row → Bool
semantics_fit r =
    (not (makes_available r) or releases r) and (not (makes_visible r) or acquires r)
    and beq (eqb r.classes 0) (eqb r.order RELAXED)

-- 6: what is no access has no bytes
unfoldable pub bytes_fit : Row → Bool
bytes_fit r = access r or eqb r.size 0

-- 6: kind fit, with the row's source
unfoldable pub kind_fits : Row → ℕ → Bool
kind_fits r source =
    (not (plain r) or plain_fits r) and (not (atomic r) or atomic_fits r) and (not (barrier r) or barrier_fits r)
    and (plain r or semantics_fit r) and (reads r or eqb source INITIAL) and (ranked r or eqb r.rank 0) and bytes_fit r

-- 7, atomic rows: ATOMIC_SHORT or ATOMIC_LONG bytes, whose number divides the start
unfoldable pub atomic_extent_fits : Row → Bool
atomic_extent_fits r =
    (eqb r.size ATOMIC_SHORT and eqb (r.start % ATOMIC_SHORT) 0) or (eqb r.size ATOMIC_LONG and eqb (r.start % ATOMIC_LONG) 0)

-- 7: an access has 1 to LONGEST bytes, all below BYTES, and an atomic row those of an atomic
unfoldable pub extent_fits : Row → Bool
extent_fits r =
    (not (access r) or (leb 1 r.size and leb r.size LONGEST and leb (r.start + r.size) BYTES))
    and (not (atomic r) or atomic_extent_fits r)

-- 20 for an operation, in place of 6 for any other row
unfoldable pub form_fault : Row → ℕ → ℕ
form_fault r source = cond (operation r) (cond (operation_fits r source) 0 20) (cond (kind_fits r source) (cond (extent_fits r) 0 7) 6)

unfoldable pub row_fault : Bool → List (List ℕ) → ℕ → Row → ℕ → ℕ
row_fault hosts p agents r source = cond (codes_fit hosts agents r) (cond (agent_fits (agent_kind p r.agent) r) (form_fault r source) 19) 5
