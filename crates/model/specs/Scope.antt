-- M2 and M3: scopes, mutually-ordered atomics, scoped modification order.
use Rattle.std.specs.Prelude.{Bool, not, cond, List, [], ℕ, ◌+◌, ◌-◌, ◌%◌, get_or, ltb, leb, eqb}
use Rattle.finite.specs.Logic.{◌and◌, ◌or◌}
use Rattle.model.specs.declared.Row.{Row}
use Rattle.model.specs.Limits.{COUNTS, RUN}
use Rattle.model.specs.Row.{atomic, writes}
use Rattle.model.specs.Table.{Table}

-- ---- what an agent is, by the fourth number of its place

abbrev pub SHADER : ℕ
SHADER = 0

abbrev pub HOST : ℕ
HOST = 1

abbrev pub QUEUE : ℕ
QUEUE = 2

unfoldable pub agent_kind : List (List ℕ) → ℕ → ℕ
agent_kind p a = get_or (get_or p a []) 3 0

unfoldable pub shader : List (List ℕ) → ℕ → Bool
shader p a = eqb (agent_kind p a) SHADER

unfoldable pub host : List (List ℕ) → ℕ → Bool
host p a = eqb (agent_kind p a) HOST

-- ---- M2

abbrev pub INVOCATION : ℕ
INVOCATION = 0

abbrev pub SUBGROUP : ℕ
SUBGROUP = 1

abbrev pub WORKGROUP : ℕ
WORKGROUP = 2

abbrev pub FAMILY : ℕ
FAMILY = 3

abbrev pub DEVICE : ℕ
DEVICE = 4

-- the k-th place number of agents a and b agrees
unfoldable pub agree : List (List ℕ) → ℕ → ℕ → ℕ → Bool
agree p k a b = eqb (get_or (get_or p a []) k 0) (get_or (get_or p b []) k 0)

-- M2: one instance of the scope holds the agents a and b, by their places
unfoldable pub one_instance : List (List ℕ) → ℕ → ℕ → ℕ → Bool
one_instance p scope a b =
    eqb scope DEVICE
    or (eqb scope FAMILY and agree p 0 a b)
    or (eqb scope WORKGROUP and agree p 0 a b and agree p 1 a b)
    or (eqb scope SUBGROUP and agree p 0 a b and agree p 1 a b and agree p 2 a b)
    or (eqb scope INVOCATION and eqb a b)

-- M2: agents a and b share the scope: scopes hold between shader agents only
unfoldable pub shares : List (List ℕ) → ℕ → ℕ → ℕ → Bool
shares p scope a b = shader p a and shader p b and one_instance p scope a b

-- the agents of two rows share both rows' scopes
unfoldable pub together : List (List ℕ) → Row → Row → Bool
together p r q = shares p r.scope r.agent q.agent and shares p q.scope r.agent q.agent

-- ---- M3

unfoldable pub same_location : Row → Row → Bool
same_location r q = eqb r.start q.start and eqb r.size q.size and eqb r.reference q.reference

-- M3 of two rows that are different
unfoldable pub mutual_rows : List (List ℕ) → Row → Row → Bool
mutual_rows p r q = atomic r and atomic q and same_location r q and together p r q

-- M3: two different atomic rows are mutually-ordered
unfoldable pub mutually : Table → ℕ → ℕ → Bool
mutually t x y = not (eqb x y) and mutual_rows t.places (t.row x) (t.row y)

-- how many counts rank a lies after rank b, wrapping
unfoldable pub age : ℕ → ℕ → ℕ
age a b = (a + COUNTS - b) % COUNTS

-- of two ranks, a is the later: as numbers, or, where ranks are counted, by an age of 1 to 32767. Nothing else compares ranks, but
-- for being equal and for fitting in a run
unfoldable pub later : Bool → ℕ → ℕ → Bool
later counted a b = cond counted (leb 1 (age a b) and ltb (age a b) RUN) (ltb b a)

unfoldable pub later_writer : Bool → Row → Row → Bool
later_writer counted q r = writes q and writes r and later counted q.rank r.rank

-- M3: y follows x in their scoped modification order
unfoldable pub follows : Table → ℕ → ℕ → Bool
follows t x y = mutually t x y and later_writer t.counted (t.row y) (t.row x)
