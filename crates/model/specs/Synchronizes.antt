-- M4 and M5: release sequences and synchronizes-with.
use Rattle.std.specs.Prelude.{Bool, not, ℕ, ltb, leb, eqb}
use Rattle.finite.specs.Logic.{◌and◌, ◌or◌}
use Rattle.finite.specs.Below.{any_below}
use Rattle.model.specs.declared.Row.{Row}
use Rattle.model.specs.Row.{atomic, barrier, rmw, reads, writes, releases, acquires, execution_of, same_instance, class_in}
use Rattle.model.specs.Table.{Table}
use Rattle.model.specs.Scope.{shares, together, mutually, later, follows}
use Rattle.model.specs.Moment.{same_agent}

-- ---- M4

-- after the head, an RMW by any agent continues a sequence, and nothing else does
unfoldable pub continues : Row → Bool
continues r = rmw r

-- z, no later than w in the scoped order of the head a, ends a's sequence
unfoldable pub ends : Table → ℕ → ℕ → ℕ → Bool
ends t a w z = follows t a z and not (later t.counted (t.row z).rank (t.row w).rank) and not (continues (t.row z))

-- M4: w is in the release sequence that a heads
unfoldable pub sequence : Table → ℕ → ℕ → Bool
sequence t a w = eqb a w or (follows t a w and not (any_below t.rows (ends t a w)))

-- y reads from the sequence that the writer x heads, and the two are mutually-ordered
unfoldable pub takes_from : Table → ℕ → ℕ → Bool
takes_from t x y =
    mutually t x y and writes (t.row x) and reads (t.row y) and ltb (t.source y) t.rows and sequence t x (t.source y)

-- ---- M5

-- x is program-ordered after the barrier a, and its class is in a's semantics
unfoldable pub leads : Table → ℕ → ℕ → Bool
leads t a x = ltb a x and same_agent t a x and class_in (t.row x) (t.row a).classes

-- y is program-ordered before the barrier b, and its class is in b's semantics
unfoldable pub trails : Table → ℕ → ℕ → Bool
trails t b y = ltb y b and same_agent t y b and class_in (t.row y) (t.row b).classes

-- M5: release atomic a, acquire atomic b
unfoldable pub sync_atomics : Table → ℕ → ℕ → Bool
sync_atomics t a b = atomic (t.row a) and atomic (t.row b) and takes_from t a b

-- M5: release barrier a, acquire atomic b, by an atomic writer x after a
unfoldable pub carries_out : Table → ℕ → ℕ → ℕ → Bool
carries_out t a b x = leads t a x and takes_from t x b

unfoldable pub sync_from_barrier : Table → ℕ → ℕ → Bool
sync_from_barrier t a b =
    barrier (t.row a) and atomic (t.row b) and together t.places (t.row a) (t.row b) and any_below t.rows (carries_out t a b)

-- M5: release atomic a, acquire barrier b, by an atomic reader y before b
unfoldable pub carries_in : Table → ℕ → ℕ → ℕ → Bool
carries_in t a b y = trails t b y and takes_from t a y

unfoldable pub sync_to_barrier : Table → ℕ → ℕ → Bool
sync_to_barrier t a b =
    atomic (t.row a) and barrier (t.row b) and together t.places (t.row a) (t.row b) and any_below t.rows (carries_in t a b)

-- M5: two barriers, by an atomic writer x after a and an atomic reader y before b
unfoldable pub carries_over : Table → ℕ → ℕ → ℕ → Bool
carries_over t a b x = leads t a x and any_below t.rows (carries_in t x b)

unfoldable pub sync_barriers : Table → ℕ → ℕ → Bool
sync_barriers t a b =
    not (eqb a b) and barrier (t.row a) and barrier (t.row b) and together t.places (t.row a) (t.row b)
    and any_below t.rows (carries_over t a b)

-- row a is program-ordered before row c, or is c
unfoldable pub up_to : Table → ℕ → ℕ → Bool
up_to t a c = leb a c and same_agent t a c

-- the control barrier of the appendix's rule is met by two different rows of one instance: c, and d of an agent that shares its execution scope
unfoldable pub joins : Table → ℕ → ℕ → Bool
joins t c d =
    not (eqb c d) and same_instance (t.row c) (t.row d) and shares t.places (execution_of (t.row c)) (t.row c).agent (t.row d).agent

unfoldable pub arrives : Table → ℕ → ℕ → ℕ → Bool
arrives t b c d = up_to t d b and joins t c d

unfoldable pub passes : Table → ℕ → ℕ → ℕ → Bool
passes t a b c = up_to t a c and any_below t.rows (arrives t b c)

-- M5: two barriers, by a control barrier that a comes before or is, and that comes before b or is b
unfoldable pub sync_control : Table → ℕ → ℕ → Bool
sync_control t a b =
    not (eqb a b) and barrier (t.row a) and barrier (t.row b) and together t.places (t.row a) (t.row b)
    and any_below t.rows (passes t a b)

-- M5: the release row a synchronizes-with the acquire row b
unfoldable pub synchronizes : Table → ℕ → ℕ → Bool
synchronizes t a b =
    releases (t.row a) and acquires (t.row b)
    and (sync_atomics t a b or sync_from_barrier t a b or sync_to_barrier t a b or sync_barriers t a b or sync_control t a b)
