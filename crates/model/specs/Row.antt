-- What a row is: its kind, order, flags, classes and bytes, each test by name. Beside this page the refusals compare codes themselves, and L5
-- names the kinds of its operations.
use Rattle.std.specs.Prelude.{Bool, true, false, not, cond, ℕ, ◌+◌, ltb, leb, eqb}
use Rattle.std.specs.Int.Bits.{bit_and}
use Rattle.finite.specs.Logic.{◌and◌, ◌or◌}
use Rattle.finite.specs.Below.{least}
use Rattle.model.specs.declared.Row.{Row}
use Rattle.std.specs.declared.option.Option.{Option}
use Rattle.std.specs.declared.option.Option.TheVariants.{None, Some}

-- ---- kinds

abbrev pub PLAIN_READ : ℕ
PLAIN_READ = 0

abbrev pub PLAIN_WRITE : ℕ
PLAIN_WRITE = 1

abbrev pub ATOMIC_READ : ℕ
ATOMIC_READ = 2

abbrev pub ATOMIC_WRITE : ℕ
ATOMIC_WRITE = 3

abbrev pub RMW : ℕ
RMW = 4

abbrev pub BARRIER : ℕ
BARRIER = 5

abbrev pub CONTROL : ℕ
CONTROL = 6

-- operations on the memory domains of the host and of the device, which queue agents alone perform: 7 and 8 make available to them,
-- 9 and 10 make visible from them, 11 and 12 carry from the one to the other
abbrev pub AVAILABLE_HOST : ℕ
AVAILABLE_HOST = 7

abbrev pub AVAILABLE_DEVICE : ℕ
AVAILABLE_DEVICE = 8

abbrev pub VISIBLE_HOST : ℕ
VISIBLE_HOST = 9

abbrev pub VISIBLE_DEVICE : ℕ
VISIBLE_DEVICE = 10

abbrev pub HOST_TO_DEVICE : ℕ
HOST_TO_DEVICE = 11

abbrev pub DEVICE_TO_HOST : ℕ
DEVICE_TO_HOST = 12

unfoldable pub plain : Row → Bool
plain r = leb r.kind PLAIN_WRITE

unfoldable pub atomic : Row → Bool
atomic r = leb ATOMIC_READ r.kind and leb r.kind RMW

unfoldable pub access : Row → Bool
access r = leb r.kind RMW

-- a memory barrier; a control barrier is one too
unfoldable pub barrier : Row → Bool
barrier r = eqb r.kind BARRIER or eqb r.kind CONTROL

unfoldable pub control : Row → Bool
control r = eqb r.kind CONTROL

unfoldable pub operation : Row → Bool
operation r = leb AVAILABLE_HOST r.kind and leb r.kind DEVICE_TO_HOST

unfoldable pub plain_read : Row → Bool
plain_read r = eqb r.kind PLAIN_READ

unfoldable pub rmw : Row → Bool
rmw r = eqb r.kind RMW

unfoldable pub reads : Row → Bool
reads r = eqb r.kind PLAIN_READ or eqb r.kind ATOMIC_READ or eqb r.kind RMW

unfoldable pub writes : Row → Bool
writes r = eqb r.kind PLAIN_WRITE or eqb r.kind ATOMIC_WRITE or eqb r.kind RMW

-- the writers that have a rank (a term of the rules, not of 003: a writer's place in its modification order)
unfoldable pub ranked : Row → Bool
ranked r = eqb r.kind ATOMIC_WRITE or eqb r.kind RMW

-- ---- orders

abbrev pub RELAXED : ℕ
RELAXED = 0

abbrev pub ACQUIRE : ℕ
ACQUIRE = 1

abbrev pub RELEASE : ℕ
RELEASE = 2

abbrev pub BOTH : ℕ
BOTH = 3

unfoldable pub acquires : Row → Bool
acquires r = eqb r.order ACQUIRE or eqb r.order BOTH

unfoldable pub releases : Row → Bool
releases r = eqb r.order RELEASE or eqb r.order BOTH

-- ---- control barriers

-- a control barrier's instance number stands in the place of a start, its execution scope in that of a class
abbrev pub instance_of : Row → ℕ
instance_of r = r.start

abbrev pub execution_of : Row → ℕ
execution_of r = r.class

unfoldable pub same_instance : Row → Row → Bool
same_instance r q = control r and control q and eqb (instance_of r) (instance_of q)

-- ---- sets of classes and flags, as bits of a number

-- all of s is in c; some of s is in c
unfoldable pub holds : ℕ → ℕ → Bool
holds c s = eqb (bit_and c s) s

unfoldable pub meets : ℕ → ℕ → Bool
meets c s = not (eqb (bit_and c s) 0)

-- the set of one class: 1 Uniform, 2 Workgroup, 4 Image, 8 Output
unfoldable pub single : ℕ → ℕ
single c = cond (eqb c 0) 1 (cond (eqb c 1) 2 (cond (eqb c 2) 4 8))

-- r's class is in the set s
unfoldable pub class_in : Row → ℕ → Bool
class_in r s = meets s (single r.class)

unfoldable pub non_private : Row → Bool
non_private r = meets r.flags 1

unfoldable pub makes_available : Row → Bool
makes_available r = meets r.flags 2

unfoldable pub makes_visible : Row → Bool
makes_visible r = meets r.flags 4

-- ---- bytes

-- b is one of the m bytes from a
unfoldable pub inside : ℕ → ℕ → ℕ → Bool
inside a m b = leb a b and ltb b (a + m)

-- b is a byte of r
unfoldable pub touches : Row → ℕ → Bool
touches r b = inside r.start r.size b

-- w's bytes hold all of r's
unfoldable pub covers : Row → Row → Bool
covers w r = leb w.start r.start and leb (r.start + r.size) (w.start + w.size)

-- the lowest of the m bytes from a that is one of the n bytes from b
unfoldable pub lowest_shared : ℕ → ℕ → ℕ → ℕ → Option ℕ
lowest_shared a m b n = let k = least m (λ k. inside b n (a + k)) in cond (ltb k m) (Some (a + k)) None

unfoldable pub is_shared : Option ℕ → Bool
is_shared (Some b) = true
is_shared None = false

-- two rows share a byte
unfoldable pub overlap : Row → Row → Bool
overlap r q = is_shared (lowest_shared r.start r.size q.start q.size)
