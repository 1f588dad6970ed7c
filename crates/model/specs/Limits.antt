-- The limits (docs/FORMAT.md), and the two sources that are no row's number.
use Rattle.std.specs.Prelude.{ℕ}

abbrev pub AGENTS : ℕ
AGENTS = 32

abbrev pub ROWS : ℕ
ROWS = 128

-- 64-bit words of the work area
abbrev pub WORK : ℕ
WORK = 8192

-- numbers of the cycle buffer, and the place of the first edge number
abbrev pub CYCLE : ℕ
CYCLE = 256

abbrev pub CYCLE_EDGES : ℕ
CYCLE_EDGES = 128

-- numbers of the source buffer
abbrev pub SOURCES : ℕ
SOURCES = 128

-- steps of a derivation, at most: one fewer than there are moments; numbers of the buffer that they are written to
abbrev pub STEPS : ℕ
STEPS = 383

-- what a step adds to the moment that it reaches, for each number of its case
abbrev pub CASE : ℕ
CASE = 512

-- dependencies of a table, at most
abbrev pub DEPENDENCIES : ℕ
DEPENDENCIES = 64

-- bytes of an access, and of all that a start can reach
abbrev pub LONGEST : ℕ
LONGEST = 16

abbrev pub BYTES : ℕ
BYTES = 65536

-- bytes of an atomic: one or the other
abbrev pub ATOMIC_SHORT : ℕ
ATOMIC_SHORT = 4

abbrev pub ATOMIC_LONG : ℕ
ATOMIC_LONG = 8

-- ranks are counts of 16 bits; a run of consecutive counts has half of them
abbrev pub COUNTS : ℕ
COUNTS = 65536

abbrev pub RUN : ℕ
RUN = 32768

-- the initial value, and a blank (a term of the rules, not of 003: a source that a fill is to find)
abbrev pub INITIAL : ℕ
INITIAL = 65535

abbrev pub BLANK : ℕ
BLANK = 65534

-- M6: the class sets are the numbers 1 to 15
abbrev pub CLASS_SETS : ℕ
CLASS_SETS = 15
