-- Location order at a byte: L1, L2, L3 (Availability) and, with host agents, L4 and L5.
use Rattle.std.specs.Prelude.{Bool, not, cond, ℕ, eqb}
use Rattle.std.specs.Bool.{beq}
use Rattle.finite.specs.Logic.{◌and◌, ◌or◌}
use Rattle.finite.specs.Below.{any_below}
use Rattle.finite.specs.Closure.{through}
use Rattle.model.specs.declared.Row.{Row}
use Rattle.model.specs.Row.{AVAILABLE_HOST, AVAILABLE_DEVICE, VISIBLE_HOST, VISIBLE_DEVICE, HOST_TO_DEVICE, DEVICE_TO_HOST, access, reads}
use Rattle.model.specs.Row.{writes, non_private, touches}
use Rattle.model.specs.Table.{Table}
use Rattle.model.specs.Scope.{host}
use Rattle.model.specs.Moment.{itself, same_agent}
use Rattle.model.specs.Happens.{happens}
use Rattle.model.specs.Availability.{same_reference, L3}

-- ---- L1, L2

-- r reads and doesn't write; both are non-private
unfoldable pub pure_read : Row → Row → Bool
pure_read r q = reads r and not (writes r) and non_private r and non_private q

unfoldable pub L1 : Table → ℕ → ℕ → Bool
L1 t x y = same_agent t x y and same_reference (t.row x) (t.row y) and happens t (itself x) (itself y)

unfoldable pub L2 : Table → ℕ → ℕ → Bool
L2 t x y = pure_read (t.row x) (t.row y) and happens t (itself x) (itself y)

-- ---- L4: 003's read case for system synchronization. A read that also writes is held to L3 and L5, as in L2

-- row x (transitively) system-synchronizes with row y
unfoldable pub system_before : Table → ℕ → ℕ → Bool
system_before t x y = through t.depends t.rows x y

unfoldable pub L4 : Table → ℕ → ℕ → Bool
L4 t x y = reads (t.row x) and not (writes (t.row x)) and system_before t x y

-- ---- L5: 003's final bullet, by way of the memory domains of the host and of the device. Each arrow is happens-before between rows

-- row i is the operation of this kind, and row x happens before it
unfoldable pub thence : Table → ℕ → ℕ → ℕ → Bool
thence t kind x i = eqb (t.row i).kind kind and happens t (itself x) (itself i)

-- x's agent executes on the host; if not, on the device
unfoldable pub on_host : Table → ℕ → Bool
on_host t x = host t.places (t.row x).agent

-- the operations that make available to x's domain, make visible from it, and carry out of it
unfoldable pub available_kind : Table → ℕ → ℕ
available_kind t x = cond (on_host t x) AVAILABLE_HOST AVAILABLE_DEVICE

unfoldable pub visible_kind : Table → ℕ → ℕ
visible_kind t y = cond (on_host t y) VISIBLE_HOST VISIBLE_DEVICE

unfoldable pub domain_kind : Table → ℕ → ℕ
domain_kind t x = cond (on_host t x) HOST_TO_DEVICE DEVICE_TO_HOST

-- y sees by way of i what the operation m leaves in y's domain
unfoldable pub seen_by : Table → ℕ → ℕ → ℕ → Bool
seen_by t y m i = thence t (visible_kind t y) m i and happens t (itself i) (itself y)

-- y meets what the operation m leaves in y's domain: a reader by way of a visibility operation, any other at once
unfoldable pub met_from : Table → ℕ → ℕ → Bool
met_from t y m = cond (reads (t.row y)) (any_below t.rows (seen_by t y m)) (happens t (itself m) (itself y))

-- y meets what the operation a makes available to x's domain and d carries to y's
unfoldable pub carried_by : Table → ℕ → ℕ → ℕ → ℕ → Bool
carried_by t x y a d = thence t (domain_kind t x) a d and met_from t y d

-- y meets what the operation a makes available to x's domain; where that is y's domain too, nothing needs to be carried
unfoldable pub reaches_by : Table → ℕ → ℕ → ℕ → Bool
reaches_by t x y a =
    thence t (available_kind t x) x a and cond (beq (on_host t x) (on_host t y)) (met_from t y a) (any_below t.rows (carried_by t x y a))

unfoldable pub L5 : Table → ℕ → ℕ → Bool
L5 t x y = writes (t.row x) and any_below t.rows (reaches_by t x y)

-- ---- location order

-- b is a byte of both
unfoldable pub common : Row → Row → ℕ → Bool
common r q b = access r and access q and touches r b and touches q b

-- x is location-ordered before y at b
unfoldable pub before : Table → ℕ → ℕ → ℕ → Bool
before t x y b = not (eqb x y) and common (t.row x) (t.row y) b and (L1 t x y or L2 t x y or L3 t x y b or L4 t x y or L5 t x y)
